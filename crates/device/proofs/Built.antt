-- A loop that fills a list by what f makes of another's elements.
-- Assumes nothing.
use Prim.Native.Nat.{ℕ, ◌+◌, ◌<◌, ◌≤◌}
use mathlib.Core.Path.{◌≡◌, sym, ap₂, ◌∙◌}
use mathlib.Core.List.{List, [], ◌∷◌, ◌++◌, map}
use native.Mathlib.Numerals.{add-one}
use native.Mathlib.Omega.{arith}
use lib.ListN.{length, get_or, set, take, length-map, get_or-map}
use lib.Seq.{take-suc, take-suc-set, take_all}

module _ {A B : Type 0} (f : A → B) (a : A) (l : List A) (m : List B) (i : ℕ) (alike : length m ≡ length l) (inv : take i m ≡ take i (map f l)) where
  pub built-step : (r : B) → i < length l → r ≡ f (get_or l i a) → take (i + 1) (set m i r) ≡ take (i + 1) (map f l)
  built-step r h e =
      let n = length-map l f in
      rw add-one
      (take-suc-set m i r (omega arith) ∙ ap₂ (λ (s : List B) (x : B). s ++ (x ∷ [])) inv (e ∙ sym (get_or-map f l i a))
      ∙ sym (take-suc (map f l) i (f a) (omega arith)))

  pub built-end : length l ≤ i → m ≡ map f l
  built-end h =
      let n = length-map l f in
      sym (take_all i m (omega arith)) ∙ inv ∙ take_all i (map f l) (omega arith)
