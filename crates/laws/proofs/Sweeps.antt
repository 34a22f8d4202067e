-- A loop that changes each element of a list.
-- Assumes nothing.
use Prim.Native.Nat.{ℕ, zero, suc, ◌+◌, ◌<◌, ◌≤◌}
use mathlib.Core.Path.{◌≡◌, refl, sym, ap, ◌∙◌}
use mathlib.Core.Bool.{Bool, true}
use mathlib.Core.List.{List, [], ◌∷◌, ◌++◌, map, append-nil}
use native.Mathlib.Nat.{not-suc-le-zero, le_of_suc-le-suc}
use native.Mathlib.Numerals.{add-one}
use lib.ListN.{length, get_or, set, take, drop, drop_of_length-le, length-append, length-map}
use lib.Seq.{take_all}
use Rattle.std.proofs.lemmas.List.{get_or_default, take-append-drop}
use Rattle.std.proofs.lemmas.List.Edits.{map_over_more}
use Rattle.laws.specs.Lists.{map_at}

-- A loop that changes each element of a list by f: after i turns the first i are changed.
abbrev pub upto : {A : Type 0} → (A → A) → ℕ → List A → List A
upto f zero l = l
upto f (suc i) [] = []
upto f (suc i) (x ∷ l) = f x ∷ upto f i l

module _ {A : Type 0} (f : A → A) (d : A) where
  upto-suc : (l : List A) (i : ℕ) → i < length l → set (upto f i l) i (f (get_or (upto f i l) i d)) ≡ upto f (suc i) l
  upto-suc [] i h = absurd (not-suc-le-zero h)
  upto-suc (x ∷ l) zero h = refl
  upto-suc (x ∷ l) (suc i) h = ap (λ (t : List A). f x ∷ t) (upto-suc l i (le_of_suc-le-suc h))

  pub upto_step : (l m : List A) (r : A) (i : ℕ) → i < length l → r ≡ f (get_or m i d) → m ≡ upto f i l → set m i r ≡ upto f (i + 1) l
  upto_step l m r i h e inv = rw (e, inv, add-one) (upto-suc l i h)

  pub upto-end : (l m : List A) (i : ℕ) → length l ≤ i → m ≡ upto f i l → m ≡ map f l
  upto-end l m i h inv = inv ∙ whole l i h
    where
      whole : (l : List A) (i : ℕ) → length l ≤ i → upto f i l ≡ map f l
      whole [] zero h = refl
      whole [] (suc i) h = refl
      whole (x ∷ l) zero h = absurd (not-suc-le-zero h)
      whole (x ∷ l) (suc i) h = ap (λ (t : List A). f x ∷ t) (whole l i (le_of_suc-le-suc h))

-- The same where the loop is a `for` over the elements, with what the library says of those that are changed and of the others; d stands past the end
-- where the element is read.
module _ {A : Type 0} (f : A → A) (d : A) (l m : List A) (i : ℕ) (inv : m ≡ map f (take i l) ++ drop i l) where
  whole : length m ≡ length l
  whole =
      ap length inv ∙ length-append (map f (take i l)) (drop i l) ∙ ap (λ (n : ℕ). n + length (drop i l)) (length-map (take i l) f)
      ∙ sym (length-append (take i l) (drop i l)) ∙ ap length (take-append-drop i l)

  pub swept_more : (y : A) → i < length l → y ≡ f (get_or m i d) → set m i y ≡ map f (take (i + 1) l) ++ drop (i + 1) l
  swept_more y h e =
      ap (set m i) e ∙ map_over_more f l m i (get_or m i d) h inv (get_or_default m i d (get_or m i d) (rw whole h))

  pub swept_all : length l ≤ i → m ≡ map f l
  swept_all h = inv ∙ rw (take_all i l h, drop_of_length-le l h) (append-nil (map f l))

-- where every place passes, each element is changed
pub map-every : {A : Type 0} (t : ℕ → Bool) (f : A → A) (l : List A) → ((i : ℕ) → t i ≡ true) → map_at t f l ≡ map f l
map-every t f [] h = refl
map-every t f (x ∷ l) h = rw (h 0) (ap (λ (s : List _). f x ∷ s) (map-every (λ i. t (suc i)) f l (λ i. h (suc i))))
