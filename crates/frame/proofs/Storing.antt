-- Laws of `sets`, a row of elements stored from a place on.
-- Assumes nothing.
use Prim.Native.Nat.{ℕ, suc, ◌+◌, ◌<◌, ◌≤◌}
use mathlib.Core.Path.{◌≡◌, refl}
use mathlib.Core.List.{List, [], ◌∷◌, ◌++◌}
use native.Mathlib.Omega.{arith}
use native.Mathlib.Numerals.{add-one}
use lib.ListN.{length, get_or, take, drop, set}
use lib.Seq.{sets, sets-eq, take-suc, length-take-le, take_at}

module _ {A : Type 0} where
  -- two rows one after the other
  pub sets_append : (l : List A) (at : ℕ) (xs ys : List A) → sets l at (xs ++ ys) ≡ sets (sets l at xs) (at + length xs) ys
  sets_append l at [] ys = let e : at + 0 ≡ at = omega arith in rw e
  sets_append l at (x ∷ xs) ys =
      let e : at + suc (length xs) ≡ suc at + length xs = omega arith in
      rw e (sets_append (set l at x) (suc at) xs ys)

  -- a turn of a loop that stores the elements of p one by one
  pub store_step : (l p : List A) (d : A) (i : ℕ) → i < length p → set (sets l 0 (take i p)) i (get_or p i d) ≡ sets l 0 (take (i + 1) p)
  store_step l p d i h =
      let e : 0 + length (take i p) ≡ i = omega (arith, length-take-le i p (omega arith)) in
      rw (add-one, take-suc p i d h, sets_append l 0 (take i p) (get_or p i d ∷ [])) (rw e refl)

  -- what was stored is read back
  pub take-sets : (l s : List A) → length s ≤ length l → take (length s) (sets l 0 s) ≡ s
  take-sets l s h =
      let k : 0 + length s ≤ length l = omega arith in
      rw (sets-eq s l 0 k) (take_at s (drop (0 + length s) l) (length s) refl)
