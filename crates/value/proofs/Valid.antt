-- What a valid DIRECT format has: R is small.
-- Assumes nothing.
use mathlib.Core.Path.{◌≡◌}
use mathlib.Core.Bool.{Bool, true, false, not, ◌&&◌, ◌||◌, and-eq-true_iff}
use Prim.Native.Nat.{ℕ, ◌≤◌, ◌<◌}
use native.Mathlib.Omega.{arith}
use lib.Dec.{T, eqb, ltb, leb, leb→le}
use lib.IntN.{nat_abs}
use Rattle.laws.proofs.Every.{each}
use Rattle.linear11.specs.Linear11.{signed_of}
use Rattle.value.specs.declared.format.Format.{Format}
use Rattle.value.specs.Format.{signed_byte, format_valid}

abbrev in_range : ℕ → Bool
in_range r = ltb r 7 || ltb 249 r

-- R from -6 to 6, over all bytes
small_r : (r : ℕ) → r < 256 → in_range r ≡ true → nat_abs (signed_byte r) ≤ 6
unfolding signed_of
small_r r h e = leb→le (nat_abs (signed_of 128 r)) 6 (by (in_range r) _ e (each (λ n. not (in_range n) || leb (nat_abs (signed_of 128 n)) 6) 256 tt r h))
  where
    by : (a b : Bool) → a ≡ true → T (not a || b) → T b
    by true b e t = t
    by false b e t = absurd (let w : ◌≡◌ {A = ℕ} 0 1 = cc in omega arith)

module _ (f : Format) (d : f.direct ≡ true) (v : format_valid f ≡ true) where
  parts : (not (eqb f.m 0) && in_range f.r) ≡ true
  unfolding format_valid
  parts = rw d at v

  pub valid_r : f.r < 256 → nat_abs (signed_byte f.r) ≤ 6
  valid_r h = small_r f.r h ((and-eq-true_iff (not (eqb f.m 0)) (in_range f.r)).0 parts).1
