-- The best of all rows is the nearest word, and there is one such word only.
-- Assumes nothing.
use mathlib.Core.Path.{◌≡◌, subst}
use mathlib.Core.Logic.{◌⊎◌, inl, inr, ⊎_elim}
use Prim.Native.Nat.{ℕ, ◌*◌, ◌^◌, ◌<◌, ◌≤◌}
use native.Mathlib.Nat.{mul-le-mul_right, le_of_mul-le-mul_right}
use native.Mathlib.Omega.{arith}
use lib.Pow.{pow_pos}
use lib.IntN.{ℤ, pos, ◌*ℤ◌, *ℤ_comm}
use lib.Signed.{◌≤ℤ◌, ◌<ℤ◌}
use Rattle.linear11.specs.Linear11.{exponent, scaled_of}
use Rattle.thousandths.specs.declared.rows.Found.{Found}
use Rattle.thousandths.specs.Conversion.{spot}
use Rattle.thousandths.specs.Nearest.{gap_of, Before, Nearest}
use Rattle.thousandths.proofs.Search.{row, offset, gap_at, Ahead, Best}
use Rattle.thousandths.proofs.Places.{exponent-raised, scaled_raised, spot-raised}
use Rattle.thousandths.proofs.Raised.{Raised, raised-times, raised-gap, raised-le, raised_lt, raised-same, raised-le-back, raised-lt_back, raised-same-back}

-- ---- the best of all rows, for a count moved up

module _ (count : ℤ) (s : ℕ) (r : Raised count 33554432000 s) where
  target-raised : Raised (pos 65536 *ℤ count) 2199023255552000 (s * 65536)
  target-raised = rw (*ℤ_comm (pos 65536) count) (raised-times count 65536 33554432000 s r)

  gap_is : (w : ℕ) → w < 65536 → gap_of count w ≡ gap_at (s * 65536) w
  unfolding gap_of
  gap_is w h =
      raised-gap (pos 1000 *ℤ scaled_of w) (pos 65536 *ℤ count) 2199023255552000 (spot (row w) (offset w)) (s * 65536)
      (spot-raised w h) target-raised

  before_is : (w v : ℕ) → w < 65536 → v < 65536 → Ahead (s * 65536) w v → Before count w v
  unfolding Ahead Before
  before_is w v h k a =
      rw (gap_is w h, gap_is v k)
      (⊎_elim (λ n. inl n)
      (λ n. inr (
        n.0,
        ⊎_elim
            (λ m. inl (raised_lt (exponent w) (exponent v) 16 (row w) (row v) (exponent-raised w h) (exponent-raised v k) m))
            (λ m. inr (same_exponent w v h k m.0, same_row w v h k m.0 m.1))
            n.1,
      ))
      a)
    where
      same_exponent : (w v : ℕ) → w < 65536 → v < 65536 → row w ≡ row v → exponent w ≡ exponent v
      same_exponent w v h k e =
          raised-same (exponent w) (exponent v) 16 (row w) (exponent-raised w h) (rw e (exponent-raised v k))

      same_row : (w v : ℕ) → w < 65536 → v < 65536 → row w ≡ row v → offset w ≤ offset v → scaled_of w ≤ℤ scaled_of v
      same_row w v h k e l =
          raised-le (scaled_of w) (scaled_of v) (1024 * 2 ^ row w) (offset w * 2 ^ row w) (offset v * 2 ^ row w)
          (scaled_raised w h) (rw e (scaled_raised v k)) (mul-le-mul_right (2 ^ row w) l)

  pub nearest_is : (f : Found) → Best (s * 65536) 32 f → Nearest count f.word
  nearest_is f b = record {
    a_word = b.a_word;
    first = λ v l. before_is f.word v b.a_word l (b.ahead v l (omega arith));
  }

-- ---- one such word only

module _ (w v : ℕ) (h : w < 65536) (k : v < 65536) where
  abbrev Earlier : Type 0
  Earlier = (row w < row v) ⊎ ((row w ≡ row v) × (offset w ≤ offset v))

  earlier : (exponent w <ℤ exponent v) ⊎ ((exponent w ≡ exponent v) × (scaled_of w ≤ℤ scaled_of v)) → Earlier
  earlier c =
      ⊎_elim
      (λ l. inl (raised-lt_back (exponent w) (exponent v) 16 (row w) (row v) (exponent-raised w h) (exponent-raised v k) l))
      (λ l. let there = subst (λ (x : ℤ). Raised x 16 (row w)) l.0 (exponent-raised w h) in
      let same : row w ≡ row v = raised-same-back (exponent v) 16 (row w) (row v) there (exponent-raised v k) in
      inr (
        same,
        le_of_mul-le-mul_right {m = offset w} {n = offset v} {k = 2 ^ row w}
            (raised-le-back (scaled_of w) (scaled_of v) (1024 * 2 ^ row w) (offset w * 2 ^ row w) (offset v * 2 ^ row w)
            (scaled_raised w h) (rw same (scaled_raised v k)) l.1)
            (pow_pos (row w)),
      ))
      c

pub only : (count : ℤ) (w v : ℕ) → Nearest count w → Nearest count v → w ≡ v
unfolding Before
only count w v a b =
    let h = a.a_word in
    let k = b.a_word in
    ⊎_elim
    (λ m. absurd (⊎_elim (λ n. omega arith) (λ n. omega arith) (b.first w h)))
    (λ m. ⊎_elim
    (λ n. absurd (omega arith))
    (λ n. ⊎_elim
    (λ x. ⊎_elim (λ y. omega arith) (λ y. omega arith) (earlier v w k h n.1))
    (λ x. ⊎_elim (λ y. omega arith) (λ y. omega arith) (earlier v w k h n.1))
    (earlier w v h k m.1))
    (b.first w h))
    (a.first v k)
