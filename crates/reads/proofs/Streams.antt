-- Bytes and the zeros behind them make a stream.
-- Assumes nothing.
use Prim.Native.Nat.{ℕ, zero, suc, ◌≤◌}
use mathlib.Core.Path.{◌≡◌, refl, ap}
use mathlib.Core.List.{List, [], ◌∷◌, ◌++◌}
use native.Mathlib.Omega.{arith}
use native.Mathlib.Nat.{not-suc-le-zero, le_of_suc-le-suc}
use lib.ListN.{length, take, drop, replicate}
use lib.Seq.{take-append_seam}
use Rattle.reads.specs.Stream.{IsStream}

zeros : (n k : ℕ) → n ≤ k → take {A = ℕ} n (replicate k 0) ≡ replicate n 0
zeros zero k h = refl
zeros (suc n) zero h = absurd (not-suc-le-zero h)
zeros (suc n) (suc k) h = ap (λ (t : List ℕ). 0 ∷ t) (zeros n k (le_of_suc-le-suc h))

filled-up : (l : List ℕ) (n k : ℕ) → length l ≤ n → n ≤ k → take n (l ++ replicate k 0) ≡ l ++ drop (length l) (replicate n 0)
filled-up [] n k h m = zeros n k m
filled-up (x ∷ l) zero k h m = absurd (not-suc-le-zero h)
filled-up (x ∷ l) (suc n) k h m = ap (λ (t : List ℕ). x ∷ t) (filled-up l n k (le_of_suc-le-suc h) (omega arith))

pub is-stream : (l : List ℕ) → length l ≤ 8 → IsStream (record { bytes = l ++ drop (length l) (replicate 8 0); length = length l })
is-stream l h = record { fits = h; made = rw (take-append_seam l (drop (length l) (replicate 8 0)), filled-up l 8 8 h (omega arith)) }
