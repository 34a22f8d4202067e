-- Address, code and data of a write as they are stored one after the other.
-- Assumes nothing.
use Prim.Native.Nat.{ℕ, suc, ◌+◌, ◌≤◌, ◌<◌}
use mathlib.Core.Path.{◌≡◌, sym, ap, ap₂, ◌∙◌}
use mathlib.Core.List.{List, [], ◌∷◌, ◌++◌, append_assoc}
use mathlib.Core.Bool.{Bool, true, false}
use native.Mathlib.Omega.{arith}
use native.Mathlib.Numerals.{add-one}
use lib.ListN.{length, get_or, take, drop, set, drop_of_length-le, length-append}
use lib.Seq.{drop-cons, take-suc, set_at, length-take-le, take_at, take_all}
use Rattle.pec.specs.Pec.{pec}
use Rattle.host.specs.Build.{write_frame}

module _ (out s : List ℕ) (code : ℕ) where
  -- address, code and i bytes of the data; what stands behind them is as it was
  abbrev pub stored : ℕ → List ℕ
  stored i = (0xC0 ∷ code ∷ take i s) ++ drop (2 + i) out

  room : (check : Bool) → 2 + length s ≤ length (write_frame code s check)
  unfolding write_frame
  room true = let longer = length-append s (pec (0xC0 ∷ code ∷ s) ∷ []) in omega arith
  room false = omega arith

  pub stored-more : (check : Bool) → length out ≡ length (write_frame code s check)
      → (i : ℕ) → i < length s → set (stored i) (2 + i) (get_or s i 0) ≡ stored (i + 1)
  stored-more check l i h =
      let e = room check in
      let p : List ℕ = 0xC0 ∷ code ∷ take i s in
      let k : length p ≡ 2 + i = let t = length-take-le i s (omega arith) in omega arith in
      let n : suc (2 + i) ≡ 2 + (i + 1) = omega arith in
      let m : take i s ++ (get_or s i 0 ∷ []) ≡ take (i + 1) s = rw add-one (sym (take-suc s i 0 h)) in
      ap (λ (r : List ℕ). set (p ++ r) (2 + i) (get_or s i 0)) (drop-cons out (2 + i) 0 (omega arith))
      ∙ set_at p (get_or out (2 + i) 0) (drop (suc (2 + i)) out) (get_or s i 0) (2 + i) k
      ∙ ap (λ (j : ℕ). p ++ (get_or s i 0 ∷ drop j out)) n
      ∙ ap (λ (r : List ℕ). 0xC0 ∷ code ∷ r) (sym (append_assoc (take i s) (get_or s i 0 ∷ []) (drop (2 + (i + 1)) out)))
      ∙ ap (λ (r : List ℕ). 0xC0 ∷ code ∷ (r ++ drop (2 + (i + 1)) out)) m

  -- and then the packet check of them as the last
  pub checked-end : (x : ℕ) → length out ≡ length (write_frame code s true) → x ≡ pec (take (2 + length s) (stored (length s)))
      → set (stored (length s)) (2 + length s) x ≡ write_frame code s true
  unfolding write_frame
  checked-end x l e =
      let n = 2 + length s in
      let frame : List ℕ = 0xC0 ∷ code ∷ s in
      let k : length frame ≡ n = omega arith in
      let longer = length-append s (pec frame ∷ []) in
      let m : stored (length s) ≡ frame ++ drop n out =
      ap (λ (r : List ℕ). (0xC0 ∷ code ∷ r) ++ drop n out) (take_all (length s) s (omega arith)) in
      let check = e ∙ ap (λ (r : List ℕ). pec (take n r)) m ∙ ap pec (take_at frame (drop n out) n k) in
      ap (λ (r : List ℕ). set r n x) m
      ∙ ap (λ (r : List ℕ). set (frame ++ r) n x) (drop-cons out n 0 (omega arith))
      ∙ set_at frame (get_or out n 0) (drop (suc n) out) x n k
      ∙ ap₂ (λ (r : List ℕ) (y : ℕ). frame ++ (y ∷ r)) (drop_of_length-le out {i = suc n} (omega arith)) check
