-- What a reply of n bytes holds of the bytes that are sent: their first n, or all of them and FFh.
-- Assumes nothing.
use Prim.Native.Nat.{ℕ, zero, suc, ◌+◌, ◌-◌, ◌≤◌}
use mathlib.Core.Path.{◌≡◌, refl, ap, ◌∙◌}
use mathlib.Core.List.{List, ◌∷◌, ◌++◌}
use native.Mathlib.Nat.{le_of_suc-le-suc}
use native.Mathlib.Omega.{arith}
use lib.ListN.{length, take, replicate, length-take, length-append, length-replicate}
use lib.Seq.{take-append-le, take-append-add}
use Rattle.reads.specs.Reply.{reply_of}

-- the first m of n bytes FFh
fewer : (m n : ℕ) → m ≤ n → take {A = ℕ} m (replicate n 255) ≡ replicate m 255
fewer zero n h = refl
fewer (suc m) zero h = absurd (omega arith)
fewer (suc m) (suc n) h = ap (λ (t : List ℕ). 255 ∷ t) (fewer m n (le_of_suc-le-suc h))

module _ (s : List ℕ) (n : ℕ) where
  pub reply-length : length (reply_of s n) ≡ n
  reply-length = simp (length-take, length-append, length-replicate) (omega arith)

  pub within : n ≤ length s → reply_of s n ≡ take n s
  within h = take-append-le n s (replicate n 255) h

  pub past : length s ≤ n → reply_of s n ≡ s ++ replicate (n - length s) 255
  past h =
      let e : n ≡ length s + (n - length s) = omega arith in
      ap (λ (m : ℕ). take m (s ++ replicate n 255)) e
      ∙ take-append-add s (replicate n 255) (n - length s)
      ∙ ap (λ (t : List ℕ). s ++ t) (fewer (n - length s) n (omega arith))
