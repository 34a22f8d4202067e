-- The bytes that are sent one by one are the whole reply.
-- Assumes nothing.
use Prim.Native.Nat.{ℕ, zero, suc, ◌<◌, ◌≤◌, min}
use mathlib.Core.Path.{◌≡◌, refl, sym, ap, ◌∙◌}
use mathlib.Core.List.{List, [], ◌∷◌, ◌++◌}
use native.Mathlib.Omega.{arith}
use native.Mathlib.Nat.{not-suc-le-zero, le_of_suc-le-suc}
use lib.ListN.{length, get_or, take, replicate, get_or-eq_default}
use lib.Dec.{ltb}
use borrow.Author.Tests.{ltb-true, ltb-false}
use Rattle.laws.proofs.Branches.{either}
use Rattle.reads.specs.Reply.{reply_of}

-- n bytes sent of a stream
abbrev sends : List ℕ → ℕ → List ℕ
sends s zero = []
sends [] (suc n) = 255 ∷ sends [] n
sends (x ∷ s) (suc n) = x ∷ sends s n

sends_take : (s : List ℕ) (n m : ℕ) → n ≤ m → take n (s ++ replicate m 255) ≡ sends s n
sends_take s zero m h = refl
sends_take [] (suc n) zero h = absurd (not-suc-le-zero h)
sends_take [] (suc n) (suc m) h = ap (λ (t : List ℕ). 255 ∷ t) (sends_take [] n m (le_of_suc-le-suc h))
sends_take (x ∷ s) (suc n) m h = ap (λ (t : List ℕ). x ∷ t) (sends_take s n m (omega arith))

sends_suc : (s : List ℕ) (n : ℕ) → sends s (suc n) ≡ sends s n ++ (get_or s n 255 ∷ [])
sends_suc [] zero = refl
sends_suc [] (suc n) = ap (λ (t : List ℕ). 255 ∷ t) (sends_suc [] n)
sends_suc (x ∷ s) zero = refl
sends_suc (x ∷ s) (suc n) = ap (λ (t : List ℕ). x ∷ t) (sends_suc s n)

sends_at : (s : List ℕ) (n i : ℕ) → i < n → get_or (sends s n) i 255 ≡ get_or s i 255
sends_at s zero i h = absurd (not-suc-le-zero h)
sends_at [] (suc n) zero h = refl
sends_at [] (suc n) (suc i) h = sends_at [] n i (le_of_suc-le-suc h)
sends_at (x ∷ s) (suc n) zero h = refl
sends_at (x ∷ s) (suc n) (suc i) h = sends_at s n i (le_of_suc-le-suc h)

sends_length : (s : List ℕ) (n : ℕ) → length (sends s n) ≡ n
sends_length s zero = refl
sends_length [] (suc n) = ap suc (sends_length [] n)
sends_length (x ∷ s) (suc n) = ap suc (sends_length s n)

pub reply-suc : (s : List ℕ) (n : ℕ) → reply_of s (suc n) ≡ reply_of s n ++ (get_or s n 255 ∷ [])
reply-suc s n =
    sends_take s (suc n) (suc n) (omega arith)
    ∙ sends_suc s n
    ∙ ap (λ (t : List ℕ). t ++ (get_or s n 255 ∷ [])) (sym (sends_take s n n (omega arith)))

-- the first eight bytes of a stream of at most eight are all that it can send
pub reply-at : (s : List ℕ) (k : ℕ) → length s ≤ 8 → get_or (reply_of s 8) (min k 9) 255 ≡ get_or s k 255
reply-at s k few =
    ap (λ (t : List ℕ). get_or t (min k 9) 255) (sends_take s 8 8 (omega arith))
    ∙ either (ltb k 8)
    (λ y. let h = ltb-true k 8 y in let m : min k 9 ≡ k = omega arith in rw m (sends_at s 8 k h))
    (λ y. let h = ltb-false k 8 y in
    let l = sends_length s 8 in
    get_or-eq_default (sends s 8) 255 {n = min k 9} (omega arith) ∙ sym (get_or-eq_default s 255 {n = k} (omega arith)))
