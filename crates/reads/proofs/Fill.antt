-- Laws of a loop that fills a list from the front, and of what is read of a stream.
-- Assumes nothing.
use Prim.Native.Nat.{ℕ, zero, suc, ◌+◌, ◌<◌}
use mathlib.Core.Path.{◌≡◌, refl, sym, subst, ◌∙◌}
use mathlib.Core.List.{List, [], ◌∷◌, ◌++◌}
use native.Mathlib.Nat.{not-suc-le-zero, le_of_suc-le-suc, lt_irrefl}
use native.Mathlib.Omega.{arith}
use borrow.Author.Count.{below_more}
use lib.ListN.{length, get_or, set, replicate, length-take, length-append, length-replicate}
use lib.Seq.{get_or-take, get_or-set_same, get_or-set_other, ext_get_or}
use Rattle.reads.specs.Reply.{reply_of}

-- one more element is stored, at i, and each below i is as it was
pub fill_step : {A : Type 0} (d : A) (g : ℕ → A) (l : List A) (i : ℕ) (v : A) → i < length l → ((k : ℕ) → k < i → get_or l k d ≡ g k) → v ≡ g i
    → (k : ℕ) → k < i + 1 → get_or (set l i v) k d ≡ g k
fill_step d g l i v h before here =
    below_more (λ k. get_or (set l i v) k d ≡ g k) i
    (λ k lt. get_or-set_other l i k v d (λ e. lt_irrefl i (subst (λ (m : ℕ). m < i) e lt)) ∙ before k lt)
    (get_or-set_same l i v d h ∙ here)

-- within the list the default does not matter
pub get_d_any : {A : Type 0} (l : List A) (i : ℕ) (a b : A) → i < length l → get_or l i a ≡ get_or l i b
get_d_any [] i a b h = absurd (not-suc-le-zero h)
get_d_any (x ∷ l) zero a b h = refl
get_d_any (x ∷ l) (suc i) a b h = get_d_any l i a b (le_of_suc-le-suc h)

-- the bytes of a stream, then FFh
pub stream_at : (s : List ℕ) (n k : ℕ) → get_or (s ++ replicate n 255) k 255 ≡ get_or s k 255
stream_at [] zero k = refl
stream_at [] (suc n) zero = refl
stream_at [] (suc n) (suc k) = stream_at [] n k ∙ refl
stream_at (x ∷ s) n zero = refl
stream_at (x ∷ s) n (suc k) = stream_at s n k

-- a list that holds a stream's bytes at each place is what is read of it
pub filled : (s l : List ℕ) (n : ℕ) → length l ≡ n → ((k : ℕ) → k < n → get_or l k 0 ≡ get_or s k 255) → l ≡ reply_of s n
filled s l n e h =
    ext_get_or 255 l (reply_of s n) (e ∙ sym (long s n))
    (λ k lt.
    let m : k < n = omega (arith, e) in
    get_d_any l k 255 0 lt ∙ h k m ∙ sym (stream_at s n k) ∙ sym (get_or-take n (s ++ replicate n 255) k 255 m))
  where
    long : (s : List ℕ) (n : ℕ) → length (reply_of s n) ≡ n
    long s n = simp (length-take, length-append, length-replicate) (omega arith)
