-- The answer of a call, of a state that is valid by what is known of all records, and of another.
-- Assumes nothing.
use Rattle.std.proofs.Common.{◌≡◌, ℕ, true, false, Option, Some, None, refl}
use Rattle.unpaged.specs.declared.Unpaged.{Unpaged}
use Rattle.lent.specs.Lent.{seen_valid, seen_answer}

pub seen_accepted : (s : Option ℕ) (u : Unpaged) (rule : ℕ → ℕ) (n : ℕ) → s ≡ Some n → seen_valid s u ≡ true → seen_answer s u rule ≡ rule n
unfolding seen_answer
seen_accepted s u rule n e v = rw e (rw (rw e at v))

pub seen_refused : (s : Option ℕ) (u : Unpaged) (rule : ℕ → ℕ) → seen_valid s u ≡ false → seen_answer s u rule ≡ 15
unfolding seen_answer
seen_refused None u rule n = refl
seen_refused (Some k) u rule n = rw n
