-- A request whose refusal was made a number.
-- Assumes nothing.
use Rattle.std.proofs.Common.{◌≡◌, ℕ, Result, Ok, Err, MatchResult, IsErrAnd, ap}
use Rattle.answer.specs.declared.Refusal.{Refusal}
use Rattle.answer.specs.Answer.{number_of}
use Rattle.reads.specs.declared.request.Request.{Request}
use Rattle.reads.specs.Request.{numbered}

pub numbered_is : (r : Result Request Refusal) (s : Result Request ℕ) → MatchResult r (λ x. s ≡ Ok x) (λ e. IsErrAnd s (λ a. a ≡ number_of e)) → s ≡ numbered r
numbered_is (Ok x) s e = e
numbered_is (Err r) (Ok y) e = absurd e
numbered_is (Err r) (Err a) e = ap Err e
