-- The turn of a write that was judged is that of the number of its answer, and where the state is not valid that of 15.
-- Assumes nothing.
use Rattle.std.proofs.Common.{◌≡◌, ℕ, false, sym, Option, None, Result, Ok, Err, IfOk}
use Rattle.answer.specs.declared.Refusal.{Refusal}
use Rattle.answer.specs.Answer.{number_of, answer_of}
use Rattle.page.specs.declared.Page.{Page}
use Rattle.unpaged.specs.declared.Unpaged.{Unpaged}
use Rattle.writes.specs.declared.asked.Write.{Write}
use Rattle.device.proofs.Refused.{refusal-nonzero}
use Rattle.lent.specs.Lent.{seen_valid, seen_answer, refused_outcome, turn, write_turn, answered_turn}
use Rattle.lent.proofs.Seen.{seen_refused}

pub judged_turn : (u : Unpaged) (p : Page) (j : Result Write Refusal) (answer : ℕ) (w : Write) → answer_of j ≡ answer → IfOk j (λ x. x ≡ w)
    → write_turn u p j ≡ answered_turn u p answer w
unfolding write_turn answered_turn
judged_turn u p (Ok x) answer w e i = rw (sym e, i)
judged_turn u p (Err r) answer w e i = rw (sym e, refusal-nonzero r)

pub refused_turn : (s : Option ℕ) (u : Unpaged) (p : Page) (rule : ℕ → ℕ) (w : Write) (r : Refusal) → r ≡ Refusal.InvalidState → seen_valid s u ≡ false
    → turn (refused_outcome u (number_of r)) p None false ≡ answered_turn u p (seen_answer s u rule) w
unfolding answered_turn
refused_turn s u p rule w r e v = rw (e, seen_refused s u rule v)
