-- `lent::turns::read_turn` meets its contract.
-- Assumes nothing.
use Rattle.std.proofs.Common.{◌∙◌}
use Rattle.reads.specs.Answers.{read_answer}
use Rattle.reads.proofs.Numbered.{numbered_is}
use Rattle.lent.specs.Lent.{read_turn, refused_outcome}
use Rattle.lent.proofs.turns.read_turn.Goals as goal

pub returns : goal.returns
unfolding read_turn refused_outcome read_answer
returns c =
    let asks = numbered_is _ _ c.map_err-request.ensures.cases ∙ c.request_of.ensures in
    simp (c.refused.ensures, c.read_stream.ensures, c.readable-answer.ensures, asks)
