-- `stream::reply` meets its contract.
-- Assumes nothing.
use Rattle.std.proofs.Common.{◌∙◌}
use Rattle.reads.specs.Answers.{read_answer}
use Rattle.reads.proofs.Numbered.{numbered_is}
use Rattle.stream.specs.Stream.{page_reply}
use Rattle.stream.proofs.reply.Goals as goal

pub returns : goal.returns
unfolding page_reply read_answer
returns c =
    let asks = numbered_is _ _ c.map_err-request.ensures.cases ∙ c.request_of.ensures in
    c.send.ensures ∙ simp (c.as_slice.ensures, c.read_stream-stream.ensures, c.request_answer-answer.ensures, asks)
