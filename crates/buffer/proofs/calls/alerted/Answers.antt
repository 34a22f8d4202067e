-- `buffer::calls::alerted` meets its contract.
-- Assumes nothing.
use Rattle.std.proofs.Common.{ap, length, ◌∙◌}
use Rattle.reads.specs.Reply.{reply_of}
use Rattle.buffer.proofs.Calling.{answer-is, unpaged-stored}
use Rattle.buffer.proofs.calls.alerted.Goals as goal

pub returns : goal.returns
returns c =
    let r = c.alert_turn-turn.ensures in
    record {
      answer = answer-is _ _ _ _ r.left;
      left = unpaged-stored _ _ _ _ r.left _ _ c.set_unpaged.ensures;
      sends = c.send.ensures ∙ ap (λ b. reply_of b (length c.args.reply.now)) c.as_slice.ensures ∙ r.sends;
    }
