-- `frame::text::put_answer` meets its contract: the digits of the answer and of the bytes so far have been put.
-- Assumes nothing.
use native.Mathlib.Omega.{arith}
use lib.Seq.{take_all}
use Rattle.frame.proofs.Lines.{answer-length, answer-stored, reply-step}
use Rattle.frame.proofs.text.put_answer.Goals as goal

pub loop-i-preserved : goal.loop-i-preserved
loop-i-preserved c = cc (reply-step c.args.answer c.args.reply.now c.args.out.now c.loop-i.i (omega arith))

pub returns-clause-value : goal.returns-clause-value
returns-clause-value c = answer-length c.args.answer c.args.reply.now

pub returns-clause-out_after : goal.returns-clause-out_after
returns-clause-out_after c =
    let s = c.args.reply.now in
    cc (take_all c.loop-i.i s (omega arith), answer-stored c.args.answer s c.args.out.now)
