-- `lent::tongsorrel_lent_read` meets its contract.
-- Assumes nothing.
use Rattle.std.proofs.Common.{ℕ, List, length, ap, ◌∙◌}
use Rattle.reads.specs.Reply.{reply_of}
use Rattle.records.specs.Records.{taken}
use Rattle.lent.proofs.Known.{read_known}
use Rattle.lent.proofs.tongsorrel_lent_read.Goals as goal

pub returns : goal.returns
returns c =
    let ps = c.args.pages.now in
    let both = read_known c.args.u c.survey-seen.result c.take-p.result c.args.header.now (length c.args.reply.now) c.read_turn-t.result c.read_turn-t.ensures
    ps c.survey-seen.ensures (c.take-p.ensures ∙ ap (λ (k : ℕ). taken ps k) c.shown.ensures) in
    (both.0, c.send.ensures ∙ ap (λ (l : List ℕ). reply_of l (length c.args.reply.now)) c.as_slice.ensures ∙ both.1)
