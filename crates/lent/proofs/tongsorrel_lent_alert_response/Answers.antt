-- `lent::tongsorrel_lent_alert_response` meets its contract.
-- Assumes nothing.
use Rattle.std.proofs.Common.{ℕ, List, length, ap, ◌∙◌}
use Rattle.reads.specs.Reply.{reply_of}
use Rattle.lent.proofs.Known.{alert_known}
use Rattle.lent.proofs.tongsorrel_lent_alert_response.Goals as goal

pub returns : goal.returns
returns c =
    let both = alert_known c.args.u c.survey-seen.result (length c.args.reply.now) c.alert_turn-t.result c.alert_turn-t.ensures c.args.pages.now c.survey-seen.ensures in
    (both.0, c.send.ensures ∙ ap (λ (l : List ℕ). reply_of l (length c.args.reply.now)) c.as_slice.ensures ∙ both.1)
