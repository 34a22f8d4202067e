-- The same over lent records: their calls promise what `step` says.
-- Assumes nothing.
use mathlib.Core.Path.{◌∙◌}
use Rattle.device.specs.Device.{device}
use Rattle.dialogue.specs.Transactions.{call_of}
use Rattle.dialogue.specs.Understood.{WritesUnderstood, RepliesHeard}
use Rattle.dialogue.specs.Lent.{LentUnderstood, LentHeard}
use Rattle.dialogue.proofs.Understood.{writes_understood}
use Rattle.dialogue.proofs.Heard.{replies_heard}

pub lent_understood : LentUnderstood
unfolding LentUnderstood WritesUnderstood call_of
lent_understood u ps qs o code bytes check v b e = e ∙ (writes_understood (device u ps) code bytes check v b).done

pub lent_heard : LentHeard
unfolding LentHeard RepliesHeard call_of
lent_heard u ps code check reply v b n e = rw e (replies_heard (device u ps) code check v b n)
