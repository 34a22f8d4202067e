-- `unpaged::refused` meets its contract.
-- Assumes nothing.
use Rattle.std.proofs.Common.{sym, ap, ◌∙◌}
use Rattle.unpaged.specs.Unpaged.{refused}
use Rattle.unpaged.proofs.Refusals.{refused-unknown}
use Rattle.unpaged.proofs.refused.Goals as goal

pub returns-in-Err : goal.returns-in-Err
returns-in-Err c = sym (refused-unknown c.args.u c.args.answer c.in-Err.ensures.1)

pub returns-in-Ok : goal.returns-in-Ok
returns-in-Ok c = c.after.ensures ∙ ap (refused c.args.u) c.in-Ok.ensures
