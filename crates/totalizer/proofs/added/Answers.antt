-- `totalizer::added` meets its contract.
-- Assumes nothing.
use Rattle.std.proofs.Common.{arith}
use Rattle.account.proofs.Laws.{in_range}
use Rattle.totalizer.specs.Totalizer.{added, next_energy, next_samples}
use Rattle.totalizer.proofs.Outcomes.{reading-lt}
use Rattle.std.proofs.lemmas.Grind.{common_steps}
use Rattle.totalizer.proofs.added.Goals as goal

pub gap-energy-requires-clause-below : goal.gap-energy-requires-clause-below
gap-energy-requires-clause-below c = omega (arith, c.energy_reading.ensures, reading-lt c.args.t.last c.requires)

pub gap-samples-requires-clause-below : goal.gap-samples-requires-clause-below
gap-samples-requires-clause-below c = (in_range c.args.t.last c.requires).count_lt

pub returns-in_err-ok_or : goal.returns-in_err-ok_or
unfolding added next_energy next_samples
returns-in_err-ok_or c = grind (arith, common_steps)

pub returns-in_err-ok_or-2 : goal.returns-in_err-ok_or-2
unfolding added next_energy next_samples
returns-in_err-ok_or-2 c = grind (arith, common_steps)

pub returns : goal.returns
unfolding added next_energy next_samples
returns c = grind (arith, common_steps)
