-- `thousandths::rows::Place::nearest` meets its contract: before row `number` the word found is the best of the rows before it.
-- Assumes nothing.
use Rattle.std.proofs.Common.{◌≡◌, ◌-◌}
use Rattle.thousandths.specs.Conversion.{best}
use Rattle.thousandths.proofs.rows.Place.nearest.Given as goal

abbrev pub invariant-loop-number : goal.invariant-loop-number
invariant-loop-number l = l.found ≡ best l.fn.self.value (l.number - 1)
