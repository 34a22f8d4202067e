-- `device::chosen_pages` meets its contract: the pages passed are those of their choices.
-- Assumes nothing.
use Rattle.std.proofs.Common.{◌≡◌, length, take, map}
use Rattle.page.specs.Choice.{chosen_page}
use Rattle.device.proofs.chosen_pages.Given as goal

abbrev pub invariant-loop-i : goal.invariant-loop-i
invariant-loop-i l = (length l.pages ≡ 8) × (take l.i l.pages ≡ take l.i (map chosen_page l.fn.choices))
