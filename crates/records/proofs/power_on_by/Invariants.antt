-- `records::power_on_by` meets its contract: the records before i are set by their choices.
-- Assumes nothing.
use Rattle.std.proofs.Common.{◌≡◌, take}
use Rattle.records.specs.Records.{chosen_pages}
use Rattle.records.proofs.power_on_by.Given as goal

abbrev pub invariant-loop-i : goal.invariant-loop-i
invariant-loop-i l = take l.i l.pages ≡ chosen_pages l.i l.choices
