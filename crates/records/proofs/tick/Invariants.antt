-- `records::tick` meets its contract: the records passed have ticked, the others are as they were.
-- Assumes nothing.
use Rattle.std.proofs.Common.{◌≡◌, ◌++◌, take, drop, map}
use Rattle.page.specs.Causes.{ticked}
use Rattle.records.proofs.tick.Given as goal

abbrev pub invariant-loop-p : goal.invariant-loop-p
invariant-loop-p l = l.pages ≡ map ticked (take l.p-index l.initial.pages) ++ drop l.p-index l.initial.pages
