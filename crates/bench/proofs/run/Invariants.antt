-- What the loop of `bench::run` keeps: the device and the line are what some characters, fed from power-on on, leave.
-- Assumes nothing.
use Rattle.bench.specs.Held.{Reached}
use Rattle.bench.proofs.run.Given as goal

abbrev pub invariant-loop : goal.invariant-loop
invariant-loop l = Reached l.b.device l.line l.b.length
