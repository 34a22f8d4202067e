-- Answers of `bench::run`.
-- Assumes nothing.
use mathlib.Core.Path.{refl, sym}
use mathlib.Core.List.{[]}
use Rattle.frame.specs.Blocks.{feed}
use Rattle.bench.specs.Held.{to_run}
use Rattle.bench.proofs.Held.{reached-on}
use Rattle.bench.proofs.run.Goals as goal

pub loop-init : goal.loop-init
unfolding feed
loop-init c = (c.args.line.now, [], (sym c.power_on.ensures, refl, refl))

pub loop-preserved : goal.loop-preserved
loop-preserved c =
    let l = c.loop in
    let ran = c.in-Some.ensures in
    reached-on l.b.device l.line l.b.length (to_run ran.0 l.b.length ran.1) l.invariant _ _ _ ran.2
