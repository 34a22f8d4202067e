-- Answers of `bench::feed`.
-- Assumes nothing.
use mathlib.Core.Path.{refl, ap}
use native.Mathlib.Omega.{arith}
use Rattle.frame.specs.Blocks.{Fed, feed}
use Rattle.bench.proofs.Held.{part-on}
use Rattle.bench.proofs.feed.Goals as goal

pub loop-at-init : goal.loop-at-init
unfolding feed
loop-at-init c = (omega arith, (refl, refl, refl))

pub loop-at-preserved : goal.loop-at-preserved
loop-at-preserved c =
    let b = c.args.b in
    let left = c.loop-at.left in
    let ran = c.run_block-p in
    let r = ran.ensures in (
      r.within c.loop-at.invariant.0,
      part-on b.device c.args.line.now b.length c.args.block.now c.loop-at.at ran.result.next r.from left.device c.loop-at.line left.length
          c.loop-at.invariant.1 ran.result.device _ ran.result.length
          (ap (λ (f : Fed). f.device) r.feeds, ap (λ (f : Fed). f.line) r.feeds, ap (λ (f : Fed). f.length) r.feeds),
    )
