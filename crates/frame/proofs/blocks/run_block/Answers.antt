-- `frame::blocks::run_block` meets its contract.
-- Assumes nothing.
use native.Mathlib.Omega.{arith}
use Rattle.frame.proofs.Running.{starts, stops_open, next-within, goes-past, goes_on}
use Rattle.frame.proofs.blocks.run_block.Goals as goal

pub loop-p-init : goal.loop-p-init
loop-p-init c = starts

pub returns-in_default : goal.returns-in_default
returns-in_default c =
    let g = c.gather-length in
    stops_open c.loop-p.invariant c.loop-p-test.true g.result g.ensures.value g.new.line g.ensures.line_after c.in_default.is

pub overflow_add-p : goal.overflow_add-p
overflow_add-p c =
    let g = c.gather-length in
    let h = next-within c.loop-p.invariant c.loop-p-test.true g.result g.ensures.value g.new.line g.ensures.line_after c.in-Some.next c.in-Some.is in
    omega arith

pub loop-p-smaller : goal.loop-p-smaller
loop-p-smaller c =
    let g = c.gather-length in
    goes-past c.loop-p.invariant c.loop-p-test.true g.result g.ensures.value g.new.line g.ensures.line_after c.in-Some.next c.in-Some.is

pub loop-p-preserved : goal.loop-p-preserved
loop-p-preserved c =
    let g = c.gather-length in
    let t = c.run_line-done in
    goes_on c.loop-p.invariant c.loop-p-test.true g.result g.ensures.value g.new.line g.ensures.line_after c.in-Some.next c.in-Some.is
    c.if-out-p-ge-LONGEST_TEXT.true c.held.result.now c.held.ensures t.result t.ensures.same t.ensures.short t.new.out t.ensures.text
