-- `frame::gather::gather` meets its contract: what is left of the block gives the whole.
-- Assumes nothing.
use native.Mathlib.Omega.{arith}
use Rattle.frame.proofs.Gathering.{gathers_none, gathers_more, gathers_line, gathers_open}
use Rattle.frame.proofs.gather.gather.Goals as goal

pub loop-i-init : goal.loop-i-init
loop-i-init c = gathers_none

pub loop-i-preserved : goal.loop-i-preserved
loop-i-preserved c =
    let k = c.keep-length.ensures in
    rw (k.value, k.line_after) (gathers_more c.loop-i.invariant (omega arith) c.if-c-eq10.false)

pub returns-then-c-eq10 : goal.returns-then-c-eq10
returns-then-c-eq10 c =
    let e = gathers_line c.loop-i.invariant (omega arith) c.if-c-eq10.true in
    record { value = e.0; line_after = e.1 }

pub returns : goal.returns
returns c =
    let e = gathers_open c.loop-i.invariant (omega arith) in
    record { value = e.0; line_after = e.1 }
