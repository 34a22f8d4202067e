-- `host::build::put_write` meets its contract.
-- Assumes nothing.
use Rattle.std.proofs.Common.{◌≡◌, length, arith}
use Rattle.host.proofs.Places.{stored-more, checked-end}
use Rattle.host.proofs.build.put_write.Goals as goal

pub loop-i-preserved : goal.loop-i-preserved
loop-i-preserved c =
    let a = c.args in
    rw c.loop-i.invariant (stored-more a.out.now a.bytes.now a.code a.check c.requires c.loop-i.i c.loop-i-test.true)

pub returns-then-check : goal.returns-then-check
returns-then-check c =
    let a = c.args in
    let h = rw c.if-check.true at c.requires in
    let i : c.loop-i.i ≡ length a.bytes.now = omega arith in
    let m = rw i at c.loop-i.invariant in
    rw (c.if-check.true, m) (checked-end a.out.now a.bytes.now a.code c.pec.result h (rw m at c.pec.ensures))
