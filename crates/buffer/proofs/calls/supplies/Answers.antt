-- `buffer::calls::supplies` meets its contract.
-- Assumes nothing.
use borrow.Author.Tests.{eq-eqb, ne_eqb}
use Rattle.std.proofs.Common.{length}
use Rattle.layout.specs.Layout.{size}
use Rattle.buffer.proofs.Held.{byte_is}
use Rattle.buffer.specs.Buffer.{buffer_supplies}
use Rattle.buffer.proofs.calls.supplies.Goals as goal

pub returns-in-Some : goal.returns-in-Some
unfolding buffer_supplies
returns-in-Some c =
    let h = c.in-Some.ensures.cases in
    rw (eq-eqb (length c.args.s.now) size h.long, ← h.same, ← c.supplying.ensures) (byte_is _ _ c.from.ensures)

pub returns-in-None : goal.returns-in-None
unfolding buffer_supplies
returns-in-None c = rw (ne_eqb (length c.args.s.now) size c.in-None.ensures.cases)
