-- `buffer::every_page::find_bit` meets its contract.
-- Assumes nothing.
use Rattle.std.proofs.Common.{◌≡◌, ◌||◌, drop}
use Rattle.laws.specs.Lists.{any_of}
use Rattle.page.specs.Status.{any_status}
use Rattle.layout.specs.Layout.{pages_in}
use Rattle.buffer.proofs.every_page.find_bit.Given as goal

abbrev pub invariant-loop-i : goal.invariant-loop-i
invariant-loop-i l = (l.found || any_of any_status (drop l.i (pages_in l.s))) ≡ any_of any_status (pages_in l.s)
