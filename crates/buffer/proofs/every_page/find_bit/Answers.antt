-- `buffer::every_page::find_bit` meets its contract.
-- Assumes nothing.
use Rattle.std.proofs.Common.{ap, ◌∙◌, arith}
use Rattle.bus.proofs.Defaults.{within}
use Rattle.page.specs.Page.{no_page, power_on_page}
use Rattle.page.specs.Status.{any_status}
use Rattle.layout.specs.Layout.{pages_in}
use Rattle.buffer.proofs.Changing.{any_turn, any_end}
use Rattle.buffer.proofs.every_page.find_bit.Goals as goal

pub loop-i-preserved : goal.loop-i-preserved
loop-i-preserved c =
    let h = c.loop-i in
    let l = pages_in c.args.s.now in
    any_turn any_status l h.found _ h.i (omega arith)
    (c.any_status-found.ensures ∙ ap any_status (within l h.i power_on_page no_page (omega arith))) h.invariant

pub returns : goal.returns
returns c = let h = c.loop-i in any_end any_status (pages_in c.args.s.now) h.found h.i (omega arith) h.invariant
