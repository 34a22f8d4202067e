-- `layout::state::pages_valid` meets its contract.
-- Assumes nothing.
use Rattle.std.proofs.Common.{◌≡◌, ◌+◌, ◌-◌, ◌*◌}
use Rattle.laws.specs.Lists.{all_of}
use Rattle.page.specs.Settings.{page_valid}
use Rattle.layout.specs.Form.{get_all}
use Rattle.layout.specs.Layout.{page_form, page_wide, pages_from}
use Rattle.layout.proofs.state.pages_valid.Given as goal

abbrev pub invariant-loop-i : goal.invariant-loop-i
invariant-loop-i l =
    all_of page_valid (get_all page_form (8 - l.i) l.s (pages_from + page_wide * l.i)) ≡ all_of page_valid (get_all page_form 8 l.s pages_from)
