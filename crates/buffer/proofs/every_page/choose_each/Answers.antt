-- `buffer::every_page::choose_each` meets its contract.
-- Assumes nothing.
use Rattle.std.proofs.Common.{ap, ◌∙◌, rules}
use Rattle.layout.specs.Form.{store_all}
use Rattle.layout.specs.Layout.{page_form, pages_from}
use Rattle.buffer.proofs.Powering.{chosen_mapped}
use Rattle.buffer.proofs.every_page.choose_each.Goals as goal

pub returns : goal.returns
returns c =
    c.fill_each.ensures.left ∙ ap (store_all page_form c.args.s.now pages_from) (chosen_mapped _ _ (λ k h. let e = c.fill_each.ensures.pages k h in search rules))
