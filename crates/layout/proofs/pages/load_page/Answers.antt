-- `layout::pages::load_page` meets its contract.
-- Assumes nothing.
use Rattle.std.proofs.Common.{sym, ◌∙◌, ap, arith}
use Rattle.page.specs.Page.{power_on_page}
use Rattle.layout.specs.Layout.{page_form}
use Rattle.layout.proofs.EightPages.{wide, page-at}
use Rattle.layout.proofs.pages.load_page.Goals as goal

pub load-requires : goal.load-requires
load-requires c = rw wide (omega arith)

pub returns : goal.returns
returns c =
    let s = c.args.s.now in
    c.load.ensures.value ∙ ap (page_form.get s) c.place.ensures ∙ sym (page-at s c.args.i c.requires power_on_page)
