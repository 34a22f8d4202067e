-- `layout::pages::any_status` meets its contract.
-- Assumes nothing.
use Rattle.std.proofs.Common.{ℕ, sym, ◌∙◌, ap}
use Rattle.page.specs.Page.{power_on_page}
use Rattle.page.specs.Status.{any_status}
use Rattle.layout.specs.Layout.{page_form}
use Rattle.layout.proofs.EightPages.{page-at}
use Rattle.layout.proofs.Tested.{status-tests}
use Rattle.layout.proofs.pages.any_status.Goals as goal

pub returns : goal.returns
returns c =
    let s = c.args.s.now in
    status-tests s c.place-at.result
    ∙ ap (λ (o : ℕ). any_status (page_form.get s o)) c.place-at.ensures
    ∙ sym (ap any_status (page-at s c.args.i c.requires power_on_page))
