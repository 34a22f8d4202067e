-- `page::settings::page_valid` meets its contract.
-- Assumes nothing.
use Rattle.page.proofs.Written.{page-valid}
use Rattle.page.proofs.settings.page_valid.Goals as goal

pub returns : goal.returns
returns c = rw (← page-valid) cc
