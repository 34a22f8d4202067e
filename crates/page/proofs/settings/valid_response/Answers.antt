-- `page::settings::valid_response` meets its contract.
-- Assumes nothing.
use Rattle.page.proofs.Written.{valid_response_lem}
use Rattle.page.proofs.settings.valid_response.Goals as goal

pub returns : goal.returns
returns c = valid_response_lem c.args.k c.args.x
