-- `page::settings::clear_bits` meets its contract.
-- Assumes nothing.
use Rattle.std.proofs.Common.{rules, ap, get_or}
use Rattle.laws.specs.Bits.{without}
use Rattle.retry.proofs.Turns.{made}
use Rattle.page.specs.Page.{with_status}
use Rattle.page.specs.Settings.{clear_bits}
use Rattle.page.proofs.settings.clear_bits.Goals as goal

pub returns : goal.returns
unfolding clear_bits
returns c =
    let a = c.args in
    ap (with_status a.p)
    (made _ _ (λ j. without (get_or a.p.status j 0) (get_or a.masks j 0)) (λ i y q k. search rules) c.from_fn-status.result 4 c.from_fn-status.ensures.items)
