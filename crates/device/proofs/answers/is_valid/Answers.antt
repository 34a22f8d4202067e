-- `device::answers::is_valid` meets its contract.
-- Assumes nothing.
use Rattle.std.proofs.Common.{◌≡◌, length, sym, ◌∙◌, rules}
use Rattle.laws.proofs.Folds.{length-mapped}
use Rattle.device.specs.Device.{device_valid, supported}
use Rattle.device.proofs.answers.is_valid.Goals as goal

pub returns-then-unpaged_valid : goal.returns-then-unpaged_valid
unfolding device_valid supported
returns-then-unpaged_valid c =
    let long : length c.args.d.now.pages ≡ 8 = search (rules, length-mapped) in
    rw (long, sym c.unpaged_valid.ensures ∙ c.if-unpaged_valid.true) c.all_valid.ensures

pub returns-else-unpaged_valid : goal.returns-else-unpaged_valid
unfolding device_valid supported
returns-else-unpaged_valid c =
    let long : length c.args.d.now.pages ≡ 8 = search (rules, length-mapped) in
    rw (long, sym c.unpaged_valid.ensures ∙ c.if-unpaged_valid.false) c.if-unpaged_valid.false
