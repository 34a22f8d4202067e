-- `device::power_on_by` meets its contract.
-- Assumes nothing.
use Rattle.std.proofs.Common.{◌≡◌, length, sym, ◌∙◌, rules}
use borrow.Author.Tests.{tests}
use Rattle.laws.proofs.Folds.{length-mapped}
use Rattle.laws.proofs.Iterators.{all_of-iter}
use Rattle.page.specs.Choice.{page_granted}
use Rattle.device.specs.Device.{supported, granted, chosen_unpaged, power_on, power_on_by}
use Rattle.device.proofs.power_on_by.Goals as goal

pub returns-then-not-all : goal.returns-then-not-all
unfolding power_on_by granted supported
returns-then-not-all c =
    let l = c.args.choices in
    let long : length l ≡ 8 = search (rules, length-mapped) in
    let all = all_of-iter page_granted l _ _ _ c.all.ensures.ran (λ x q k. search (rules, tests)) (λ x q k. search (rules, tests)) cc in
    rw (long, sym all ∙ c.if-not-all.true, c.power_on.ensures, c.into.ensures)

pub returns : goal.returns
unfolding power_on_by granted supported power_on chosen_unpaged
returns c =
    let l = c.args.choices in
    let long : length l ≡ 8 = search (rules, length-mapped) in
    let all = all_of-iter page_granted l _ _ _ c.all.ensures.ran (λ x q k. search (rules, tests)) (λ x q k. search (rules, tests)) cc in
    rw (long, sym all ∙ c.if-not-all.false, c.power_on_unpaged.ensures, c.chosen_pages.ensures)
