-- `device::steps::measured` meets its contract.
-- Assumes nothing.
use Rattle.std.proofs.Common.{◌≡◌, length, arith, rules}
use Rattle.laws.proofs.Folds.{length-mapped}
use Rattle.device.proofs.OnePage.{one_measured}
use Rattle.device.proofs.steps.measured.Goals as goal

pub returns : goal.returns
returns c =
    let a = c.args in
    let small = c.requires in
    let long : length a.d.now.pages ≡ 8 = search (rules, length-mapped) in
    simp (c.risen.ensures, c.settled-q.ensures, c.set_measurement-changed.ensures, c.from-k.ensures)
    (one_measured a.d.now a.page _ a.word (omega (arith, long)))
