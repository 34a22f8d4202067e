-- `device::chosen_pages` meets its contract.
-- Assumes nothing.
use Rattle.std.proofs.Common.{◌≡◌, length, ◌∙◌, arith, rules}
use Rattle.std.proofs.Math.ListN.{length-set}
use Rattle.laws.proofs.Folds.{length-mapped}
use Rattle.page.specs.Choice.{no_choice, chosen_page}
use Rattle.device.proofs.Built.{built-step}
use Rattle.device.proofs.chosen_pages.Goals as goal

pub loop-i-preserved : goal.loop-i-preserved
loop-i-preserved c =
    let h = c.loop-i in
    let l = c.args.choices in
    let long : length l ≡ 8 = search (rules, length-mapped) in (
      length-set h.pages h.i c.chosen_page.result ∙ h.invariant.0,
      built-step chosen_page no_choice l h.pages h.i (omega arith) h.invariant.1 c.chosen_page.result (omega arith) c.chosen_page.ensures,
    )
