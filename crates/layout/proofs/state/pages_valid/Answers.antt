-- `layout::state::pages_valid` meets its contract.
-- Assumes nothing.
use Rattle.std.proofs.Common.{ℕ, ◌≡◌, ◌-◌, refl, sym, ap, ◌∙◌, arith}
use Rattle.page.specs.Settings.{page_valid}
use Rattle.layout.specs.Layout.{page_form}
use Rattle.layout.proofs.EightPages.{wide}
use Rattle.layout.proofs.Laws.{tested_turn, tested_not}
use Rattle.layout.proofs.state.pages_valid.Goals as goal

pub loop-i-init : goal.loop-i-init
loop-i-init c = refl

pub returns-then-not-valid_at : goal.returns-then-not-valid_at
returns-then-not-valid_at c =
    let s = c.args.s.now in
    let here = sym (ap (λ (o : ℕ). page_valid (page_form.get s o)) c.place.ensures) ∙ sym c.valid_at.ensures ∙ c.if-not-valid_at.true in
    tested_not page_form page_valid 8 c.loop-i.i s _ _ (omega arith) here c.loop-i.invariant

pub loop-i-preserved : goal.loop-i-preserved
loop-i-preserved c =
    let s = c.args.s.now in
    let here = c.valid_at.ensures ∙ ap (λ (o : ℕ). page_valid (page_form.get s o)) c.place.ensures in
    tested_turn page_form page_valid 8 c.loop-i.i s _ _ _ _ (omega arith) here c.if-not-valid_at.false (rw wide (omega arith)) c.loop-i.invariant

pub returns : goal.returns
returns c = let over : 8 - c.loop-i.i ≡ 0 = omega arith in rw over at c.loop-i.invariant
