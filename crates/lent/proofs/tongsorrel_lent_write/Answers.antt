-- `lent::tongsorrel_lent_write` meets its contract.
-- Assumes nothing.
use Rattle.std.proofs.Common.{◌≡◌, ◌&&◌, refl, ap, ◌∙◌}
use Rattle.laws.specs.Lists.{any_of}
use Rattle.page.specs.Status.{any_status}
use Rattle.writes.specs.Asked.{asked}
use Rattle.lent.specs.declared.Outcome.{Outcome}
use Rattle.lent.specs.Lent.{beside}
use Rattle.lent.proofs.Known.{write_known}
use Rattle.lent.proofs.Outcomes.{write_lent}
use Rattle.lent.proofs.tongsorrel_lent_write.Goals as goal
use Rattle.lent.proofs.tongsorrel_lent_write.Goals.{then-t, else-t}

pub returns : goal.returns
returns c =
    let u = c.args.u in
    let ps = c.args.pages.now in
    let bytes = c.args.bytes.now in
    let j = c.judged-judged in
    let p = c.take-p.result in
    let t = c.write_turn-t.result in
    let zs = c.rest-rose.new.pages in
    let standing : c.if-t.standing ≡ (t.clears && any_of any_status zs) =
    elim c.if-t.branch [ then-t w ↦ w.standing-is ∙ rw w.if-t.true w.any_bit-standing.ensures | else-t w ↦ w.standing-is ∙ rw w.if-t.false ] in
    let turned =
    write_known u c.survey-seen.result bytes c.unwrap_or.result (λ k is. c.unwrap_or.ensures ∙ rw is) j.result j.ensures.answer ps c.survey-seen.ensures
    p (asked bytes) t (c.write_turn-t.ensures (asked bytes) j.ensures.write) in
    ap (λ (r : Outcome). beside r zs) c.finished.ensures
    ∙ write_lent u ps bytes p (asked bytes) t c.put.new.pages zs c.rest-rose.result c.if-t.standing c.take-p.ensures (λ z. refl) turned c.put.ensures
    c.rest-rose.ensures.rose c.rest-rose.ensures.after standing
