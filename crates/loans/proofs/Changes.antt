-- Answer 15, and which records a call changes, from what crate history says of `step`.
-- Assumes nothing.
use Prim.Native.Nat.{ℕ}
use mathlib.Core.Path.{◌≡◌, refl, sym, ap, subst, ◌∙◌}
use mathlib.Core.List.{[]}
use lib.ListN.{length, get_or, replicate, length-replicate}
use lib.Seq.{take_all}
use native.Mathlib.Nat.{le_refl}
use lib.Dec.{eqb}
use Rattle.page.specs.Page.{no_page}
use Rattle.reads.specs.Answers.{answers_data}
use Rattle.reads.specs.Data.{read_stream}
use Rattle.reads.specs.Reply.{reply_of, alert_stream}
use Rattle.device.specs.declared.Device.{Device}
use Rattle.device.specs.declared.Done.{Done}
use Rattle.device.specs.Device.{device, device_valid}
use Rattle.device.specs.Step.{Call, write, read, measure, sample, alert_response, tick, sent, clocked, step}
use Rattle.device.specs.Touches.{PagesStay}
use Rattle.device.proofs.PowerOn.{usual-unpaged}
use Rattle.device.proofs.Touches.{pages_stay}
use Rattle.history.specs.Run.{next, answer}
use Rattle.history.specs.Valid.{Fifteen}
use Rattle.history.specs.Refusals.{Unchanged, silent}
use Rattle.history.proofs.Refusals.{unchanged}
use Rattle.history.proofs.Runs.{same_length}
use Rattle.history.proofs.Valid.{fifteen}
use Rattle.lent.specs.Lent.{powered_by}
use Rattle.lent.specs.PowerOn.{PoweredAs}
use Rattle.lent.specs.PowerOn as lent
use Rattle.lent.proofs.Powered.{power_on-by_leaves as lent-leaves}
use Rattle.loans.specs.Changes.{FifteenExactly, RecordsStay, FifteenLeaves, FifteenReplies, PowerOnLeaves, PowerOnByLeaves}

pub fifteen-exactly : FifteenExactly
unfolding FifteenExactly Fifteen device_valid
fifteen-exactly u ps c o qs e = ap (λ (x : Done). eqb x.answer 15) e ∙ fifteen (device u ps) c

pub records_stay : RecordsStay
unfolding RecordsStay PagesStay
records_stay u ps c o qs e =
    let pages = ap (λ (x : Done). x.device.pages) e in
    record {
      number = ap length pages ∙ same_length (device u ps) c;
      others = λ i h. ap (λ l. get_or l i no_page) pages ∙ pages_stay (device u ps) c i h;
    }

-- ---- under 15

nothing-sent : (d : Device) (c : Call) → sent d c 15 ≡ []
unfolding sent read_stream answers_data alert_stream
nothing-sent d (write s) = refl
nothing-sent d (read header n) = refl
nothing-sent d (measure page quantity word) = refl
nothing-sent d (sample n) = refl
nothing-sent d (alert_response n) = refl
nothing-sent d tick = refl

module _ (d : Device) (c : Call) (z : answer d c ≡ 15) where
  pub fifteen-stays : next d c ≡ d
  unfolding Unchanged silent
  fifteen-stays = unchanged d c (ap silent z)

  fifteen-sends : (step d c).reply ≡ replicate (clocked c) 0xFF
  unfolding step
  fifteen-sends =
      ap (λ a. reply_of (sent d c a) (clocked c)) z ∙ ap (λ s. reply_of s (clocked c)) (nothing-sent d c)
      ∙ take_all (clocked c) (replicate (clocked c) 0xFF) (rw (length-replicate {A = ℕ} (clocked c) 0xFF) (le_refl (clocked c)))

pub fifteen-leaves : FifteenLeaves
unfolding FifteenLeaves
fifteen-leaves u ps c o qs e z =
    let d = device u ps in
    let s = ap (λ (x : Done). x.device) e ∙ fifteen-stays d c (sym (ap (λ (x : Done). x.answer) e) ∙ z) in
    (ap (λ (x : Device). x.unpaged) s, ap (λ (x : Device). x.pages) s)

pub fifteen-replies : FifteenReplies
unfolding FifteenReplies
fifteen-replies u ps c o qs reply e r z = r ∙ fifteen-sends (device u ps) c (sym (ap (λ (x : Done). x.answer) e) ∙ z)

pub power_on-leaves : PowerOnLeaves
unfolding PowerOnLeaves powered_by
power_on-leaves ps o qs e h =
    let p = rw h at e in
    (ap (λ (x : Done). x.answer) p, ap (λ (x : Done). x.device.unpaged) p ∙ usual-unpaged (length ps), ap (λ (x : Done). x.device.pages) p)

pub power_on-by_leaves : PowerOnByLeaves
unfolding PowerOnByLeaves lent.PowerOnByLeaves
power_on-by_leaves ps cs o qs e = subst (PoweredAs ps cs) (sym e) (lent-leaves ps cs)
