-- Stray calls drop out of a run: a call that gets 15 leaves what it was lent, and is no part of the energy guarantee.
-- Assumes nothing.
use mathlib.Core.Path.{◌≡◌, refl, sym, ap, ◌∙◌, subst}
use mathlib.Core.Bool.{true, ◌&&◌, and-eq-true_iff, false≢true}
use mathlib.Core.List.{List, [], ◌∷◌}
use native.Mathlib.Omega.{arith}
use lib.Dec.{eqb}
use lib.ListN.{length}
use borrow.Author.Tests.{eq-eqb}
use Rattle.laws.proofs.Branches.{either}
use Rattle.page.specs.declared.Page.{Page}
use Rattle.writes.specs.Accepted.{code_of}
use Rattle.energy.specs.Reply.{Copy}
use Rattle.energy.specs.Events.{Log, fresh_log}
use Rattle.device.specs.declared.Device.{Device}
use Rattle.device.specs.Device.{device, Choice, number_of, usual, power_on, supported, granted}
use Rattle.device.specs.Step.{Call, write, read, measure, sample, alert_response, tick, step}
use Rattle.device.proofs.PowerOn.{usual-number, usual-granted, granted-number}
use Rattle.history.specs.Run.{next, answer, run}
use Rattle.history.specs.Energy.{Turn, is_energy_reply, part_of, part, log_part, log_after, TrueCopies, TotalsTrusted}
use Rattle.history.proofs.Energy.{totals-trusted}
use Rattle.lent.specs.Lent.{powered_by}
use Rattle.loans.specs.Loans.{Loan}
use Rattle.loans.specs.Runs.{LentCall, own, stray, stray_power_on, lent_next, Gets15, StraysGet15, lent_run, own_results, lent_part, lent_copies, lent_log, TrueLentCopies, own_turns, own_calls, results, started, ChosenFor, RefusedStarts, StraysDropOut, CarriesOver, LentEnergy}
use Rattle.loans.proofs.Changes.{fifteen-stays}

-- ---- a stray call

module _ (d : Device) (l : Loan) where
  stray_stays : (t : Turn) → answer (l.lent d) t.call ≡ 15 → lent_next d (stray l t) ≡ d
  unfolding lent_next
  stray_stays t z = ap (l.back d) (fifteen-stays (l.lent d) t.call z) ∙ l.same d

  unset : (x : Choice) (ps : List Page) → (powered_by x ps).answer ≡ 15 → (powered_by x ps).device.pages ≡ ps
  unfolding powered_by
  unset x ps z =
      either (supported (length ps))
      (λ e. either (eqb (number_of x) (length ps) && granted x)
      (λ t. let no : 0 ≡ 15 = rw (e, t) at z in absurd (omega arith))
      (λ t. let no : 27 ≡ 15 = rw (e, t) at z in absurd (omega arith)))
      (λ e. rw e)

  power_on-stays : (x : Choice) → (powered_by x (l.lent d).pages).answer ≡ 15 → lent_next d (stray_power_on x l) ≡ d
  unfolding lent_next
  power_on-stays x z = ap (λ ps. l.back d (device (l.lent d).unpaged ps)) (unset x (l.lent d).pages z) ∙ l.same d

-- what a call with 15 is in the log: nothing
not_logged : (d : Device) (c : Call) (g : Log) (copies : List Copy) → answer d c ≡ 15 → log_part g copies (part_of c (step d c)) ≡ g
unfolding part_of log_part
not_logged d (write s) g copies z = refl
not_logged d (read header n) g copies z =
    either (is_energy_reply header n (step d (read header n)))
    (λ e. absurd (false≢true (rw z at ((and-eq-true_iff (eqb (code_of header) 0x86 && eqb n 8) (eqb (answer d (read header n)) 0)).0 e).1)))
    (λ e. rw e)
not_logged d (measure page quantity word) g copies z = refl
not_logged d (sample n) g copies z = rw z
not_logged d (alert_response n) g copies z = refl
not_logged d tick g copies z = refl

-- ---- a run of them

drop-state : (d : Device) (ms : List LentCall) → StraysGet15 d ms → lent_run d ms ≡ run d (own_calls ms)
unfolding lent_run run StraysGet15 own_turns Gets15 lent_next
drop-state d [] h = refl
drop-state d (own t ∷ ms) h = drop-state (next d t.call) ms h.1
drop-state d (stray l t ∷ ms) h = let s = stray_stays d l t h.0 in rw s (drop-state d ms (rw s at h.1))
drop-state d (stray_power_on x l ∷ ms) h = let s = power_on-stays d l x h.0 in rw s (drop-state d ms (rw s at h.1))

drop-results : (d : Device) (ms : List LentCall) → StraysGet15 d ms → own_results d ms ≡ results d (own_calls ms)
unfolding own_results results StraysGet15 own_turns Gets15 lent_next
drop-results d [] h = refl
drop-results d (own t ∷ ms) h = ap (λ rs. step d t.call ∷ rs) (drop-results (next d t.call) ms h.1)
drop-results d (stray l t ∷ ms) h = let s = stray_stays d l t h.0 in rw s (drop-results d ms (rw s at h.1))
drop-results d (stray_power_on x l ∷ ms) h = let s = power_on-stays d l x h.0 in rw s (drop-results d ms (rw s at h.1))

drop-log : (d : Device) (g : Log) (ms : List LentCall) → StraysGet15 d ms → lent_log d g ms ≡ log_after d g (own_turns ms)
unfolding lent_log log_after StraysGet15 own_turns Gets15 lent_part lent_copies lent_next log_part
drop-log d g [] h = refl
drop-log d g (own t ∷ ms) h = drop-log (next d t.call) (log_part g t.copies (part d t)) ms h.1
drop-log d g (stray l t ∷ ms) h =
    let s = stray_stays d l t h.0 in
    rw (s, not_logged (l.lent d) t.call g t.copies h.0) (drop-log d g ms (rw s at h.1))
drop-log d g (stray_power_on x l ∷ ms) h = let s = power_on-stays d l x h.0 in rw s (drop-log d g ms (rw s at h.1))

drop-copies : (d : Device) (ms : List LentCall) → StraysGet15 d ms → TrueLentCopies d ms → TrueCopies d (own_turns ms)
unfolding TrueLentCopies TrueCopies StraysGet15 own_turns Gets15 lent_part lent_copies lent_next
drop-copies d [] h m = tt
drop-copies d (own t ∷ ms) h m = (m.0, drop-copies (next d t.call) ms h.1 m.1)
drop-copies d (stray l t ∷ ms) h m = let s = stray_stays d l t h.0 in drop-copies d ms (rw s at h.1) (rw s at m.1)
drop-copies d (stray_power_on x l ∷ ms) h m = let s = power_on-stays d l x h.0 in drop-copies d ms (rw s at h.1) (rw s at m.1)

-- ---- from power-on

started-at : (x : Choice) (ps : List Page) → ChosenFor ps x → started x ps ≡ power_on x
unfolding powered_by
started-at x ps h = rw (← h.1, granted-number x h.0, eq-eqb (number_of x) (number_of x) refl, h.0, started)

pub refused-starts : RefusedStarts
unfolding RefusedStarts powered_by
refused-starts x ps z =
    let n = length ps in
    either (supported n)
    (λ s.
    let number = usual-number n in
    let grants : granted (usual n) ≡ true = usual-granted n ∙ s in (
      either (eqb (number_of x) n && granted x)
          (λ t. let no : 0 ≡ 27 = rw (s, t) at z in absurd (omega arith))
          (λ t. rw (s, t, number, eq-eqb n n refl, grants, started)),
      (grants, number),
    ))
    (λ s. let no : 15 ≡ 27 = rw s at z in absurd (omega arith))

pub strays_drop_out : StraysDropOut
unfolding StraysDropOut
strays_drop_out x ps ms h z =
    let s = started-at x ps h in
    let y = rw s at z in
    let d = power_on x in
    rw s (record { state = drop-state d ms y; answers = drop-results d ms y; log = drop-log d fresh_log ms y })

pub carries_over : CarriesOver
unfolding CarriesOver StraysDropOut
carries_over P x ps ms h z f = subst (P (own_calls ms)) (sym (strays_drop_out x ps ms h z).state) (f (own_calls ms))

pub lent_energy : LentEnergy
unfolding LentEnergy TotalsTrusted
lent_energy x ps ms h z m =
    let s = started-at x ps h in
    let y = rw s at z in
    let d = power_on x in
    rw (s, drop-log d fresh_log ms y) (totals-trusted x (own_turns ms) (drop-copies d ms y (rw s at m)))
