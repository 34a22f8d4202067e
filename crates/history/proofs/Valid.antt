-- Answer 15 goes to states that are not valid, and a run has none.
-- Assumes nothing.
use Prim.Native.Nat.{ℕ}
use mathlib.Core.Path.{◌≡◌, refl, sym, ap, ◌∙◌}
use mathlib.Core.Bool.{Bool, true, false, not, false≢true}
use mathlib.Core.List.{List}
use lib.Dec.{eqb, ltb}
use lib.ListN.{length, get_or}
use borrow.Author.Tests.{eq-eqb, ltb-true}
use Rattle.laws.specs.Lists.{all_of}
use Rattle.laws.proofs.Branches.{either, cond_same, cond-apply}
use Rattle.laws.proofs.Places.{all_map_at}
use Rattle.account.specs.Account.{sampled}
use Rattle.account.proofs.Laws.{sampled-valid}
use Rattle.page.specs.declared.Page.{Page}
use Rattle.page.specs.Causes.{settled, ticked}
use Rattle.page.specs.Settings.{page_valid, set_measurement}
use Rattle.page.proofs.Setters.{operation_valid, response-valid, command_valid, limit-valid, measurement_valid, clear_valid, settled-valid, ticked-valid}
use Rattle.unpaged.specs.declared.Unpaged.{Unpaged}
use Rattle.unpaged.specs.Unpaged.{unpaged_valid, refused}
use Rattle.unpaged.specs.Events.{measure_answer, alert_answer}
use Rattle.writes.specs.declared.asked.Setting.{Setting}
use Rattle.writes.specs.declared.asked.Write.{Write}
use Rattle.writes.specs.Asked.{page_masks, word_of, asked, valid_setting, valid_write}
use Rattle.writes.specs.Answers.{data_answer, length_answer, code_answer, addressed_answer, write_answer}
use Rattle.writes.specs.Left.{applied, changed, cleared, page_left, unpaged_left}
use Rattle.writes.specs.Accepted.{code_of}
use Rattle.reads.specs.Answers.{read_answer}
use Rattle.reads.specs.Applies.{AnswersApply}
use Rattle.reads.proofs.Applies.{answers_apply}
use Rattle.device.specs.declared.Device.{Device}
use Rattle.device.specs.Device.{power_on, device_valid, page_shown, alert_risen}
use Rattle.device.specs.Step.{Call, write, read, measure, sample, alert_response, tick, answer_of, answered, effect, refused_device, step, measured, ticked_device}
use Rattle.device.proofs.States.{Valid, valid_parts}
use Rattle.device.proofs.PowerOn.{powered-valid}
use Rattle.device.proofs.Touches.{written-pages, ticked-pages}
use Rattle.history.specs.Run.{next, answer, reached}
use Rattle.history.specs.Valid.{Fifteen, ReachedValid, NoFifteen}
use Rattle.history.proofs.Codes.{small_setting, small_response, response-code}
use Rattle.history.proofs.Outcomes.{done_next, refused-next, by_answer, write_next, takes_effect_of, written-unpaged}
use Rattle.history.proofs.Runs.{kept-in_runs, same_length}

-- ---- who gets 15: in a valid state no test of any kind of call comes to it

abbrev is15 : ℕ → Bool
is15 a = eqb a 15

read_not_15 : (u : Unpaged) (p : Page) (header : List ℕ) (n : ℕ) → is15 (read_answer u p header n) ≡ false
unfolding AnswersApply
read_not_15 u p header n = rw (answers_apply u p header n) (simp (cond-apply is15, cond_same))

not_15 : (d : Device) (c : Call) → is15 (answer_of d c) ≡ false
unfolding answer_of write_answer addressed_answer code_answer length_answer data_answer measure_answer alert_answer sampled
not_15 d (write s) = simp (cond-apply is15, cond_same)
not_15 d (read header n) = read_not_15 d.unpaged (page_shown d) header n
not_15 d (measure page quantity word) = simp (cond-apply is15, cond_same)
not_15 d (sample n) = either (ltb n 32768) (λ e. rw (e, answer_of)) (λ e. rw (e, answer_of))
not_15 d (alert_response n) = simp (cond-apply is15, cond_same)
not_15 d tick = refl

pub fifteen : Fifteen
unfolding Fifteen step answered
fifteen d c = either (device_valid d) (λ e. rw (e, answer) (not_15 d c)) (λ e. rw (e, answer))

-- ---- a call leaves a valid state valid

module _ (p : Page) (v : page_valid p ≡ true) where
  setting_valid : (s : Setting) → valid_setting s ≡ true → small_setting s ≡ true → page_valid (applied s p) ≡ true
  unfolding applied valid_setting
  setting_valid (Setting.Operation x) e small = operation_valid p x v e
  setting_valid (Setting.VoutCommand w) e small = command_valid p w ∙ v
  setting_valid (Setting.Limit k w) e small = limit-valid p k w ∙ v
  setting_valid (Setting.Response k x) e small = response-valid p k x (ltb-true k 6 small) v e

  page-valid : (n : ℕ) (w : Write) → valid_write n w ≡ true → small_response w ≡ true → page_valid (page_left w p) ≡ true
  unfolding page_left changed cleared valid_write
  page-valid n Write.Nothing e small = v
  page-valid n (Write.SelectPage x) e small = v
  page-valid n (Write.Protect x) e small = v
  page-valid n (Write.Change s) e small = settled-valid (applied s p) (setting_valid s e small)
  page-valid n (Write.ClearCml m) e small = v
  page-valid n (Write.Clear m) e small = settled-valid _ (clear_valid p (page_masks m) ∙ v)

module _ (d : Device) (v : Valid d) where
  abbrev n : ℕ
  n = length d.pages

  unpaged-valid : (w : Write) → valid_write n w ≡ true → unpaged_valid n (unpaged_left w d.unpaged) ≡ true
  unfolding unpaged_left valid_write unpaged_valid
  unpaged-valid Write.Nothing e = rw (v.page, v.protect, v.energy)
  unpaged-valid (Write.SelectPage x) e = rw (e, v.protect, v.energy)
  unpaged-valid (Write.Protect x) e = rw (v.page, e, v.energy)
  unpaged-valid (Write.Change s) e = rw (v.page, v.protect, v.energy)
  unpaged-valid (Write.Clear m) e = rw (v.page, v.protect, v.energy)
  unpaged-valid (Write.ClearCml m) e = rw (v.page, v.protect, v.energy)

-- a state with the same number of pages, and both parts valid
made-valid : (d e : Device) → Valid d → length e.pages ≡ length d.pages → unpaged_valid (length d.pages) e.unpaged ≡ true
    → all_of page_valid e.pages ≡ true → device_valid e ≡ true
unfolding device_valid
made-valid d e v l u p = rw (l, v.number, u, p)

module _ (d : Device) (valid : device_valid d ≡ true) where
  abbrev v : Valid d
  v = valid_parts d valid

  write_valid : (s : List ℕ) → answer d (write s) ≡ 0 → device_valid (next d (write s)) ≡ true
  unfolding asked
  write_valid s z =
      let w = asked s in
      let a = takes_effect_of d s valid z in
      let x = get_or s 2 0 in
      let small = response-code (code_of s) x (word_of x (get_or s 3 0)) in
      made-valid d (next d (write s)) v (same_length d (write s))
      (ap (λ (e : Device). unpaged_valid (length d.pages) e.unpaged) (write_next d s z)
      ∙ written-unpaged d w (length d.pages) ∙ unpaged-valid d v w a.valid)
      (ap (λ (e : Device). all_of page_valid e.pages) (write_next d s z)
      ∙ rw (written-pages d w)
      (all_map_at page_valid _ (page_left w) d.pages (λ p e. page-valid p e (length d.pages) w a.valid small) v.pages))

  measure_valid : (page quantity word : ℕ) → answer d (measure page quantity word) ≡ 0 → device_valid (next d (measure page quantity word)) ≡ true
  unfolding effect measured alert_risen unpaged_valid
  measure_valid page quantity word z =
      let c = measure page quantity word in
      made-valid d (next d c) v (same_length d c)
      (ap (λ (e : Device). unpaged_valid (length d.pages) e.unpaged) (done_next d c z) ∙ rw (v.page, v.protect, v.energy))
      (ap (λ (e : Device). all_of page_valid e.pages) (done_next d c z)
      ∙ all_map_at page_valid (eqb page) (λ p. settled (set_measurement p quantity word)) d.pages
      (λ p e. settled-valid (set_measurement p quantity word) (measurement_valid p quantity word ∙ e)) v.pages)

  tick_valid : answer d tick ≡ 0 → device_valid (next d tick) ≡ true
  unfolding effect ticked_device unpaged_valid
  tick_valid z =
      made-valid d (next d tick) v (same_length d tick)
      (ap (λ (e : Device). unpaged_valid (length d.pages) e.unpaged) (done_next d tick z) ∙ unpaged-parts)
      (ap (λ (e : Device). all_of page_valid e.pages) (done_next d tick z)
      ∙ rw (ticked-pages d) (all_map_at page_valid (λ i. true) ticked d.pages (λ p e. ticked-valid p e) v.pages))
    where
      unpaged-parts : unpaged_valid (length d.pages) d.unpaged ≡ true
      unpaged-parts = rw (v.page, v.protect, v.energy)

  effect-valid : (c : Call) → answer d c ≡ 0 → device_valid (next d c) ≡ true
  unfolding effect device_valid unpaged_valid
  effect-valid (write s) z = write_valid s z
  effect-valid (read header m) z = rw (done_next d (read header m) z) valid
  effect-valid (measure page quantity word) z = measure_valid page quantity word z
  effect-valid (sample m) z =
      rw (done_next d (sample m) z)
      (rw (v.number, v.page, v.protect, sampled-valid d.unpaged.energy m v.energy, v.pages))
  effect-valid (alert_response m) z = rw (done_next d (alert_response m) z) valid
  effect-valid tick z = tick_valid z

  refused-valid : (a : ℕ) → device_valid (refused_device d a) ≡ true
  unfolding refused_device refused device_valid unpaged_valid
  refused-valid a = valid

pub valid_after : (d : Device) (c : Call) → device_valid d ≡ true → device_valid (next d c) ≡ true
valid_after d c v = by_answer d c (effect-valid d v c) (λ r. rw (refused-next d c r) (refused-valid d v (answer d c)))

pub reached-valid : ReachedValid
unfolding ReachedValid
reached-valid x cs h = kept-in_runs (λ (d : Device). device_valid d ≡ true) valid_after (power_on x) cs (powered-valid x h)

pub no_fifteen : NoFifteen
unfolding NoFifteen Fifteen ReachedValid
no_fifteen x cs c h e =
    let d = reached x cs in
    false≢true (sym (fifteen d c ∙ ap not (reached-valid x cs h)) ∙ eq-eqb (answer d c) 15 e)
