-- What a call leaves of each page of the device.
-- Assumes nothing.
use Prim.Native.Nat.{ℕ, ◌<◌}
use mathlib.Core.Path.{◌≡◌, refl, sym, ap, ◌∙◌}
use mathlib.Core.Bool.{Bool, false, cond, and-false, and-true}
use mathlib.Core.List.{List}
use lib.Dec.{eqb}
use lib.ListN.{length, get_or}
use borrow.Author.Tests.{eq-eqb, ne_eqb}
use Rattle.laws.proofs.Branches.{either}
use Rattle.laws.proofs.Places.{get_or-map_at}
use Rattle.page.specs.declared.Page.{Page}
use Rattle.page.specs.Page.{no_page}
use Rattle.page.specs.Causes.{settled}
use Rattle.page.specs.Settings.{set_measurement}
use Rattle.unpaged.specs.Unpaged.{acts_on}
use Rattle.writes.specs.Asked.{word_of, asked}
use Rattle.writes.specs.Left.{page_left}
use Rattle.writes.specs.Accepted.{code_of}
use Rattle.device.specs.declared.Device.{Device}
use Rattle.device.specs.Device.{page_of}
use Rattle.device.specs.Step.{Call, write, read, measure, sample, alert_response, tick, effect, refused_device}
use Rattle.device.proofs.Touches.{written-pages, measured-pages}
use Rattle.history.specs.Run.{next, answer}
use Rattle.history.specs.Clearing.{accepted_write, clears_page, clears}
use Rattle.history.specs.Tripping.{untripping, untrips}
use Rattle.history.specs.Retry.{resting, rests}
use Rattle.history.proofs.Codes.{cleared-code, untripping-code, rests-code}
use Rattle.history.proofs.PageLeft.{PageLeft, kept, timed, Nothing, nothing, same_left, written-page, measured-page}
use Rattle.history.proofs.Outcomes.{done_next, refused-next, by_answer, write_next, ticked-page_at}

-- ---- which calls clear and untrip

pub refused-tests : (d : Device) (c : Call) → (answer d c ≡ 0 → ⊥) → (test : ℕ → ℕ → Bool) → accepted_write d c test ≡ false
unfolding accepted_write
refused-tests d (write s) h test = cc (ne_eqb (answer d (write s)) 0 h)
refused-tests d (read header n) h test = refl
refused-tests d (measure page quantity word) h test = refl
refused-tests d (sample n) h test = refl
refused-tests d (alert_response n) h test = refl
refused-tests d tick h test = refl

-- a tick with answer 0
abbrev pub time_of : Device → Call → Bool
time_of d (write s) = false
time_of d (read header n) = false
time_of d (measure page quantity word) = false
time_of d (sample n) = false
time_of d (alert_response n) = false
time_of d tick = eqb (answer d tick) 0

refused-time : (d : Device) (c : Call) → (answer d c ≡ 0 → ⊥) → time_of d c ≡ false
refused-time d (write s) h = refl
refused-time d (read header n) h = refl
refused-time d (measure page quantity word) h = refl
refused-time d (sample n) h = refl
refused-time d (alert_response n) h = refl
refused-time d tick h = ne_eqb (answer d tick) 0 h

pub accepted-test : (d : Device) (s : List ℕ) (test : ℕ → ℕ → Bool) → answer d (write s) ≡ 0
    → accepted_write d (write s) test ≡ test (code_of s) (get_or s 2 0)
unfolding accepted_write
accepted-test d s test z = rw (eq-eqb (answer d (write s)) 0 z)

-- ---- the pages

module _ (d : Device) (c : Call) (i : ℕ) where
  abbrev pub LeftAt : Type 0
  LeftAt = PageLeft (page_of d i) (page_of (next d c) i) (clears d c i) (untrips d c i) (rests d c i) (time_of d c)

  -- a call that is no accepted write, and does not change the page
  no_write : ((test : ℕ → ℕ → Bool) → accepted_write d c test ≡ false) → Nothing (clears d c i) (untrips d c i) (rests d c i)
  unfolding clears untrips rests
  no_write h = record {
    bits = λ j k l. rw (h (λ code x. clears_page code x j k));
    trip = rw (h untripping);
    machines = λ k l. rw (h (resting k));
  }

  untouched : page_of (next d c) i ≡ page_of d i → ((test : ℕ → ℕ → Bool) → accepted_write d c test ≡ false) → time_of d c ≡ false → LeftAt
  untouched e h t = kept e (no_write h) t

  refused-left : (answer d c ≡ 0 → ⊥) → LeftAt
  unfolding refused_device
  refused-left h = untouched (ap (λ (e : Device). page_of e i) (refused-next d c h)) (refused-tests d c h) (refused-time d c h)

module _ (d : Device) (i : ℕ) (small : i < length d.pages) where
  written-left : (s : List ℕ) → answer d (write s) ≡ 0 → LeftAt d (write s) i
  unfolding clears untrips rests asked
  written-left s z =
      let u = d.unpaged in
      let code = code_of s in
      let x = get_or s 2 0 in
      let y = word_of x (get_or s 3 0) in
      let w = asked s in
      let after : page_of (next d (write s)) i ≡ cond (acts_on u i) (page_left w (page_of d i)) (page_of d i) =
      ap (λ (e : Device). page_of e i) (write_next d s z) ∙ rw (written-pages d w) (get_or-map_at no_page (acts_on u) (page_left w) d.pages i small) in
      let test : (t : ℕ → ℕ → Bool) → accepted_write d (write s) t ≡ t code x = λ t. accepted-test d s t z in
      either (acts_on u i)
      (λ y. same_left (page_of d i) _ _ _ _ _ _ _ _ _ (after ∙ rw y)
      (λ j k l. rw (y, test (λ code x. clears_page code x j k)) (and-true (clears_page code x j k) ∙ sym (cleared-code code x _ j k l)))
      (rw (y, test untripping) (and-true (untripping code x) ∙ sym (untripping-code code x _)))
      (λ k l. rw (y, test (resting k)) (and-true (resting k code x) ∙ sym (rests-code code x _ k l)))
      (written-page (page_of d i) w))
      (λ n. kept (after ∙ rw n)
      (record {
        bits = λ j k l. rw n (and-false (accepted_write d (write s) (λ code x. clears_page code x j k)));
        trip = rw n (and-false (accepted_write d (write s) untripping));
        machines = λ k l. rw n (and-false (accepted_write d (write s) (resting k)));
      }) refl)

  measured-left : (page quantity word : ℕ) → answer d (measure page quantity word) ≡ 0 → LeftAt d (measure page quantity word) i
  unfolding accepted_write effect clears untrips rests
  measured-left page quantity word z =
      let c = measure page quantity word in
      let f : Page → Page = λ p. settled (set_measurement p quantity word) in
      let after : page_of (next d c) i ≡ cond (eqb page i) (f (page_of d i)) (page_of d i) =
      ap (λ (e : Device). page_of e i) (done_next d c z) ∙ rw (measured-pages d page quantity word) (get_or-map_at no_page (eqb page) f d.pages i small) in
      either (eqb page i)
      (λ y. same_left (page_of d i) _ _ _ _ _ _ _ _ _ (after ∙ rw y) (λ j k l. refl) refl (λ k l. refl) (measured-page (page_of d i) quantity word))
      (λ n. kept (after ∙ rw n) nothing refl)

  answered-left : (c : Call) → answer d c ≡ 0 → LeftAt d c i
  unfolding accepted_write effect
  answered-left (write s) z = written-left s z
  answered-left (read header n) z = untouched d (read header n) i (ap (λ (e : Device). page_of e i) (done_next d (read header n) z)) (λ t. refl) refl
  answered-left (measure page quantity word) z = measured-left page quantity word z
  answered-left (sample n) z = untouched d (sample n) i (ap (λ (e : Device). page_of e i) (done_next d (sample n) z)) (λ t. refl) refl
  answered-left (alert_response n) z =
      untouched d (alert_response n) i (ap (λ (e : Device). page_of e i) (done_next d (alert_response n) z)) (λ t. refl) refl
  answered-left tick z = timed (ticked-page_at d z i small) (no_write d tick i (λ t. refl)) (eq-eqb (answer d tick) 0 z)

  pub page-after : (c : Call) → LeftAt d c i
  page-after c = by_answer d c (answered-left c) (refused-left d c i)
