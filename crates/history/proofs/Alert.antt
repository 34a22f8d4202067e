-- The alert: it rises with a bit, follows the bits after a clearing, and goes down by an answered alert response.
-- Assumes nothing.
use Prim.Native.Nat.{ℕ}
use mathlib.Core.Path.{◌≡◌, refl, sym, ap, ◌∙◌}
use mathlib.Core.Logic.{◌⊎◌, inl, inr}
use mathlib.Core.Bool.{Bool, true, false, ◌||◌, or-false, or-true, and-eq-true_iff, false≢true}
use mathlib.Core.List.{List, [], ◌∷◌, map}
use lib.Dec.{eqb}
use lib.ListN.{length, get_or}
use borrow.Author.Tests.{eqb-true, eq-eqb}
use Rattle.laws.specs.Lists.{any_of, any_pair}
use Rattle.laws.proofs.Branches.{either}
use Rattle.laws.proofs.Lists.{any_at, any_found as any-page}
use Rattle.laws.proofs.Places.{pair_same, pair_at, pair_found}
use Rattle.page.specs.declared.Page.{Page}
use Rattle.page.specs.Page.{no_page}
use Rattle.page.specs.Causes.{moved, ticked}
use Rattle.page.specs.Status.{any_status, gains, risen}
use Rattle.page.proofs.Bits.{gains-found, gains-made, gains-none, any_found, any-made, risen-found, risen-made, risen-none, status_found, status_made}
use Rattle.unpaged.specs.Unpaged.{refused}
use Rattle.writes.specs.Asked.{word_of, asked}
use Rattle.writes.specs.Left.{clearing}
use Rattle.writes.specs.Accepted.{code_of}
use Rattle.device.specs.declared.Device.{Device}
use Rattle.device.specs.Device.{page_of, standing, turned, alert_risen, alert_standing}
use Rattle.device.specs.Step.{Call, write, read, measure, sample, alert_response, tick, effect, refused_device, written_to, measured, ticked_device}
use Rattle.history.specs.Run.{next, answer}
use Rattle.history.specs.Clearing.{accepted_write, reworks_alert, clearing_call}
use Rattle.history.specs.Alert.{Turned, Stands, answered_alert, AlertRises, AlertCleared, AlertAnswered}
use Rattle.history.proofs.Codes.{clearing-code}
use Rattle.history.proofs.Outcomes.{done_next, refused-next, by_answer, write_next, written-raised, written-standing}
use Rattle.history.proofs.PageAfter.{accepted-test}
use Rattle.history.proofs.Runs.{same_length}

-- ---- the tests, as statements on single bits

module _ (d e : Device) (same : length e.pages ≡ length d.pages) where
  turned-found : turned d e ≡ true → Turned d e
  turned-found h =
      either (gains d.unpaged.cml e.unpaged.cml)
      (λ y. let n = gains-found d.unpaged.cml e.unpaged.cml y in Turned.in_cml n.place n.old n.new)
      (λ b. let r = pair_found no_page risen d.pages e.pages (rw b at h) in
      let n = risen-found (page_of d r.0) (page_of e r.0) r.2 in
      Turned.on_page r.0 n.register n.bit-place r.1 n.small n.old n.new)

  turned-made : Turned d e → turned d e ≡ true
  turned-made (Turned.in_cml k old new) = rw (gains-made d.unpaged.cml e.unpaged.cml k old new)
  turned-made (Turned.on_page i j k hi hj old new) =
      rw (pair_at no_page risen d.pages e.pages i hi (rw same hi) (risen-made (page_of d i) (page_of e i) j k hj old new))
      (or-true (gains d.unpaged.cml e.unpaged.cml))

module _ (e : Device) where
  stands_found : standing e ≡ true → Stands e
  stands_found h =
      either (any_of any_status e.pages)
      (λ y. let i = any-page no_page any_status e.pages y in
      let n = status_found (page_of e i.0) i.2 in
      Stands.on_page i.0 n.0 n.1 i.1 n.2 n.3)
      (λ a. let n = any_found e.unpaged.cml (rw a at h) in Stands.in_cml n.place n.new)

  stands_made : Stands e → standing e ≡ true
  stands_made (Stands.in_cml k new) = rw (any-made e.unpaged.cml k new) (or-true (any_of any_status e.pages))
  stands_made (Stands.on_page i j k hi hj new) = rw (any_at no_page any_status e.pages i hi (status_made (page_of e i) j k hj new))

second : (a b : Bool) → a ≡ false → (a || b) ≡ true → b ≡ true
second a b n h = rw n at h

-- ---- every call but a clearing and an answered alert response raises the alert with the bits that turned

record Raised (d e : Device) : Type 0 where
  alert : e.unpaged.alert ≡ (d.unpaged.alert || turned d e)

risen-raised : (d e : Device) → Raised d (alert_risen d e)
unfolding alert_risen
risen-raised d e = record { alert = refl }

-- nothing but the unpaged part changes
kept-raised : (d e : Device) → e.pages ≡ d.pages → e.unpaged.alert ≡ (d.unpaged.alert || gains d.unpaged.cml e.unpaged.cml) → Raised d e
kept-raised d e p a = record {
  alert = a ∙ ap (λ (b : Bool). d.unpaged.alert || b)
      (sym (rw (p, pair_same no_page risen risen-none d.pages) (or-false (gains d.unpaged.cml e.unpaged.cml))));
}

-- nor STATUS_CML, nor the alert
still_raised : (d e : Device) → e.pages ≡ d.pages → e.unpaged.cml ≡ d.unpaged.cml → e.unpaged.alert ≡ d.unpaged.alert → Raised d e
still_raised d e p c a = kept-raised d e p (a ∙ rw (c, gains-none d.unpaged.cml) (sym (or-false d.unpaged.alert)))

-- a tick turns no bit
ticked-risen : (p : Page) → risen p (ticked p) ≡ false
unfolding ticked moved risen
ticked-risen p = risen-none p

none-risen : (l : List Page) → any_pair risen l (map ticked l) ≡ false
none-risen [] = refl
none-risen (p ∷ l) = rw (ticked-risen p) (none-risen l)

ticked-raised : (d : Device) → Raised d (ticked_device d)
unfolding ticked_device
ticked-raised d = record {
  alert = sym (rw (gains-none d.unpaged.cml, none-risen d.pages) (or-false d.unpaged.alert));
}

module _ (d : Device) where
  not_clearing : (s : List ℕ) → answer d (write s) ≡ 0 → clearing (asked s) ≡ clearing_call d (write s)
  unfolding clearing_call asked
  not_clearing s z =
      clearing-code (code_of s) (get_or s 2 0) (word_of (get_or s 2 0) (get_or s 3 0)) ∙ sym (accepted-test d s (λ code x. reworks_alert code) z)

  effect-raised : (c : Call) → answer d c ≡ 0 → clearing_call d c ≡ false → answered_alert d c ≡ false → Raised d (effect d c)
  unfolding effect measured answered_alert
  effect-raised (write s) z h k = rw (written-raised d (asked s) (not_clearing s z ∙ h)) (risen-raised d (written_to d (asked s)))
  effect-raised (read header n) z h k = still_raised d d refl refl refl
  effect-raised (measure page quantity word) z h k = risen-raised d _
  effect-raised (sample n) z h k = still_raised d _ refl refl refl
  effect-raised (alert_response n) z h k = absurd (false≢true (sym k ∙ eq-eqb (answer d (alert_response n)) 0 z))
  effect-raised tick z h k = ticked-raised d

  refused-raised : (a : ℕ) → Raised d (refused_device d a)
  unfolding refused_device refused
  refused-raised a = kept-raised d (refused_device d a) refl refl

  next-raised : (c : Call) → clearing_call d c ≡ false → answered_alert d c ≡ false → Raised d (next d c)
  next-raised c h k =
      by_answer d c (λ z. rw (done_next d c z) (effect-raised c z h k)) (λ r. rw (refused-next d c r) (refused-raised (answer d c)))

pub alert_rises : AlertRises
unfolding AlertRises
alert_rises d c h k =
    let e = next d c in
    let same = same_length d c in
    let r = (next-raised d c h k).alert in (
      λ a. either d.unpaged.alert (λ y. inl y) (λ n. inr (turned-found d e same (second d.unpaged.alert (turned d e) n (sym r ∙ a)))),
      λ t. r ∙ risen-by d e same t,
    )
  where
    risen-by : (d e : Device) → length e.pages ≡ length d.pages → (d.unpaged.alert ≡ true) ⊎ Turned d e → (d.unpaged.alert || turned d e) ≡ true
    risen-by d e same (inl y) = rw y
    risen-by d e same (inr t) = rw (turned-made d e same t) (or-true d.unpaged.alert)

pub alert_answered : AlertAnswered
unfolding AlertAnswered answered_alert effect
alert_answered d (write s) h = absurd (false≢true h)
alert_answered d (read header n) h = absurd (false≢true h)
alert_answered d (measure page quantity word) h = absurd (false≢true h)
alert_answered d (sample n) h = absurd (false≢true h)
alert_answered d (alert_response n) h =
    ap (λ (e : Device). e.unpaged.alert) (done_next d (alert_response n) (eqb-true (answer d (alert_response n)) 0 h))
alert_answered d tick h = absurd (false≢true h)

-- ---- after a clearing

standing-alert : (e : Device) → (alert_standing e).unpaged.alert ≡ standing (alert_standing e)
unfolding alert_standing
standing-alert e = refl

module _ (d : Device) where
  cleared-alert : (s : List ℕ) → clearing_call d (write s) ≡ true → (next d (write s)).unpaged.alert ≡ standing (next d (write s))
  unfolding clearing_call accepted_write
  cleared-alert s h =
      let b = (and-eq-true_iff (eqb (answer d (write s)) 0) (reworks_alert (code_of s))).0 h in
      let z = eqb-true (answer d (write s)) 0 b.0 in
      rw (write_next d s z ∙ written-standing d (asked s) (not_clearing d s z ∙ h)) (standing-alert (written_to d (asked s)))

  clearing-alert : (c : Call) → clearing_call d c ≡ true → (next d c).unpaged.alert ≡ standing (next d c)
  unfolding clearing_call accepted_write
  clearing-alert (write s) h = cleared-alert s h
  clearing-alert (read header n) h = absurd (false≢true h)
  clearing-alert (measure page quantity word) h = absurd (false≢true h)
  clearing-alert (sample n) h = absurd (false≢true h)
  clearing-alert (alert_response n) h = absurd (false≢true h)
  clearing-alert tick h = absurd (false≢true h)

pub alert_cleared : AlertCleared
unfolding AlertCleared
alert_cleared d c h =
    let e = next d c in
    let a = clearing-alert d c h in
    (λ y. stands_found e (sym a ∙ y), λ s. a ∙ stands_made e s)
