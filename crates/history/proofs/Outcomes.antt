-- What a call leaves, by its answer, and the parts of what an accepted write and a measurement leave.
-- Assumes nothing.
use Prim.Native.Nat.{ℕ, ◌<◌}
use mathlib.Core.Path.{◌≡◌, sym, ap, ◌∙◌}
use mathlib.Core.Bool.{true, false, false≢true}
use mathlib.Core.Logic.{◌⊎◌}
use mathlib.Core.List.{List}
use lib.Dec.{eqb}
use lib.ListN.{length, get_or}
use borrow.Author.Tests.{eqb-true, eqb-false, eq-eqb, ne_eqb}
use Rattle.laws.proofs.Branches.{either}
use Rattle.laws.proofs.Places.{get_or-map_at}
use Rattle.page.specs.Page.{no_page}
use Rattle.page.specs.Causes.{ticked}
use Rattle.unpaged.specs.Unpaged.{unpaged_valid}
use Rattle.writes.specs.declared.asked.Write.{Write}
use Rattle.writes.specs.Asked.{asked}
use Rattle.writes.specs.Left.{unpaged_left, clearing}
use Rattle.writes.specs.Accepted.{Acceptable}
use Rattle.writes.proofs.Accepted.{acceptable, accepting}
use Rattle.writes.proofs.Kept.{energy_kept}
use Rattle.reads.specs.Answers.{answers_data}
use Rattle.reads.proofs.Requests.{SendsPlain, SendsCoefficients, sends, sends_plain}
use Rattle.device.specs.declared.Device.{Device}
use Rattle.device.specs.Device.{device_valid, page_of, page_shown, alert_risen, alert_standing}
use Rattle.device.specs.Step.{Call, write, read, tick, answer_of, answered, effect, refused_device, left, step, written, written_to}
use Rattle.device.proofs.States.{answered-of}
use Rattle.device.proofs.Touches.{ticked-pages}
use Rattle.history.specs.Run.{next, answer}
use Rattle.history.specs.Refusals.{Refused}
use Rattle.history.specs.Accepted.{TakesEffect}

-- a read that sends data has a header C0h, code, C1h, or asks for coefficients
module _ (d : Device) (header : List ℕ) (n : ℕ) (y : answers_data (answer d (read header n)) ≡ true) where
  pub sends_data : SendsPlain header ⊎ SendsCoefficients header
  unfolding step answered answer_of answers_data
  sends_data =
      either (device_valid d) (λ v. sends d.unpaged (page_shown d) header n (rw v at y)) (λ v. absurd (false≢true (rw v at y)))

  pub sends_code : (get_or header 1 0 ≡ 0x30 → ⊥) → SendsPlain header
  unfolding step answered answer_of answers_data
  sends_code other =
      either (device_valid d) (λ v. sends_plain d.unpaged (page_shown d) header n (rw v at y) other) (λ v. absurd (false≢true (rw v at y)))

module _ (d : Device) (c : Call) where
  pub done_next : answer d c ≡ 0 → next d c ≡ effect d c
  unfolding step left
  done_next z = rw (eq-eqb (answered d c) 0 z)

  pub refused-next : (answer d c ≡ 0 → ⊥) → next d c ≡ refused_device d (answer d c)
  unfolding step left
  refused-next h = rw (ne_eqb (answered d c) 0 h)

  -- a case for each
  pub by_answer {ℓ} : {X : Type ℓ} → (answer d c ≡ 0 → X) → ((answer d c ≡ 0 → ⊥) → X) → X
  by_answer f g = either (eqb (answer d c) 0) (λ y. f (eqb-true (answer d c) 0 y)) (λ n. g (eqb-false (answer d c) 0 n))

pub refused-call : Refused
unfolding Refused
refused-call d c h = refused-next d c h

-- ---- writes

module _ (d : Device) (w : Write) where
  pub written-cml : (written d w).unpaged.cml ≡ (unpaged_left w d.unpaged).cml
  unfolding written alert_standing alert_risen
  written-cml = either (clearing w) (λ e. rw e) (λ e. rw e)

  pub written-energy : (written d w).unpaged.energy ≡ d.unpaged.energy
  unfolding written alert_standing alert_risen
  written-energy = either (clearing w) (λ e. rw e) (λ e. rw e) ∙ energy_kept d.unpaged w

  -- the alert does not matter to answer 15
  pub written-unpaged : (n : ℕ) → unpaged_valid n (written d w).unpaged ≡ unpaged_valid n (unpaged_left w d.unpaged)
  unfolding written alert_standing alert_risen unpaged_valid
  written-unpaged n = either (clearing w) (λ e. rw e) (λ e. rw e)

  pub written-raised : clearing w ≡ false → written d w ≡ alert_risen d (written_to d w)
  unfolding written
  written-raised n = rw n

  pub written-standing : clearing w ≡ true → written d w ≡ alert_standing (written_to d w)
  unfolding written
  written-standing y = rw y

module _ (d : Device) (s : List ℕ) where
  pub write_next : answer d (write s) ≡ 0 → next d (write s) ≡ written d (asked s)
  unfolding effect
  write_next z = done_next d (write s) z

  write_answer_lem : device_valid d ≡ true → answer d (write s) ≡ answer_of d (write s)
  unfolding step
  write_answer_lem v = answered-of d (write s) v

  pub takes_effect_of : device_valid d ≡ true → answer d (write s) ≡ 0 → Acceptable (length d.pages) d.unpaged s
  unfolding answer_of
  takes_effect_of v z = acceptable (length d.pages) d.unpaged s (sym (write_answer_lem v) ∙ z)

  accepted-of : device_valid d ≡ true → Acceptable (length d.pages) d.unpaged s → answer d (write s) ≡ 0
  unfolding answer_of
  accepted-of v a = write_answer_lem v ∙ accepting (length d.pages) d.unpaged s a

pub takes_effect : TakesEffect
unfolding TakesEffect
takes_effect d s v = ((takes_effect_of d s v, accepted-of d s v), λ a. write_next d s (accepted-of d s v a))

-- ---- ticks

pub ticked-page_at : (d : Device) → answer d tick ≡ 0 → (i : ℕ) → i < length d.pages → page_of (next d tick) i ≡ ticked (page_of d i)
unfolding effect
ticked-page_at d z i small =
    ap (λ (e : Device). page_of e i) (done_next d tick z) ∙ rw (ticked-pages d) (get_or-map_at no_page (λ i. true) ticked d.pages i small)
