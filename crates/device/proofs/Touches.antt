-- The pages after an accepted call; those that a call does not touch stay, whatever its answer.
-- Assumes nothing.
use Prim.Native.Nat.{ℕ}
use mathlib.Core.Path.{◌≡◌, refl, sym}
use mathlib.Core.Bool.{true, false, false≢true}
use lib.Dec.{eqb}
use Rattle.laws.specs.Lists.{map_at}
use Rattle.laws.proofs.Branches.{either}
use Rattle.laws.proofs.Places.{map-kept}
use Rattle.laws.proofs.Sweeps.{map-every}
use Rattle.page.specs.Page.{no_page}
use Rattle.page.specs.Causes.{settled, ticked}
use Rattle.page.specs.Settings.{set_measurement}
use Rattle.unpaged.specs.Unpaged.{acts_on}
use Rattle.writes.specs.declared.asked.Write.{Write}
use Rattle.writes.specs.Asked.{asked}
use Rattle.writes.specs.Left.{page_left, clearing}
use Rattle.device.specs.declared.Device.{Device}
use Rattle.device.specs.Device.{page_of, alert_risen, alert_standing}
use Rattle.device.specs.Step.{Call, write, read, measure, sample, alert_response, tick, answered, effect, refused_device, left, step, written, measured, ticked_device}
use Rattle.device.specs.Touches.{touches, PagesStay}

-- ---- all pages, by the kind of call

pub written-pages : (d : Device) (w : Write) → (written d w).pages ≡ map_at (acts_on d.unpaged) (page_left w) d.pages
unfolding written alert_standing alert_risen
written-pages d w = either (clearing w) (λ e. rw e) (λ e. rw e)

pub measured-pages : (d : Device) (page quantity word : ℕ)
    → (measured d page quantity word).pages ≡ map_at (eqb page) (λ p. settled (set_measurement p quantity word)) d.pages
unfolding measured alert_risen
measured-pages d page quantity word = refl

pub ticked-pages : (d : Device) → (ticked_device d).pages ≡ map_at (λ i. true) ticked d.pages
unfolding ticked_device
ticked-pages d = sym (map-every (λ i. true) ticked d.pages (λ i. refl))

-- ---- a page that the call leaves alone

effect-stays : (d : Device) (c : Call) (i : ℕ) → touches d c i ≡ false → page_of (effect d c) i ≡ page_of d i
unfolding touches effect
effect-stays d (write s) i h =
    rw (written-pages d (asked s)) (map-kept no_page (acts_on d.unpaged) (page_left (asked s)) d.pages i h)
effect-stays d (read header n) i h = refl
effect-stays d (measure page quantity word) i h =
    rw (measured-pages d page quantity word) (map-kept no_page (eqb page) (λ p. settled (set_measurement p quantity word)) d.pages i h)
effect-stays d (sample n) i h = refl
effect-stays d (alert_response n) i h = refl
effect-stays d tick i h = absurd (false≢true (sym h))

pub pages_stay : PagesStay
unfolding PagesStay step left refused_device
pages_stay d c i h = either (eqb (answered d c) 0) (λ y. rw y (effect-stays d c i h)) (λ n. rw n)
