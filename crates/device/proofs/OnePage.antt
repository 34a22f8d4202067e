-- A write to the selected page and a measurement set one page, and raise the alert with its bits.
-- Assumes nothing.
use Prim.Native.Nat.{ℕ, ◌<◌}
use mathlib.Core.Path.{◌≡◌, refl, sym}
use mathlib.Core.Bool.{false, cond, ◌||◌}
use mathlib.Core.List.{List}
use lib.Dec.{eqb}
use lib.ListN.{length, set}
use borrow.Author.Tests.{eq-eqb, ne_eqb}
use Rattle.laws.specs.Lists.{any_of, map_at}
use Rattle.laws.proofs.Places.{map-one, pair_set}
use Rattle.page.specs.declared.Page.{Page}
use Rattle.page.specs.Page.{no_page}
use Rattle.page.specs.Causes.{settled}
use Rattle.page.specs.Settings.{set_measurement}
use Rattle.page.specs.Status.{any, any_status, risen}
use Rattle.page.proofs.Bits.{gains-none, risen-none}
use Rattle.unpaged.specs.declared.Unpaged.{Unpaged}
use Rattle.unpaged.specs.Unpaged.{every_page, acts_on, with_alert}
use Rattle.writes.specs.declared.asked.Write.{Write}
use Rattle.writes.specs.Left.{page_left, unpaged_left, clearing}
use Rattle.device.specs.declared.Device.{Device}
use Rattle.device.specs.Device.{device, page_of, alert_risen}
use Rattle.device.specs.Step.{written, measured}
use Rattle.device.proofs.Written.{all_written}

module _ (d : Device) (w : Write) (h : d.unpaged.page < length d.pages) (one : every_page d.unpaged ≡ false) where
  abbrev k : ℕ
  k = d.unpaged.page

  abbrev q : Page
  q = page_left w (page_of d k)

  abbrev v : Unpaged
  v = unpaged_left w d.unpaged

  abbrev qs : List Page
  qs = set d.pages k q

  selected : map_at (acts_on d.unpaged) (page_left w) d.pages ≡ qs
  unfolding acts_on
  selected =
      map-one no_page (acts_on d.unpaged) (page_left w) d.pages k h (rw (eq-eqb k k refl)) (λ i other. rw (ne_eqb i k other, one))

  pub one_written : device (with_alert v (cond (clearing w) (any_of any_status qs || any v.cml) (v.alert || risen (page_of d k) q))) qs ≡ written d w
  one_written =
      all_written d w qs (risen (page_of d k) q) (sym selected) (sym (pair_set no_page risen risen-none d.pages k q h))

module _ (d : Device) (k quantity word : ℕ) (h : k < length d.pages) where
  abbrev m : Page
  m = settled (set_measurement (page_of d k) quantity word)

  named : map_at (eqb k) (λ p. settled (set_measurement p quantity word)) d.pages ≡ set d.pages k m
  named =
      map-one no_page (eqb k) (λ p. settled (set_measurement p quantity word)) d.pages k h (eq-eqb k k refl)
      (λ i other. ne_eqb k i (λ e. other (sym e)))

  pub one_measured : device (with_alert d.unpaged (d.unpaged.alert || risen (page_of d k) m)) (set d.pages k m) ≡ measured d k quantity word
  unfolding measured alert_risen
  one_measured =
      rw (named, gains-none d.unpaged.cml, pair_set no_page risen risen-none d.pages k m h)
