-- An accepted write changes each page that it acts on, and raises the alert with the bits that rose on any.
-- Assumes nothing.
use mathlib.Core.Path.{◌≡◌, sym, ap₂, ◌∙◌}
use mathlib.Core.Bool.{Bool, false, cond, ◌||◌}
use mathlib.Core.List.{List}
use Rattle.laws.specs.Lists.{any_of, map_at, any_pair}
use Rattle.laws.proofs.Branches.{either}
use Rattle.page.specs.declared.Page.{Page}
use Rattle.page.specs.Status.{any, any_status, risen}
use Rattle.page.proofs.Bits.{gains-none}
use Rattle.unpaged.specs.declared.Unpaged.{Unpaged}
use Rattle.unpaged.specs.Unpaged.{acts_on, with_alert}
use Rattle.writes.specs.declared.asked.Write.{Write}
use Rattle.writes.specs.Left.{page_left, unpaged_left, clearing}
use Rattle.writes.proofs.Kept.{alert_kept, cml_kept}
use Rattle.device.specs.declared.Device.{Device}
use Rattle.device.specs.Device.{device, turned, alert_risen, alert_standing}
use Rattle.device.specs.Step.{written_to, written}

module _ (d : Device) (w : Write) (qs : List Page) (rose : Bool) (is : qs ≡ map_at (acts_on d.unpaged) (page_left w) d.pages) (up : rose ≡ any_pair risen d.pages qs) where
  abbrev v : Unpaged
  v = unpaged_left w d.unpaged

  alert_risen_lem : clearing w ≡ false → (v.alert || rose) ≡ (d.unpaged.alert || turned d (written_to d w))
  alert_risen_lem n =
      ap₂ ◌||◌ (alert_kept d.unpaged w) (up ∙ sym (rw (cml_kept d.unpaged w n, gains-none d.unpaged.cml, sym is)))

  pub all_written : device (with_alert v (cond (clearing w) (any_of any_status qs || any v.cml) (v.alert || rose))) qs ≡ written d w
  unfolding written alert_standing alert_risen
  all_written =
      either (clearing w) (λ y. rw (y, sym is)) (λ n. rw (n, alert_risen_lem n, sym is))
