-- What the unpaged part keeps through an accepted write.
-- Assumes nothing.
use mathlib.Core.Path.{◌≡◌, refl, sym}
use mathlib.Core.Bool.{false, false≢true}
use Rattle.unpaged.specs.declared.Unpaged.{Unpaged}
use Rattle.writes.specs.declared.asked.Write.{Write}
use Rattle.writes.specs.Left.{unpaged_left, clearing}

module _ (u : Unpaged) where
  pub alert_kept : (w : Write) → (unpaged_left w u).alert ≡ u.alert
  unfolding unpaged_left
  alert_kept Write.Nothing = refl
  alert_kept (Write.SelectPage x) = refl
  alert_kept (Write.Protect x) = refl
  alert_kept (Write.Change s) = refl
  alert_kept (Write.Clear m) = refl
  alert_kept (Write.ClearCml m) = refl

  pub energy_kept : (w : Write) → (unpaged_left w u).energy ≡ u.energy
  unfolding unpaged_left
  energy_kept Write.Nothing = refl
  energy_kept (Write.SelectPage x) = refl
  energy_kept (Write.Protect x) = refl
  energy_kept (Write.Change s) = refl
  energy_kept (Write.Clear m) = refl
  energy_kept (Write.ClearCml m) = refl

  -- a clearing alone changes STATUS_CML
  pub cml_kept : (w : Write) → clearing w ≡ false → (unpaged_left w u).cml ≡ u.cml
  unfolding unpaged_left clearing
  cml_kept Write.Nothing h = refl
  cml_kept (Write.SelectPage x) h = refl
  cml_kept (Write.Protect x) h = refl
  cml_kept (Write.Change s) h = refl
  cml_kept (Write.Clear m) h = absurd (false≢true (sym h))
  cml_kept (Write.ClearCml m) h = absurd (false≢true (sym h))
