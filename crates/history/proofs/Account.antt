-- Which calls leave the account as it is: all but power samples.
-- Assumes nothing.
use Prim.Native.Nat.{ℕ}
use mathlib.Core.Path.{◌≡◌, refl, ap, ◌∙◌}
use mathlib.Core.List.{List}
use Rattle.account.specs.declared.Account.{Account}
use Rattle.unpaged.specs.Unpaged.{refused}
use Rattle.writes.specs.Asked.{asked}
use Rattle.device.specs.declared.Device.{Device}
use Rattle.device.specs.Device.{alert_risen}
use Rattle.device.specs.Step.{Call, write, read, measure, alert_response, tick, effect, refused_device, measured, ticked_device}
use Rattle.history.specs.Run.{next, answer}
use Rattle.history.proofs.Outcomes.{done_next, refused-next, by_answer, written-energy}

abbrev pub energy_of : Device → Account
energy_of d = d.unpaged.energy

module _ (d : Device) where
  pub refused-keeps : (c : Call) → (answer d c ≡ 0 → ⊥) → energy_of (next d c) ≡ energy_of d
  unfolding refused_device refused
  refused-keeps c r = ap energy_of (refused-next d c r)

  effect-keeps : (c : Call) → energy_of (effect d c) ≡ energy_of d → energy_of (next d c) ≡ energy_of d
  effect-keeps c e = by_answer d c (λ z. ap energy_of (done_next d c z) ∙ e) (refused-keeps c)

  pub write_keeps : (s : List ℕ) → energy_of (next d (write s)) ≡ energy_of d
  unfolding effect
  write_keeps s = effect-keeps (write s) (written-energy d (asked s))

  pub measure_keeps : (page quantity word : ℕ) → energy_of (next d (measure page quantity word)) ≡ energy_of d
  unfolding effect measured alert_risen
  measure_keeps page quantity word = effect-keeps (measure page quantity word) refl

  pub read_keeps : (header : List ℕ) (n : ℕ) → energy_of (next d (read header n)) ≡ energy_of d
  unfolding effect
  read_keeps header n = effect-keeps (read header n) refl

  pub alert_keeps : (n : ℕ) → energy_of (next d (alert_response n)) ≡ energy_of d
  unfolding effect
  alert_keeps n = effect-keeps (alert_response n) refl

  pub tick_keeps : energy_of (next d tick) ≡ energy_of d
  unfolding effect ticked_device
  tick_keeps = effect-keeps tick refl
