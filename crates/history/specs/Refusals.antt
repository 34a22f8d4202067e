-- What a refusal leaves (data sheet 11.6).
-- Assumes nothing.
use Rattle.std.specs.Prelude.{ℕ, ◌≡◌, Bool, true, List, [], ◌∷◌, eqb}
use Rattle.laws.specs.Lists.{any_of}
use Rattle.device.specs.declared.Device.{Device}
use Rattle.device.specs.Step.{Call, refused_device}
use Rattle.history.specs.Run.{next, answer}

-- at most STATUS_CML and the alert change: refused_device changes nothing else
unfoldable pub Refused : Type 0
Refused = (d : Device) (c : Call) → (answer d c ≡ 0 → ⊥) → next d c ≡ refused_device d (answer d c)

-- the answers that change nothing at all
abbrev pub silent_answers : List ℕ
silent_answers = 1 ∷ 2 ∷ 12 ∷ 13 ∷ 14 ∷ 15 ∷ []

unfoldable pub silent : ℕ → Bool
silent a = any_of (eqb a) silent_answers

unfoldable pub Unchanged : Type 0
Unchanged = (d : Device) (c : Call) → silent (answer d c) ≡ true → next d c ≡ d
