-- When each answer applies, in the words of the answer table: a line for each number, and the lowest one that applies is given. The chains
-- of Events.antt follow from it, so that a slip made there and in the code alike is refused.
-- Assumes nothing.
use Rattle.std.specs.Prelude.{ℕ, ◌≡◌, Bool, not, ◌||◌, List, [], ◌∷◌, ltb, leb, eqb}
use Rattle.laws.specs.Lines.{Line, lowest}
use Rattle.laws.specs.Lists.{any_of}
use Rattle.unpaged.specs.Events.{measure_answer, alert_answer}

-- x is one of the numbers l
abbrev pub is_in : ℕ → List ℕ → Bool
is_in x l = any_of (eqb x) l

-- a measurement on a page, in a device with n pages: page over the last, or quantity over 3 (data sheet 11.4)
abbrev pub measure_lines : ℕ → ℕ → ℕ → List Line
measure_lines n page quantity = (12, leb n page || ltb 3 quantity) ∷ []

-- an alert response of n bytes: another number than one; the alert is down (data sheet 11.4)
abbrev pub alert_lines : Bool → ℕ → List Line
alert_lines alert n = (2, not (eqb n 1)) ∷ (14, not alert) ∷ []

unfoldable pub AnswersApply : Type 0
AnswersApply =
    ((n page quantity : ℕ) → measure_answer n page quantity ≡ lowest (measure_lines n page quantity))
    × ((alert : Bool) (n : ℕ) → alert_answer alert n ≡ lowest (alert_lines alert n))
