-- The answers of measurements and alert responses are the lowest that apply; and a number that is given applies.
-- Assumes nothing.
use Prim.Native.Nat.{ℕ, ◌<◌}
use mathlib.Core.Path.{◌≡◌, refl}
use mathlib.Core.Bool.{Bool, true, false, cond, not, ◌&&◌, ◌||◌, or-true}
use mathlib.Core.List.{List, [], ◌∷◌}
use native.Mathlib.Omega.{arith}
use lib.Dec.{ltb, leb, eqb}
use borrow.Author.Tests.{eq-eqb}
use Rattle.laws.specs.Lines.{Line, lowest}
use Rattle.laws.specs.Lists.{any_of}
use Rattle.laws.proofs.Branches.{either}
use Rattle.unpaged.specs.Events.{measure_answer, alert_answer}
use Rattle.unpaged.specs.Applies.{AnswersApply}

measured : (a b : Bool) → ◌≡◌ {A = ℕ} (cond a 12 (cond b 12 0)) (cond (a || b) 12 0)
measured true b = refl
measured false b = refl

responded : (a b : Bool) → ◌≡◌ {A = ℕ} (cond a (cond b 0 14) 2) (cond (not a) 2 (cond (not b) 14 0))
responded true true = refl
responded true false = refl
responded false b = refl

pub answers_apply : AnswersApply
unfolding AnswersApply measure_answer alert_answer
answers_apply = (λ n page quantity. measured (leb n page) (ltb 3 quantity), λ alert n. responded (eqb n 1) alert)

-- the line of the number k applies
abbrev pub applies : ℕ → List Line → Bool
applies k ls = any_of (λ (l : Line). eqb l.0 k && l.1) ls

pub given-applies : (ls : List Line) (k : ℕ) → 0 < k → lowest ls ≡ k → applies k ls ≡ true
given-applies [] k h e = absurd (omega arith)
given-applies (l ∷ ls) k h e =
    either l.1 (λ y. let here = eq-eqb l.0 k (rw y at e) in rw (y, here))
    (λ n. rw (given-applies ls k h (rw n at e)) (or-true (eqb l.0 k && l.1)))
