-- How the parts of a history fit together.
-- Assumes nothing.
use Prim.Native.Nat.{ℕ, ◌+◌}
use mathlib.Core.Path.{◌≡◌, refl, ap}
use mathlib.Core.Bool.{Bool, true, false}
use mathlib.Core.List.{List, [], ◌∷◌, ◌++◌}
use native.Mathlib.Omega.{arith}
use Rattle.laws.proofs.Branches.{either}
use Rattle.totalizer.specs.declared.Taken.{Taken}
use Rattle.energy.specs.Reply.{Copy}
use Rattle.energy.specs.Events.{Entry, took, got}
use Rattle.energy.specs.Tally.{some, up_to, since, since_first, sum_of}

pub sum-append : (xs ys : List ℕ) → sum_of (xs ++ ys) ≡ sum_of xs + sum_of ys
sum-append [] ys = omega arith
sum-append (x ∷ xs) ys = omega (arith, sum-append xs ys)

module _ (p : Copy → Taken → Bool) where
  -- none where there is no such copy
  pub none_yet : (h : List Entry) → some p h ≡ false → since_first p h ≡ []
  none_yet [] e = refl
  none_yet (took n ∷ h) e = rw e
  none_yet (got c k ∷ h) e =
      either (p c k)
      (λ f. absurd (let z : true ≡ false = rw f at e in let y : ◌≡◌ {A = ℕ} 0 1 = cc in omega arith))
      (λ f. none_yet h (rw f at e))

  -- else those up to the latest one, and those since it
  pub split : (h : List Entry) → some p h ≡ true → since_first p h ≡ since p h ++ since_first p (up_to p h)
  split [] e = absurd (let y : ◌≡◌ {A = ℕ} 0 1 = cc in omega arith)
  split (took n ∷ h) e = rw e (ap (λ (l : List ℕ). n ∷ l) (split h e))
  split (got c k ∷ h) e = either (p c k) (λ f. rw f) (λ f. rw f (split h (rw f at e)))
