-- From one rest to the next: the times that a machine can still let its page on never rise, and fall by one each time that it does.
-- Assumes nothing.
use Prim.Native.Nat.{ℕ, suc, ◌-◌, ◌≤◌}
use mathlib.Core.Path.{◌≡◌, sym}
use mathlib.Core.Logic.{⊎_elim}
use mathlib.Core.Bool.{Bool, true, false, cond, not, ◌&&◌, and-eq-true_iff, false≢true}
use mathlib.Core.List.{List, [], ◌∷◌}
use native.Mathlib.Omega.{arith}
use lib.Dec.{eqb, ltb}
use borrow.Author.Tests.{not-true, eqb-true, ne_eqb}
use Rattle.laws.proofs.Branches.{either}
use Rattle.retry.specs.Response.{waits_first, holds_at_once, retries}
use Rattle.retry.specs.Machine.{Machine, rest, waiting, held, trying, tripped, hold, look, started, less_one, at_call, at_tick, at_rest, lets_on}
use Rattle.retry.specs.Steps.{Step, tick, call, rests, after, run, times_on, under_way}
use Rattle.retry.specs.Claim.{AtMost}
use Rattle.retry.proofs.Shapes.{Shape, look-cases, shape_after, shape_run}

module _ (r : ℕ) where
  -- a machine of no more tries than the response byte has
  abbrev pub Fits : Machine → Type 0
  Fits m = Shape (λ n. n ≤ retries r) m

  spent_fits : (n : ℕ) → n ≤ retries r → (n ≡ 0 → ⊥) → less_one n ≤ retries r
  unfolding less_one
  spent_fits n h some = either (eqb n 7) (λ e. rw e (omega (arith, eqb-true n 7 e))) (λ e. rw e (omega arith))

  pub fits_after : (m : Machine) (s : Step) → Fits m → Fits (after r m s)
  fits_after = shape_after (λ n. n ≤ retries r) r (omega arith) spent_fits

  fits_run : (m : Machine) (ss : List Step) → Fits m → Fits (run r m ss)
  fits_run = shape_run (λ n. n ≤ retries r) r (omega arith) spent_fits

  -- the times that it can still let its page on
  unfoldable budget : Machine → ℕ
  budget rest = retries r
  budget (waiting t) = retries r
  budget (held n t) = n
  budget (trying n) = n - 1
  budget tripped = 0

  within-budget : (m : Machine) → Fits m → budget m ≤ retries r
  unfolding budget Shape
  within-budget rest f = omega arith
  within-budget (waiting t) f = omega arith
  within-budget (held n t) f = f.0
  within-budget (trying n) f = let l = f.0 in omega arith
  within-budget tripped f = omega arith

  budget_hold : (n : ℕ) → budget (hold r n) ≤ n
  unfolding budget hold
  budget_hold n = either (eqb n 0) (λ e. rw e (omega arith)) (λ e. rw e (omega arith))

  budget_look : (c : Bool) (n : ℕ) → at_rest (look r c n) ≡ false → budget (look r c n) ≤ n
  budget_look c n go =
      ⊎_elim (λ (e : look r c n ≡ hold r n). rw e (budget_hold n)) (λ (e : look r c n ≡ rest). absurd (false≢true (sym (rw e at go))))
      (look-cases r c n)

  budget_started : budget (started r) ≤ retries r
  unfolding budget started
  budget_started =
      either (holds_at_once r) (λ e. rw e (budget_hold (retries r)))
      (λ e. either (waits_first r) (λ f. rw (e, f) (omega arith)) (λ f. rw (e, f) (omega arith)))

  module _ (few : retries r ≤ 6) where
    -- x more times after a step
    abbrev Spends : Machine → Machine → Type 0
    Spends m q = (x : ℕ) → x ≤ budget q → cond (lets_on m q) (suc x) x ≤ budget m

    one_less : (n : ℕ) → n ≤ retries r → less_one n ≡ n - 1
    unfolding less_one
    one_less n l = rw (ne_eqb n 7 (omega arith))

    call_spends : (c : Bool) (m : Machine) → Spends m (at_call r c m)
    unfolding budget at_call
    call_spends true rest x h = let b = budget_started in omega arith
    call_spends false rest x h = h
    call_spends c (waiting t) x h = h
    call_spends c (held n t) x h = h
    call_spends c (trying n) x h = h
    call_spends c tripped x h = h

    tick_spends : (c : Bool) (m : Machine) → Fits m → at_rest (at_tick r c m) ≡ false → Spends m (at_tick r c m)
    unfolding budget Shape at_tick
    tick_spends c rest f go x h = call_spends c rest x h
    tick_spends c (waiting t) f go x h =
        either (ltb 1 t) (λ e. rw e at h)
        (λ e. let l = rw e at h in
        let b = budget_look c (retries r) (rw e at go) in
        omega arith)
    tick_spends c (held n t) f go x h =
        let some = f.1 in
        either (ltb 1 t) (λ e. rw e (rw e at h)) (λ e. let l = rw e at h in rw e (omega arith))
    tick_spends c (trying n) f go x h = let b = budget_look c (less_one n) go in let d = one_less n f.0 in omega arith
    tick_spends c tripped f go x h = h

    after-spends : (m : Machine) (s : Step) → Fits m → rests s ≡ false → at_rest (after r m s) ≡ false → Spends m (after r m s)
    unfolding after
    after-spends m (tick c) f calm go = tick_spends c m f go
    after-spends m (call true c) f calm go = absurd (false≢true (sym calm))
    after-spends m (call false c) f calm go = call_spends c m

    at_most-from : (m : Machine) (ss : List Step) → Fits m → under_way r m ss ≡ true → times_on r m ss ≤ budget m
    unfolding under_way times_on
    at_most-from m [] f h = omega arith
    at_most-from m (s ∷ ss) f h =
        let a = (and-eq-true_iff (not (rests s) && not (at_rest (after r m s))) (under_way r (after r m s) ss)).0 h in
        let b = (and-eq-true_iff (not (rests s)) (not (at_rest (after r m s)))).0 a.0 in
        after-spends m s f (not-true (rests s) b.0) (not-true (at_rest (after r m s)) b.1) (times_on r (after r m s) ss)
        (at_most-from (after r m s) ss (fits_after m s f) a.1)

    pub at_most-of : (m : Machine) (ss : List Step) → Fits m → under_way r m ss ≡ true → times_on r m ss ≤ retries r
    at_most-of m ss f h = let a = at_most-from m ss f h in let b = within-budget m f in omega arith

pub at_most : AtMost
unfolding AtMost Shape
at_most r before ss few way = at_most-of r few (run r rest before) ss (fits_run r rest before tt) way
