-- The machines that occur, by shape: P holds of the tries left, which are not 0 but of a machine that has tripped. P chosen, one law serves 7
-- retries, 0 retries and the values of the byte.
-- Assumes nothing.
use Prim.Native.Nat.{ℕ, ◌<◌}
use mathlib.Core.Path.{◌≡◌, refl, sym}
use mathlib.Core.Logic.{◌⊎◌, inl, inr, ⊎_elim}
use mathlib.Core.Bool.{Bool, true, false, cond, false≢true}
use mathlib.Core.List.{List, [], ◌∷◌}
use native.Mathlib.Nat.{suc-ne-zero}
use native.Mathlib.Omega.{arith}
use lib.Dec.{eqb, ltb}
use borrow.Author.Tests.{eqb-true, eqb-false, ltb-true}
use Rattle.laws.proofs.Branches.{either}
use Rattle.retry.specs.Response.{waits_first, holds_at_once, retries}
use Rattle.retry.specs.Machine.{Machine, rest, waiting, held, trying, tripped, hold, look, started, less_one, at_call, at_tick, holds, trips}
use Rattle.retry.specs.Steps.{Step, tick, call, cause_present, after, run}
use Rattle.retry.specs.Claim.{ForEver, NoRetry, StaysTripped, UpToDate}
use Rattle.retry.proofs.Bytes.{delay-low, delay-high}

unfoldable pub Shape : (ℕ → Type 0) → Machine → Type 0
Shape P rest = Unit
Shape P (waiting t) = (0 < t) × (t < 8)
Shape P (held n t) = P n × (n ≡ 0 → ⊥) × (0 < t) × (t < 8)
Shape P (trying n) = P n × (n ≡ 0 → ⊥)
Shape P tripped = P 0

-- a look holds the page off or rests, whichever it does when
same_inl : (x y : Machine) → (x ≡ x) ⊎ (x ≡ y)
same_inl x y = inl refl

same_inr : (x y : Machine) → (y ≡ x) ⊎ (y ≡ y)
same_inr x y = inr refl

ruleset either_way = (same_inl, same_inr)

pub look-cases : (r : ℕ) (c : Bool) (n : ℕ) → (look r c n ≡ hold r n) ⊎ (look r c n ≡ rest)
unfolding look
look-cases r true n = search either_way
look-cases r false n = search either_way

module _ (P : ℕ → Type 0) (r : ℕ) (all : P (retries r)) (spend : (n : ℕ) → P n → (n ≡ 0 → ⊥) → P (less_one n)) where
  shape_hold : (n : ℕ) → P n → Shape P (hold r n)
  unfolding Shape hold
  shape_hold n p =
      either (eqb n 0) (λ e. rw e (rw (eqb-true n 0 e) at p)) (λ e. rw e (p, eqb-false n 0 e, delay-low r, delay-high r))

  shape_look : (c : Bool) (n : ℕ) → P n → Shape P (look r c n)
  unfolding Shape
  shape_look c n p = ⊎_elim (λ (e : look r c n ≡ hold r n). rw e (shape_hold n p)) (λ (e : look r c n ≡ rest). rw e tt) (look-cases r c n)

  shape_started : Shape P (started r)
  unfolding Shape started
  shape_started =
      either (holds_at_once r) (λ e. rw e (shape_hold (retries r) all))
      (λ e. either (waits_first r) (λ f. rw (e, f) (delay-low r, delay-high r)) (λ f. rw (e, f) tt))

  pub shape_call : (c : Bool) (m : Machine) → Shape P m → Shape P (at_call r c m)
  unfolding Shape at_call
  shape_call true rest h = shape_started
  shape_call false rest h = h
  shape_call c (waiting t) h = h
  shape_call c (held n t) h = h
  shape_call c (trying n) h = h
  shape_call c tripped h = h

  pub shape_tick : (c : Bool) (m : Machine) → Shape P m → Shape P (at_tick r c m)
  unfolding Shape at_tick
  shape_tick c rest h = shape_call c rest h
  shape_tick c (waiting t) h =
      let high = h.1 in
      either (ltb 1 t) (λ e. let l = ltb-true 1 t e in rw e (omega arith, omega arith)) (λ e. rw e (shape_look c (retries r) all))
  shape_tick c (held n t) h =
      let high = h.3 in
      either (ltb 1 t) (λ e. let l = ltb-true 1 t e in rw e (h.0, h.1, omega arith, omega arith)) (λ e. rw e (h.0, h.1))
  shape_tick c (trying n) h = shape_look c (less_one n) (spend n h.0 h.1)
  shape_tick c tripped h = h

  pub shape_after : (m : Machine) (s : Step) → Shape P m → Shape P (after r m s)
  unfolding Shape after
  shape_after m (tick c) h = shape_tick c m h
  shape_after m (call true c) h = shape_call c rest tt
  shape_after m (call false c) h = shape_call c m h

  pub shape_run : (m : Machine) (ss : List Step) → Shape P m → Shape P (run r m ss)
  unfolding run
  shape_run m [] h = h
  shape_run m (s ∷ ss) h = shape_run (after r m s) ss (shape_after m s h)

-- ---- 7 retries and 0 retries

never_trips : (m : Machine) → Shape (λ n. n ≡ 7) m → trips m ≡ false
unfolding Shape
never_trips rest h = refl
never_trips (waiting t) h = refl
never_trips (held n t) h = refl
never_trips (trying n) h = refl
never_trips tripped h = absurd (suc-ne-zero 6 (sym h))

seven_stays : (n : ℕ) → n ≡ 7 → (n ≡ 0 → ⊥) → less_one n ≡ 7
unfolding less_one
seven_stays n e some = rw e

pub for_ever : ForEver
unfolding ForEver Shape
for_ever r ss seven = never_trips (run r rest ss) (shape_run (λ n. n ≡ 7) r seven seven_stays rest ss tt)

never_holds : (m : Machine) → Shape (λ n. n ≡ 0) m → holds m ≡ false
unfolding Shape
never_holds rest h = refl
never_holds (waiting t) h = refl
never_holds (held n t) h = absurd (h.1 h.0)
never_holds (trying n) h = refl
never_holds tripped h = refl

pub no_retry : NoRetry
unfolding NoRetry Shape
no_retry r ss none = never_holds (run r rest ss) (shape_run (λ n. n ≡ 0) r none (λ n p some. absurd (some p)) rest ss tt)

-- ---- what changes nothing

pub stays-tripped : StaysTripped
unfolding StaysTripped after run at_call at_tick
stays-tripped r [] h = refl
stays-tripped r (tick c ∷ ss) h = stays-tripped r ss h
stays-tripped r (call false c ∷ ss) h = stays-tripped r ss h
stays-tripped r (call true c ∷ ss) h = absurd (false≢true (sym h))

module _ (r : ℕ) where
  call_gone : (m : Machine) → at_call r false m ≡ m
  unfolding at_call
  call_gone rest = refl
  call_gone (waiting t) = refl
  call_gone (held n t) = refl
  call_gone (trying n) = refl
  call_gone tripped = refl

  call_hold : (n : ℕ) → at_call r true (hold r n) ≡ hold r n
  unfolding at_call hold
  call_hold n = either (eqb n 0) (λ e. rw e) (λ e. rw e)

  call_started : at_call r true (started r) ≡ started r
  unfolding started at_call
  call_started =
      either (holds_at_once r) (λ e. rw e (call_hold (retries r)))
      (λ e. either (waits_first r) (λ f. rw (e, f)) (λ f. rw (e, f) (rw (e, f))))

  call_twice : (c : Bool) (m : Machine) → at_call r c (at_call r c m) ≡ at_call r c m
  unfolding at_call
  call_twice true rest = call_started
  call_twice false rest = refl
  call_twice c (waiting t) = refl
  call_twice c (held n t) = refl
  call_twice c (trying n) = refl
  call_twice c tripped = refl

  call_tick : (m : Machine) → at_call r true (at_tick r true m) ≡ at_tick r true m
  unfolding at_call at_tick look
  call_tick rest = call_started
  call_tick (waiting t) = either (ltb 1 t) (λ e. rw e) (λ e. rw e (call_hold (retries r)))
  call_tick (held n t) = either (ltb 1 t) (λ e. rw e) (λ e. rw e)
  call_tick (trying n) = call_hold (less_one n)
  call_tick tripped = refl

  pub up-to_date_at : (m : Machine) (s : Step) → at_call r (cause_present s) (after r m s) ≡ after r m s
  unfolding after
  up-to_date_at m (tick true) = call_tick m
  up-to_date_at m (tick false) = call_gone (at_tick r false m)
  up-to_date_at m (call rested c) = call_twice c (cond rested rest m)

pub up-to_date : UpToDate
unfolding UpToDate
up-to_date = up-to_date_at
