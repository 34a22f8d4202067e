-- The claim for one machine: read off its course.
-- Assumes nothing.
use Prim.Native.Nat.{ℕ, suc, ◌+◌, ◌≤◌}
use mathlib.Core.Path.{◌≡◌, refl}
use mathlib.Core.Bool.{true}
use mathlib.Core.List.{List}
use native.Mathlib.Nat.{lt_irrefl, mul-le-mul_right}
use native.Mathlib.Omega.{arith}
use lib.Dec.{leb}
use borrow.Author.Tests.{leb-true, leb-false}
use Rattle.laws.specs.Lists.{all_of}
use Rattle.laws.proofs.Branches.{either}
use Rattle.retry.specs.Response.{retries, delay, waits_first}
use Rattle.retry.specs.Machine.{Machine}
use Rattle.retry.specs.Steps.{Step, after, run, starts, lasts, ticks_in, times_on}
use Rattle.retry.specs.Claim.{look_tick, on_tick, LetsOn, LetsOnAt, TripsAt, Latest}
use Rattle.retry.proofs.Bytes.{delay-high}
use Rattle.retry.proofs.Course.{course, exact, tripped-exact, allowed, allowed_few}

pub lets_on-at : LetsOnAt
unfolding LetsOnAt
lets_on-at r m s ss first l i low = exact r (ticks_in ss) (times_on r (after r m s) ss) (run r (after r m s) ss) (course r m s ss first l) i low

pub trips-at : TripsAt
unfolding TripsAt
trips-at r m s ss first l = tripped-exact r (ticks_in ss) (times_on r (after r m s) ss) (run r (after r m s) ss) (course r m s ss first l)

by_54 : (r i : ℕ) → i ≤ 6 → on_tick r i ≤ 54
unfolding look_tick
by_54 r i h =
    let d = delay-high r in
    let p = mul-le-mul_right (delay r + 1) h in
    either (waits_first r) (λ e. rw e (omega arith)) (λ e. rw e (omega arith))

pub latest : Latest
unfolding Latest look_tick delay
latest = (by_54, refl)

-- with 6 retries or fewer it never lets its page on once more
module _ (r : ℕ) (m : Machine) (s : Step) (ss : List Step) (high : retries r ≤ 6) (first : starts r m s ≡ true) (lasting : all_of lasts ss ≡ true) where
  most : times_on r (after r m s) ss ≤ retries r
  most =
      either (leb (times_on r (after r m s) ss) (retries r)) (λ e. leb-true (times_on r (after r m s) ss) (retries r) e)
      (λ e. let more = leb-false (times_on r (after r m s) ss) (retries r) e in
      let p = (exact r (ticks_in ss) (times_on r (after r m s) ss) (run r (after r m s) ss) (course r m s ss first lasting) (suc (retries r)) (omega arith)).0 more in
      let few = allowed_few r (suc (retries r)) p.0 (λ seven. lt_irrefl 6 (omega arith)) in
      absurd (lt_irrefl (retries r) few))

  least : 1 ≤ retries r → 56 ≤ ticks_in ss → retries r ≤ times_on r (after r m s) ss
  least low h =
      let tick = by_54 r (retries r) high in
      (exact r (ticks_in ss) (times_on r (after r m s) ss) (run r (after r m s) ss) (course r m s ss first lasting) (retries r) low).1
      (allowed r (retries r) (λ few. omega arith), omega arith)

pub lets_on_lem : LetsOn
unfolding LetsOn
lets_on_lem r m s ss low high first l =
    let a = most r m s ss high first l in (a, λ h. let b = least r m s ss high first l low h in omega arith)
