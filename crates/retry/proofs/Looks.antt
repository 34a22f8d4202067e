-- When a machine looks at its cause, and what it makes of what it finds: by cases of the machine.
-- Assumes nothing.
use Prim.Native.Nat.{ℕ, ◌+◌, ◌*◌, ◌%◌, ◌≤◌, ◌<◌}
use mathlib.Core.Path.{◌≡◌, refl, sym, ◌∙◌}
use mathlib.Core.Logic.{⊎_elim}
use mathlib.Core.Bool.{Bool, true, false, not, false≢true}
use mathlib.Core.List.{List, [], ◌∷◌}
use native.Mathlib.Omega.{arith}
use lib.Dec.{eqb}
use borrow.Author.Tests.{eq-eqb, ne_eqb, lt-ltb, le-ltb, leb-true, leb-false}
use Rattle.laws.proofs.Branches.{either}
use Rattle.retry.specs.Response.{action, retries, delay}
use Rattle.retry.specs.Machine.{Machine, rest, waiting, held, trying, tripped, hold, look, started, at_call, at_tick, at_rest}
use Rattle.retry.specs.Steps.{Step, tick, call, cause_present, after, run}
use Rattle.retry.proofs.Course.{wait_on}
use Rattle.retry.specs.Looks.{Gone, AllTries, NoMachine, looks_next, Blind, Looks}

pub gone : Gone
unfolding Gone after at_tick look
gone r n = (refl, refl)

-- ---- a start

module _ (r : ℕ) where
  from_rest : (s : Step) → cause_present s ≡ true → after r rest s ≡ started r
  unfolding after at_call at_tick
  from_rest (tick true) h = refl
  from_rest (call true true) h = refl
  from_rest (call false true) h = refl
  from_rest (tick false) h = absurd (false≢true h)
  from_rest (call true false) h = absurd (false≢true h)
  from_rest (call false false) h = absurd (false≢true h)

  module _ (k d : ℕ) (some : 1 ≤ k) (low : 1 ≤ d) (tries : retries r ≡ k) (ticks : r % 8 ≡ d) where
    delay-is : delay r ≡ d
    unfolding delay
    delay-is = rw (ne_eqb (r % 8) 0 (omega (arith, ticks))) ticks

    hold-is : hold r (retries r) ≡ held k d
    unfolding hold
    hold-is = rw (tries, ne_eqb k 0 (omega arith), delay-is)

    holds-first : action r ≡ 2 → started r ≡ held k d
    unfolding started
    holds-first e = rw (eq-eqb (action r) 2 e) hold-is

    waits_first_lem : action r ≡ 1 → started r ≡ waiting d
    unfolding started
    waits_first_lem e = rw (ne_eqb (action r) 2 (omega (arith, e)), wait_on r e, delay-is)

    waited : after r (waiting 1) (tick true) ≡ held k d
    unfolding after at_tick look
    waited = hold-is

pub all_tries : AllTries
unfolding AllTries
all_tries k d s some few low high there =
    let r : ℕ = 0x80 + k * 8 + d in
    let q : ℕ = 0x40 + k * 8 + d in (
      from_rest r s there ∙ holds-first r k d some low (omega arith) (omega arith) (omega arith),
      from_rest q s there ∙ waits_first_lem q k d some low (omega arith) (omega arith) (omega arith),
      waited q k d some low (omega arith) (omega arith),
    )

-- ---- actions 00 and 11

module _ (r : ℕ) (calm : action r ≡ 2 → ⊥) (slow : action r ≡ 1 → ⊥) where
  nothing : started r ≡ rest
  unfolding started
  nothing = rw (ne_eqb (action r) 2 calm, ne_eqb (action r) 1 slow)

  stays : (s : Step) → after r rest s ≡ rest
  unfolding after at_call at_tick
  stays (tick true) = nothing
  stays (tick false) = refl
  stays (call true true) = nothing
  stays (call true false) = refl
  stays (call false true) = nothing
  stays (call false false) = refl

  stays-at_rest : (ss : List Step) → run r rest ss ≡ rest
  unfolding run
  stays-at_rest [] = refl
  stays-at_rest (s ∷ ss) = rw (stays s) (stays-at_rest ss)

pub no_machine : NoMachine
unfolding NoMachine
no_machine r ss =
    ⊎_elim (λ (h : r < 0x40). stays-at_rest r (omega arith) (omega arith) ss)
    (λ (h : (0xC0 ≤ r) × (r < 0x100)). let low = h.0 in let high = h.1 in stays-at_rest r (omega arith) (omega arith) ss)

-- ---- where it looks

module _ (r : ℕ) where
  call_leaves : (m : Machine) (c : Bool) → at_rest m ≡ false → after r m (call false c) ≡ m
  unfolding after at_call
  call_leaves rest c h = absurd (false≢true (sym h))
  call_leaves (waiting t) c h = refl
  call_leaves (held n t) c h = refl
  call_leaves (trying n) c h = refl
  call_leaves tripped c h = refl

  same_tick : (m : Machine) → at_rest m ≡ false → looks_next m ≡ false → after r m (tick true) ≡ after r m (tick false)
  unfolding after at_tick
  same_tick rest h l = absurd (false≢true (sym h))
  same_tick (waiting t) h l = rw (lt-ltb 1 t (leb-false t 1 l))
  same_tick (held n t) h l = refl
  same_tick (trying n) h l = absurd (false≢true (sym l))
  same_tick tripped h l = refl

  hold-works : (n : ℕ) → at_rest (hold r n) ≡ false
  unfolding hold
  hold-works n = either (eqb n 0) (λ e. rw e) (λ e. rw e)

  look-finds : (c : Bool) (n : ℕ) → at_rest (look r c n) ≡ not c
  unfolding look
  look-finds true n = hold-works n
  look-finds false n = refl

  looks-there : (m : Machine) (c : Bool) → looks_next m ≡ true → at_rest (after r m (tick c)) ≡ not c
  unfolding after at_tick
  looks-there rest c h = absurd (false≢true h)
  looks-there (waiting t) c h = rw (le-ltb 1 t (leb-true t 1 h)) (look-finds c (retries r))
  looks-there (held n t) c h = absurd (false≢true h)
  looks-there (trying n) c h = look-finds c _
  looks-there tripped c h = absurd (false≢true h)

pub blind : Blind
unfolding Blind
blind r m h = (λ c. call_leaves r m c h, same_tick r m h)

pub looks : Looks
unfolding Looks
looks = looks-there
