-- What a page needs of its machines side by side: that their values stay valid, which of them trip it, and that a further call changes none.
-- Assumes nothing.
use Prim.Native.Nat.{ℕ, zero, suc, ◌<◌}
use mathlib.Core.Path.{◌≡◌, refl, sym, ap, ap₂, ◌∙◌}
use mathlib.Core.Bool.{Bool, true, false, ◌&&◌, ◌||◌, and-true, or-true, and-eq-true_iff, false≢true}
use mathlib.Core.List.{List, [], ◌∷◌, map}
use native.Mathlib.Omega.{arith}
use lib.Dec.{eqb, ltb}
use lib.ListN.{get_or, set}
use borrow.Author.Tests.{le-leb, eqb-true, ltb-true}
use Rattle.laws.specs.Lists.{all_of, any_of}
use Rattle.laws.proofs.Branches.{either}
use Rattle.laws.proofs.Lists.{set_cases, any_found}
use Rattle.laws.proofs.Every.{agree-test}
use Rattle.retry.specs.Response.{holds_at_once, waits_first, retries}
use Rattle.retry.specs.Machine.{Machine, rest, waiting, held, trying, tripped, hold, started, at_call, at_tick, at_rest, trips}
use Rattle.retry.specs.Byte.{byte_of, machine_of, byte_at_call, byte_at_tick, byte_trips, trips_now}
use Rattle.retry.specs.Steps.{Step, tick, call, cause_present, after}
use Rattle.retry.specs.Within.{byte_after}
use Rattle.retry.specs.Machines.{numbers, all_at_call, all_at_tick, any_trips, any_trips_now, machine_valid, all_valid, EachAlone}
use Rattle.retry.proofs.Alone.{each-alone}
use Rattle.retry.proofs.Shapes.{up-to_date_at}
use Rattle.retry.proofs.Values.{machine_after, machine_call, machine_tick, call_small, tick_small}

-- ---- tests over the six

module _ (p : ℕ → Bool) where
  pub six_each : ((k : ℕ) → k < 6 → p k ≡ true) → all_of p numbers ≡ true
  six_each h =
      rw (h 0 (omega arith), h 1 (omega arith), h 2 (omega arith), h 3 (omega arith), h 4 (omega arith), h 5 (omega arith))

  both : (k : ℕ) (l : List ℕ) → all_of p (k ∷ l) ≡ true → (p k ≡ true) × (all_of p l ≡ true)
  both k l = (and-eq-true_iff (p k) (all_of p l)).0

  pub each-six : all_of p numbers ≡ true → (k : ℕ) → k < 6 → p k ≡ true
  each-six h =
      let a = both 0 (1 ∷ 2 ∷ 3 ∷ 4 ∷ 5 ∷ []) h in
      let b = both 1 (2 ∷ 3 ∷ 4 ∷ 5 ∷ []) a.1 in
      let c = both 2 (3 ∷ 4 ∷ 5 ∷ []) b.1 in
      let d = both 3 (4 ∷ 5 ∷ []) c.1 in
      let e = both 4 (5 ∷ []) d.1 in
      pick a.0 b.0 c.0 d.0 e.0 (both 5 [] e.1).0
    where
      pick : p 0 ≡ true → p 1 ≡ true → p 2 ≡ true → p 3 ≡ true → p 4 ≡ true → p 5 ≡ true → (k : ℕ) → k < 6 → p k ≡ true
      pick a b c d e f zero h = a
      pick a b c d e f (suc zero) h = b
      pick a b c d e f (suc (suc zero)) h = c
      pick a b c d e f (suc (suc (suc zero))) h = d
      pick a b c d e f (suc (suc (suc (suc zero)))) h = e
      pick a b c d e f (suc (suc (suc (suc (suc zero))))) h = f
      pick a b c d e f (suc (suc (suc (suc (suc (suc k)))))) h = absurd (omega arith)

  pub six_some : (k : ℕ) → k < 6 → p k ≡ true → any_of p numbers ≡ true
  six_some zero h e = simp (e)
  six_some (suc zero) h e = simp (e, or-true)
  six_some (suc (suc zero)) h e = simp (e, or-true)
  six_some (suc (suc (suc zero))) h e = simp (e, or-true)
  six_some (suc (suc (suc (suc zero)))) h e = simp (e, or-true)
  six_some (suc (suc (suc (suc (suc zero))))) h e = simp (e, or-true)
  six_some (suc (suc (suc (suc (suc (suc k)))))) h e = absurd (omega arith)

-- ---- valid values

module _ (ms : List ℕ) (v : all_valid ms ≡ true) where
  valid_at_lem : (k : ℕ) → k < 6 → machine_valid k (get_or ms k 0) ≡ true
  unfolding all_valid
  valid_at_lem = each-six (λ k. machine_valid k (get_or ms k 0)) v

  rest_valid : (k : ℕ) → machine_valid k 0 ≡ true
  rest_valid k = either (eqb k 1) (λ e. rw e) (λ e. rw e)

  -- a machine that is put to rest
  pub rested_valid : (j : ℕ) → all_valid (set ms j 0) ≡ true
  unfolding all_valid
  rested_valid j =
      six_each (λ k. machine_valid k (get_or (set ms j 0) k 0))
      (λ k h. set_cases 0 (λ (b : ℕ). machine_valid k b ≡ true) ms j 0 k (valid_at_lem k h) (λ e. rest_valid k))

  module _ (rs : List ℕ) (ps : List Bool) (calm : holds_at_once (get_or rs 1 0) ≡ false) (slow : waits_first (get_or rs 1 0) ≡ false) where
    at_rest_lem : get_or ms 1 0 ≡ 0
    at_rest_lem = eqb-true (get_or ms 1 0) 0 (valid_at_lem 1 (omega arith))

    started-calm : byte_of (started (get_or rs 1 0)) ≡ 0
    unfolding started byte_of
    started-calm = rw (calm, slow)

    still : (c : Bool) → byte_at_call (get_or rs 1 0) c 0 ≡ 0
    unfolding byte_at_call machine_of at_call byte_of
    still true = started-calm
    still false = refl

    still_tick : (c : Bool) → byte_at_tick (get_or rs 1 0) c 0 ≡ byte_at_call (get_or rs 1 0) c 0
    unfolding byte_at_tick byte_at_call machine_of at_tick
    still_tick c = refl

    pub all_called_valid : all_valid (all_at_call rs ps ms) ≡ true
    unfolding all_valid EachAlone
    all_called_valid =
        six_each (λ k. machine_valid k (get_or (all_at_call rs ps ms) k 0))
        (λ k h. rw (each-alone rs ps ms k h).0
        (either (eqb k 1) (λ e. rw (e, eqb-true k 1 e, at_rest_lem, still (get_or ps 1 false)))
        (λ e. rw e (le-leb _ 64 (call_small (get_or rs k 0) (get_or ps k false) (get_or ms k 0))))))

    pub all_ticked_valid : all_valid (all_at_tick rs ps ms) ≡ true
    unfolding all_valid EachAlone
    all_ticked_valid =
        six_each (λ k. machine_valid k (get_or (all_at_tick rs ps ms) k 0))
        (λ k h. rw (each-alone rs ps ms k h).1
        (either (eqb k 1) (λ e. rw (e, eqb-true k 1 e, at_rest_lem, still_tick (get_or ps 1 false), still (get_or ps 1 false)))
        (λ e. rw e (le-leb _ 64 (tick_small (get_or rs k 0) (get_or ps k false) (get_or ms k 0))))))

-- ---- which trip the page

now_one : (before after : ℕ) → byte_trips before ≡ false → trips_now before after ≡ byte_trips after
unfolding trips_now
now_one before after e = rw e (and-true (byte_trips after))

none_or : (a b : Bool) → (a || b) ≡ false → (a ≡ false) × (b ≡ false)
none_or false b h = (refl, h)
none_or true b h = absurd (false≢true (sym h))

same_any : (before after : List ℕ) (l : List ℕ) → any_of (λ k. byte_trips (get_or before k 0)) l ≡ false
    → any_of (λ k. trips_now (get_or before k 0) (get_or after k 0)) l ≡ any_of (λ k. byte_trips (get_or after k 0)) l
same_any before after [] h = refl
same_any before after (k ∷ l) h =
    let p = none_or (byte_trips (get_or before k 0)) (any_of (λ k. byte_trips (get_or before k 0)) l) h in
    ap₂ ◌||◌ (now_one (get_or before k 0) (get_or after k 0) p.0) (same_any before after l p.1)

rest_quiet : byte_trips 0 ≡ false
unfolding byte_trips machine_of
rest_quiet = refl

-- where none had tripped the page before, those that have after a step did it in that step
pub trips-now_all : (before after : List ℕ) → any_trips before ≡ false → any_trips_now before after ≡ any_trips after
unfolding any_trips any_trips_now
trips-now_all before after h = same_any before after numbers h

pub some_trips : (ms : List ℕ) (k : ℕ) → k < 6 → byte_trips (get_or ms k 0) ≡ true → any_trips ms ≡ true
unfolding any_trips
some_trips ms k h e = six_some (λ k. byte_trips (get_or ms k 0)) k h e

-- ---- a machine that is put to rest

pub rest_same : (ms : List ℕ) (k : ℕ) → get_or (set ms k 0) k 0 ≡ 0
rest_same [] k = refl
rest_same (m ∷ ms) zero = refl
rest_same (m ∷ ms) (suc k) = rest_same ms k

-- trips no page
pub rest_trips : (ms : List ℕ) (j : ℕ) → any_trips (set ms j 0) ≡ true → any_trips ms ≡ true
unfolding any_trips
rest_trips ms j h =
    let w = any_found 0 (λ k. byte_trips (get_or (set ms j 0) k 0)) numbers h in
    let k = get_or numbers w.0 0 in
    at k (place w.0 w.1) w.2
  where
    place : (i : ℕ) → i < 6 → get_or numbers i 0 < 6
    place i h = ltb-true (get_or numbers i 0) 6 (agree-test (λ i. ltb (get_or numbers i 0) 6) (λ i. true) 6 tt i h)

    at : (k : ℕ) → k < 6 → byte_trips (get_or (set ms j 0) k 0) ≡ true → any_of (λ k. byte_trips (get_or ms k 0)) numbers ≡ true
    at k h =
        set_cases 0 (λ (b : ℕ). byte_trips b ≡ true → any_of (λ k. byte_trips (get_or ms k 0)) numbers ≡ true) ms j 0 k
        (λ e. six_some (λ k. byte_trips (get_or ms k 0)) k h e) (λ same e. absurd (false≢true (sym rest_quiet ∙ e)))

-- ---- a further call that changes nothing of the causes

byte-again : (r b : ℕ) (s : Step) → byte_at_call r (cause_present s) (byte_after r b s) ≡ byte_of (after r (machine_of b) s)
unfolding byte_at_call
byte-again r b s = ap byte_of (ap (at_call r (cause_present s)) (machine_after r b s) ∙ up-to_date_at r (machine_of b) s)

module _ (r b : ℕ) (c : Bool) where
  call_again : byte_at_call r c (byte_at_call r c b) ≡ byte_at_call r c b
  unfolding byte_at_call byte_after after
  call_again = byte-again r b (call false c)

  tick_again : byte_at_call r c (byte_at_tick r c b) ≡ byte_at_tick r c b
  unfolding byte_at_tick byte_after after
  tick_again = byte-again r b (tick c)

same_map : (f g : ℕ → ℕ) → ((k : ℕ) → k < 6 → f k ≡ g k) → map f numbers ≡ map g numbers
same_map f g h =
    rw (h 0 (omega arith), h 1 (omega arith), h 2 (omega arith), h 3 (omega arith), h 4 (omega arith), h 5 (omega arith))

module _ (rs : List ℕ) (ps : List Bool) (ms : List ℕ) where
  pub all_again : all_at_call rs ps (all_at_call rs ps ms) ≡ all_at_call rs ps ms
  unfolding all_at_call
  all_again =
      same_map _ _ (λ k h. call_again (get_or rs k 0) (get_or ms k 0) (get_or ps k false))

  pub all_ticked_again : all_at_call rs ps (all_at_tick rs ps ms) ≡ all_at_tick rs ps ms
  unfolding all_at_call all_at_tick
  all_ticked_again = same_map _ _ (λ k h. tick_again (get_or rs k 0) (get_or ms k 0) (get_or ps k false))

-- ---- a response that shuts down and stays off: action 10, no retries

abbrev pub stays_off : ℕ → Bool
stays_off r = holds_at_once r && eqb (retries r) 0

-- under it a machine rests or has tripped the page, and with the cause present it has
unfoldable pub settled_down : Machine → Bool
settled_down m = at_rest m || trips m

unfoldable pub Steady : ℕ → ℕ → Type 0
Steady r b = stays_off r ≡ true → settled_down (machine_of b) ≡ true

pub steady_rest : (r : ℕ) → Steady r 0
unfolding Steady settled_down machine_of
steady_rest r h = refl

module _ (r : ℕ) (off : stays_off r ≡ true) where
  trips-at-start : started r ≡ tripped
  unfolding started hold
  trips-at-start =
      let p = (and-eq-true_iff (holds_at_once r) (eqb (retries r) 0)).0 off in rw (p.0, p.1)

  down-call : (c : Bool) (m : Machine) → settled_down m ≡ true → settled_down (at_call r c m) ≡ true
  unfolding settled_down at_call
  down-call true rest h = rw trips-at-start
  down-call false rest h = refl
  down-call c (waiting t) h = absurd (false≢true h)
  down-call c (held n t) h = absurd (false≢true h)
  down-call c (trying n) h = absurd (false≢true h)
  down-call c tripped h = refl

  down-tick : (c : Bool) (m : Machine) → settled_down m ≡ true → settled_down (at_tick r c m) ≡ true
  unfolding settled_down at_tick
  down-tick c rest h = down-call c rest h
  down-tick c (waiting t) h = absurd (false≢true h)
  down-tick c (held n t) h = absurd (false≢true h)
  down-tick c (trying n) h = absurd (false≢true h)
  down-tick c tripped h = refl

  down-trips : (m : Machine) → settled_down m ≡ true → trips (at_call r true m) ≡ true
  unfolding settled_down at_call
  down-trips rest h = rw trips-at-start
  down-trips (waiting t) h = absurd (false≢true h)
  down-trips (held n t) h = absurd (false≢true h)
  down-trips (trying n) h = absurd (false≢true h)
  down-trips tripped h = refl

module _ (r b : ℕ) (c : Bool) (h : Steady r b) where
  pub steady_call : Steady r (byte_at_call r c b)
  unfolding Steady
  steady_call off = rw (machine_call r c b) (down-call r off c (machine_of b) (h off))

  pub steady_tick : Steady r (byte_at_tick r c b)
  unfolding Steady
  steady_tick off = rw (machine_tick r c b) (down-tick r off c (machine_of b) (h off))

pub steady_trips : (r b : ℕ) → Steady r b → stays_off r ≡ true → byte_at_call r true b ≡ b → byte_trips b ≡ true
unfolding Steady byte_trips
steady_trips r b h off e =
    ap (λ (x : ℕ). trips (machine_of x)) (sym e) ∙ rw (machine_call r true b) (down-trips r off (machine_of b) (h off))
