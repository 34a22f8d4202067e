-- What a call and a tick make of a byte, case by case of its bits.
-- Assumes nothing.
use Prim.Native.Nat.{ℕ, ◌+◌, ◌*◌, ◌-◌, ◌/◌, ◌%◌, ◌≤◌, ◌<◌}
use mathlib.Core.Path.{◌≡◌}
use mathlib.Core.Bool.{Bool, true, false, cond}
use native.Mathlib.Omega.{arith}
use lib.Dec.{eqb, ltb}
use borrow.Author.Rules.{rules}
use borrow.Author.Tests.{eq-eqb, ne_eqb, lt-ltb, le-ltb, le-leb, lt-leb, eqb-true, eqb-false, ltb-true, ltb-false}
use Rattle.laws.proofs.Branches.{either, calls}
use Rattle.retry.specs.Response.{retries, delay}
use Rattle.retry.specs.Machine.{Machine, waiting, held, trying, tripped, hold, look, started, less_one, at_call, at_tick}
use Rattle.retry.specs.Byte.{byte_of, machine_of, byte_at_call, byte_at_tick}

-- R is the byte of what a definition picks by a test
pub byte-yes : (R : ℕ) (b : Bool) (x y : Machine) → b ≡ true → R ≡ byte_of x → R ≡ byte_of (cond b x y)
byte-yes R b x y e h = rw e h

pub byte-no : (R : ℕ) (b : Bool) (x y : Machine) → b ≡ false → R ≡ byte_of y → R ≡ byte_of (cond b x y)
byte-no R b x y e h = rw e h

pub ruleset bytes = (byte-yes, byte-no, calls)

-- ---- a page that is held off

pub delay-low : (r : ℕ) → 0 < delay r
unfolding delay
delay-low r = either (eqb (r % 8) 0) (λ e. rw e (omega arith)) (λ e. let h = eqb-false (r % 8) 0 e in rw e (omega arith))

pub delay-high : (r : ℕ) → delay r < 8
unfolding delay
delay-high r = either (eqb (r % 8) 0) (λ e. rw e (omega arith)) (λ e. rw e (omega arith))

pub hold-some : (r n t : ℕ) → (n ≡ 0 → ⊥) → t ≡ delay r → n * 8 + t ≡ byte_of (hold r n)
unfolding hold byte_of
hold-some r n t some e = rw (ne_eqb n 0 some, e)

-- ---- a try in vain

pub less-one_high : (n : ℕ) → n < 8 → less_one n < 8
unfolding less_one
less-one_high n h = either (eqb n 7) (λ e. rw e (omega arith)) (λ e. rw e (omega arith))

-- ---- the machine of a byte

pub machine_waiting : (b : ℕ) → 0 < b → b < 8 → machine_of b ≡ waiting b
unfolding machine_of
machine_waiting b low high = rw (ne_eqb b 0 (omega arith), lt-ltb b 8 high)

pub machine_tripped : (b : ℕ) → 64 ≤ b → machine_of b ≡ tripped
unfolding machine_of
machine_tripped b h = rw (ne_eqb b 0 (omega arith), le-ltb b 8 (omega arith), le-leb 64 b h)

pub machine_trying : (b : ℕ) → 0 < b → b < 64 → b % 8 ≡ 0 → machine_of b ≡ trying (b / 8)
unfolding machine_of
machine_trying b low high e = rw (ne_eqb b 0 (omega arith), le-ltb b 8 (omega arith), lt-leb 64 b high, eq-eqb (b % 8) 0 e)

pub machine_held : (b : ℕ) → 8 ≤ b → b < 64 → (b % 8 ≡ 0 → ⊥) → machine_of b ≡ held (b / 8) (b % 8)
unfolding machine_of
machine_held b low high e = rw (ne_eqb b 0 (omega arith), le-ltb b 8 low, lt-leb 64 b high, ne_eqb (b % 8) 0 e)

-- ---- what a call makes of a byte

pub call_present : (R r b : ℕ) (c : Bool) → b ≡ 0 → c ≡ true → R ≡ byte_of (started r) → R ≡ byte_at_call r c b
unfolding byte_at_call machine_of at_call
call_present R r b c z p h = rw (z, p) h

pub call_gone : (r b : ℕ) (c : Bool) → b ≡ 0 → c ≡ false → 0 ≡ byte_at_call r c b
unfolding byte_at_call machine_of at_call byte_of
call_gone r b c z p = rw (z, p)

pub call_tripped : (r b : ℕ) (c : Bool) → 64 ≤ b → 64 ≡ byte_at_call r c b
unfolding byte_at_call at_call byte_of
call_tripped r b c h = rw (machine_tripped b h)

pub call_busy : (r b : ℕ) (c : Bool) → (b ≡ 0 → ⊥) → b < 64 → b ≡ byte_at_call r c b
unfolding byte_at_call at_call byte_of
call_busy r b c some high =
    either (ltb b 8) (λ e. let l = ltb-true b 8 e in rw (machine_waiting b (omega arith) l))
    (λ e. let l = ltb-false b 8 e in
    either (eqb (b % 8) 0) (λ f. let z = eqb-true (b % 8) 0 f in rw (machine_trying b (omega arith) high z) (omega arith))
    (λ f. rw (machine_held b (omega arith) high (eqb-false (b % 8) 0 f)) (omega arith)))

-- ---- what a tick makes of it

pub tick_rest : (R r b : ℕ) (c : Bool) → b ≡ 0 → R ≡ byte_at_call r c b → R ≡ byte_at_tick r c b
unfolding byte_at_tick byte_at_call machine_of at_tick
tick_rest R r b c z h = rw z (rw z at h)

pub tick_tripped : (r b : ℕ) (c : Bool) → 64 ≤ b → 64 ≡ byte_at_tick r c b
unfolding byte_at_tick at_tick byte_of
tick_tripped r b c h = rw (machine_tripped b h)

pub tick_waited : (R r b : ℕ) (c : Bool) → b ≡ 1 → R ≡ byte_of (look r c (retries r)) → R ≡ byte_at_tick r c b
unfolding byte_at_tick machine_of at_tick
tick_waited R r b c e h = rw e h

pub tick_tried : (R r b n : ℕ) (c : Bool) → (b ≡ 0 → ⊥) → b < 64 → b % 8 ≡ 0 → n ≡ less_one (b / 8) → R ≡ byte_of (look r c n) → R ≡ byte_at_tick r c b
unfolding byte_at_tick at_tick
tick_tried R r b n c some high e l h = rw (machine_trying b (omega arith) high e) (rw l at h)

held_down : (r b : ℕ) (c : Bool) → 8 ≤ b → b < 64 → (b % 8 ≡ 0 → ⊥) → b - 1 ≡ byte_at_tick r c b
unfolding byte_at_tick at_tick byte_of
held_down r b c low high some =
    rw (machine_held b low high some)
    (either (ltb 1 (b % 8)) (λ e. let l = ltb-true 1 (b % 8) e in rw e (omega arith)) (λ e. let l = ltb-false 1 (b % 8) e in rw e (omega arith)))

waiting_down : (r b : ℕ) (c : Bool) → 1 < b → b < 8 → b - 1 ≡ byte_at_tick r c b
unfolding byte_at_tick at_tick byte_of
waiting_down r b c low high = rw (machine_waiting b (omega arith) high, lt-ltb 1 b low)

pub tick_down : (r b : ℕ) (c : Bool) → (b ≡ 1 → ⊥) → b < 64 → (b % 8 ≡ 0 → ⊥) → b - 1 ≡ byte_at_tick r c b
tick_down r b c one high some =
    either (ltb b 8) (λ e. let l = ltb-true b 8 e in waiting_down r b c (omega arith) l)
    (λ e. let l = ltb-false b 8 e in held_down r b c (omega arith) high some)

pub ruleset steps =
    (call_present, call_gone, call_tripped, call_busy, tick_rest, tick_tripped, tick_waited, tick_tried, tick_down, rules)
