-- The byte and the machine that it means: a step of the byte is a step of the machine, steps give the sixty-five values, and each of these
-- occurs.
-- Assumes nothing.
use Prim.Native.Nat.{ℕ, ◌+◌, ◌*◌, ◌/◌, ◌%◌, ◌≤◌, ◌<◌}
use mathlib.Core.Path.{◌≡◌, refl, ap, ap₂, ◌∙◌}
use mathlib.Core.Bool.{Bool, true, false, cond}
use mathlib.Core.List.{List, [], ◌∷◌}
use native.Mathlib.Omega.{arith}
use lib.Dec.{eqb, ltb, leb}
use borrow.Author.Tests.{eqb-false, ltb-true, ltb-false, leb-true, leb-false, le-leb}
use Rattle.laws.proofs.Branches.{either}
use Rattle.laws.proofs.Every.{agree, agree-test}
use Rattle.retry.specs.Response.{delay}
use Rattle.retry.specs.Machine.{Machine, rest, waiting, held, trying, tripped, hold, look, started, less_one, at_call, at_tick}
use Rattle.retry.specs.Byte.{byte_of, machine_of, byte_at_call, byte_at_tick}
use Rattle.retry.specs.Steps.{Step, tick, call, after, run}
use Rattle.retry.specs.Claim.{StaysValid, ValidOccurs}
use Rattle.retry.specs.Within.{byte_after}
use Rattle.retry.proofs.Bytes.{less-one_high, machine_waiting, machine_trying, machine_held}
use Rattle.retry.proofs.Shapes.{Shape, shape_call, shape_tick}

abbrev Small : ℕ → Type 0
Small n = n < 8

-- ---- from byte to machine and back

shape_of : (b : ℕ) → Shape Small (machine_of b)
unfolding machine_of Shape
shape_of b =
    either (eqb b 0) (λ e. rw e tt)
    (λ e. let some = eqb-false b 0 e in
    either (ltb b 8) (λ f. let high = ltb-true b 8 f in rw (e, f) (omega arith, omega arith))
    (λ f. let low = ltb-false b 8 f in
    either (leb 64 b) (λ g. rw (e, f, g) (omega arith))
    (λ g. let high = leb-false 64 b g in
    either (eqb (b % 8) 0) (λ h. rw (e, f, g, h) (omega arith, omega arith))
    (λ h. let t = eqb-false (b % 8) 0 h in rw (e, f, g, h) (omega arith, omega arith, omega arith, omega arith)))))

machine_back : (m : Machine) → Shape Small m → machine_of (byte_of m) ≡ m
unfolding byte_of machine_of Shape
machine_back rest h = refl
machine_back (waiting t) h = machine_waiting t h.0 h.1
machine_back (held n t) h =
    let p = h.0 in
    let some = h.1 in
    let low = h.2 in
    let high = h.3 in
    let a : (n * 8 + t) / 8 ≡ n = omega arith in
    let b : (n * 8 + t) % 8 ≡ t = omega arith in
    machine_held (n * 8 + t) (omega arith) (omega arith) (omega arith) ∙ ap₂ held a b
machine_back (trying n) h =
    let p = h.0 in
    let some = h.1 in
    let a : n * 8 / 8 ≡ n = omega arith in
    machine_trying (n * 8) (omega arith) (omega arith) (omega arith) ∙ ap trying a
machine_back tripped h = refl

byte_small : (m : Machine) → Shape Small m → byte_of m ≤ 64
unfolding byte_of Shape
byte_small rest h = omega arith
byte_small (waiting t) h = let high = h.1 in omega arith
byte_small (held n t) h = let p = h.0 in let high = h.3 in omega arith
byte_small (trying n) h = let p = h.0 in omega arith
byte_small tripped h = omega arith

-- ---- steps

module _ (r : ℕ) (c : Bool) (b : ℕ) where
  call_shape : Shape Small (at_call r c (machine_of b))
  call_shape = shape_call Small r (omega arith) (λ n p some. less-one_high n p) c (machine_of b) (shape_of b)

  tick_shape : Shape Small (at_tick r c (machine_of b))
  tick_shape = shape_tick Small r (omega arith) (λ n p some. less-one_high n p) c (machine_of b) (shape_of b)

  pub machine_call : machine_of (byte_at_call r c b) ≡ at_call r c (machine_of b)
  unfolding byte_at_call
  machine_call = machine_back (at_call r c (machine_of b)) call_shape

  pub machine_tick : machine_of (byte_at_tick r c b) ≡ at_tick r c (machine_of b)
  unfolding byte_at_tick
  machine_tick = machine_back (at_tick r c (machine_of b)) tick_shape

  pub call_small : byte_at_call r c b ≤ 64
  unfolding byte_at_call
  call_small = byte_small (at_call r c (machine_of b)) call_shape

  pub tick_small : byte_at_tick r c b ≤ 64
  unfolding byte_at_tick
  tick_small = byte_small (at_tick r c (machine_of b)) tick_shape

pub stays-valid : StaysValid
unfolding StaysValid
stays-valid r b c = (le-leb (byte_at_call r c b) 64 (call_small r c b), le-leb (byte_at_tick r c b) 64 (tick_small r c b))

pub machine_after : (r b : ℕ) (s : Step) → machine_of (byte_after r b s) ≡ after r (machine_of b) s
unfolding byte_after after machine_of
machine_after r b (tick c) = machine_tick r c b
machine_after r b (call true c) = machine_call r c 0
machine_after r b (call false c) = machine_call r c b

-- ---- each value occurs

-- after a call with the cause present, and a tick where no ticks are left, under this response
unfoldable pub response_to : ℕ → ℕ
response_to b = cond (eqb b 0) 0 (cond (ltb b 8) (0x40 + b) (0x80 + b % 64 + cond (eqb (b % 8) 0) 1 0))

unfoldable pub steps_to : ℕ → List Step
steps_to b = call false true ∷ cond (eqb (b % 8) 0) (tick true ∷ []) []

pub reached : (b : ℕ) → b < 65 → byte_of (run (response_to b) rest (steps_to b)) ≡ b
unfolding response_to steps_to delay less_one hold look started at_call at_tick after run byte_of
reached = agree (λ b. byte_of (run (response_to b) rest (steps_to b))) (λ b. b) 65 tt

pub response-byte : (b : ℕ) → b < 65 → response_to b < 256
unfolding response_to
response-byte b h = ltb-true (response_to b) 256 (agree-test (λ b. ltb (response_to b) 256) (λ b. true) 65 tt b h)

pub valid_occurs : ValidOccurs
unfolding ValidOccurs
valid_occurs b h =
    let l = leb-true b 64 h in
    record { response = response_to b; is_byte = response-byte b (omega arith); steps = steps_to b; reaches = reached b (omega arith) }
