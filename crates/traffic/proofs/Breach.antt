-- A breach of order with other calls between.
-- Assumes nothing.
use Prim.Native.Nat.{ℕ}
use mathlib.Core.Path.{◌≡◌, refl, sym, ap, ◌∙◌, subst}
use mathlib.Core.Bool.{true, false, and-false}
use mathlib.Core.List.{List, [], ◌∷◌}
use lib.Dec.{eqb}
use Rattle.laws.proofs.Branches.{other_eqb}
use Rattle.bus.specs.declared.Part.{Part}
use Rattle.bus.specs.Part.{started}
use Rattle.bus.specs.Automaton.{Event, start, byte, again, clock, stop, part_after, part_of, clock_byte}
use Rattle.bus.specs.Ack.{ack_of, ack_in}
use Rattle.bus.specs.Orders.{Order, a_write, a_turn, a_read, a_breach, EveryOrder}
use Rattle.bus.specs.Places.{bytes, turn, clocks, write, read}
use Rattle.bus.proofs.Orders.{every_order}
use Rattle.bus.proofs.Places.{no_ack, no_reply, more_bytes, second_address, more-clocks}
use Rattle.device.specs.declared.Device.{Device}
use Rattle.device.specs.Step.{Call, done}
use Rattle.stream.specs.Stream.{State, state_valid, part_next, ended, byte_ack, byte_sent, stopped, Turn, on, call, device_next, after, feed}
use Rattle.stream.proofs.Claims.{byte-same, again_same, clock_same}
use Rattle.history.specs.Run.{run}
use Rattle.traffic.specs.Runs.{NoStop, Within, events_in, calls_in, UntilStop}
use Rattle.traffic.specs.Underway.{nothing}
use Rattle.traffic.specs.Breach.{Breached, Unstarted, BreachBetween}
use Rattle.traffic.proofs.Runs.{feed-valid, until_stop, within-inner}
use Rattle.traffic.proofs.Follow.{Quiet, after-valid, stop_quiet, quiet-stop, moves}

-- ---- between START and STOP

within-no_stop : (ts : List Turn) → Within ts → NoStop ts
within-no_stop [] h = tt
within-no_stop (on start ∷ ts) h = absurd h
within-no_stop (on (byte b) ∷ ts) h = within-no_stop ts h
within-no_stop (on again ∷ ts) h = within-no_stop ts h
within-no_stop (on clock ∷ ts) h = within-no_stop ts h
within-no_stop (on stop ∷ ts) h = absurd h
within-no_stop (call c ∷ ts) h = within-no_stop ts h

-- ---- the phase is the one that the events alone lead to

module _ (s : State) (p : Part) (v : state_valid s ≡ true) (e : s.part.phase ≡ p.phase) where
  byte-phase : (b : ℕ) → (after s (on (byte b))).part.phase ≡ (part_after p (byte b)).phase
  unfolding after part_next
  byte-phase b = rw v (byte-same s.part p e s.device b)

  again_phase : (after s (on again)).part.phase ≡ (part_after p again).phase
  unfolding after part_next part_after
  again_phase = rw v (again_same s.part p e)

  clock_phase : (after s (on clock)).part.phase ≡ (part_after p clock).phase
  unfolding after part_next part_after
  clock_phase = rw v (clock_same s.part p e)

call_phase : (s : State) (c : Call) → (after s (call c)).part.phase ≡ s.part.phase
unfolding after
call_phase s c = refl

phases : (ts : List Turn) (s : State) (p : Part) → state_valid s ≡ true → s.part.phase ≡ p.phase → Within ts
    → (feed s ts).part.phase ≡ (part_of p (events_in ts)).phase
unfolding feed part_of
phases [] s p v e h = e
phases (on start ∷ ts) s p v e h = absurd h
phases (on (byte b) ∷ ts) s p v e h =
    phases ts (after s (on (byte b))) (part_after p (byte b)) (after-valid s (on (byte b)) v) (byte-phase s p v e b) h
phases (on again ∷ ts) s p v e h = phases ts (after s (on again)) (part_after p again) (after-valid s (on again) v) (again_phase s p v e) h
phases (on clock ∷ ts) s p v e h = phases ts (after s (on clock)) (part_after p clock) (after-valid s (on clock) v) (clock_phase s p v e) h
phases (on stop ∷ ts) s p v e h = absurd h
phases (call c ∷ ts) s p v e h = phases ts (after s (call c)) p (after-valid s (call c) v) (call_phase s c ∙ e) h

-- ---- what a phase gives

module _ (s : State) (d : Device) (v : state_valid s ≡ true) (same : s.device ≡ d) where
  nacked : (b : ℕ) → ack_of s.part b ≡ false → byte_ack s b ≡ false
  unfolding byte_ack
  nacked b e = rw e (and-false (state_valid s))

  ones_sent : clock_byte s.part ≡ 255 → byte_sent s ≡ 255
  unfolding byte_sent
  ones_sent e = rw (v, e)

  two_given : (k : ℕ) → s.part.phase ≡ k → eqb k 1 ≡ false → eqb k 3 ≡ false → stopped s ≡ done d 2
  unfolding stopped ended
  two_given k e one three = rw (v, other_eqb _ 1 k e one, other_eqb _ 3 k e three) (ap (λ (x : Device). done x 2) same)

  by_order : (es : List Event) → Order es s.part.phase → Breached s es d
  by_order es (a_write bs e r) = record {
    nack = λ b out. absurd (out (more_bytes es bs b e));
    ones = λ out. ones_sent (no_reply s.part 1 r refl);
    nack_on = λ no b. absurd (no (bytes bs e));
    ones_on = λ no. absurd (no (bytes bs e));
    two = λ no. absurd (no (write bs e));
  }
  by_order es (a_turn bs e r) = record {
    nack = λ b out. absurd (out (second_address es bs b e));
    ones = λ out. ones_sent (no_reply s.part 2 r refl);
    nack_on = λ no b. absurd (no (turn bs e));
    ones_on = λ no. absurd (no (turn bs e));
    two = λ no. two_given 2 r refl refl;
  }
  by_order es (a_read bs b n e r) = record {
    nack = λ c out. nacked c (no_ack s.part 3 r refl refl c);
    ones = λ out. absurd (out (more-clocks es bs b n e));
    nack_on = λ no c. absurd (no (clocks bs b n e));
    ones_on = λ no. absurd (no (clocks bs b n e));
    two = λ no. absurd (no (read bs b n e));
  }
  by_order es (a_breach r) = record {
    nack = λ b out. nacked b (no_ack s.part 4 r refl refl b);
    ones = λ out. ones_sent (no_reply s.part 4 r refl);
    nack_on = λ no b. nacked b (no_ack s.part 4 r refl refl b);
    ones_on = λ no. ones_sent (no_reply s.part 4 r refl);
    two = λ no. two_given 4 r refl refl;
  }

-- ---- without START

quiet_all : (ts : List Turn) (s : State) → Within ts → Quiet s → Quiet (feed s ts)
unfolding feed
quiet_all [] s h k = k
quiet_all (on start ∷ ts) s h k = absurd h
quiet_all (on (byte b) ∷ ts) s h k = quiet_all ts (after s (on (byte b))) h (moves s nothing s.device (on (byte b)) k)
quiet_all (on again ∷ ts) s h k = quiet_all ts (after s (on again)) h (moves s nothing s.device (on again) k)
quiet_all (on clock ∷ ts) s h k = quiet_all ts (after s (on clock)) h (moves s nothing s.device (on clock) k)
quiet_all (on stop ∷ ts) s h k = absurd h
quiet_all (call c ∷ ts) s h k = quiet_all ts (after s (call c)) h (moves s nothing s.device (call c) k)

unstarted : (s : State) (d : Device) → s.device ≡ d → Quiet s → Unstarted s d
unfolding byte_ack ack_in byte_sent clock_byte
unstarted s d same k = record {
  nack = λ b. rw (k.valid, k.one, k.two);
  ones = rw (k.valid, k.three);
  two = quiet-stop s k ∙ ap (λ (x : Device). done x 2) same;
}

-- ---- the claim

start-phase : (s : State) → state_valid s ≡ true → (after s (on start)).part.phase ≡ started.phase
unfolding after part_next part_after
start-phase s v = rw v

start-device : (s : State) → (after s (on start)).device ≡ s.device
unfolding after device_next
start-device s = refl

stop_device : (s : State) → (after s (on stop)).device ≡ (stopped s).device
unfolding after device_next
stop_device s = refl

pub breach_between : BreachBetween
unfolding BreachBetween UntilStop EveryOrder feed
breach_between s ts v h =
    let es = events_in ts in
    let a = after s (on start) in
    let va = after-valid s (on start) v in
    let z = after s (on stop) in
    let vz = after-valid s (on stop) v in
    let still = within-no_stop ts h in (
      by_order (feed a ts) (run s.device (calls_in ts)) (feed-valid ts a va)
          ((until_stop a ts va still).0 ∙ ap (λ (x : Device). run x (calls_in ts)) (start-device s)) es
          (subst (λ (k : ℕ). Order es k) (sym (phases ts a started va (start-phase s v) h)) (every_order es (within-inner ts h))),
      unstarted (feed z ts) (run (stopped s).device (calls_in ts))
          ((until_stop z ts vz still).0 ∙ ap (λ (x : Device). run x (calls_in ts)) (stop_device s))
          (quiet_all ts z h (stop_quiet s v)),
    )
