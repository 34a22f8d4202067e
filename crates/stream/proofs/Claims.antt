-- The streaming device beside the whole-transaction device.
-- Assumes nothing.
use Prim.Native.Nat.{ℕ, zero, suc}
use mathlib.Core.Path.{◌≡◌, refl, ap, ◌∙◌}
use mathlib.Core.Bool.{true, false, and-eq-true_iff}
use mathlib.Core.List.{List, [], ◌∷◌, ◌++◌, map}
use lib.ListN.{length, replicate}
use lib.Dec.{eqb}
use Rattle.laws.proofs.Branches.{either, other_eqb}
use Rattle.bus.specs.declared.Part.{Part}
use Rattle.bus.specs.Part.{part_valid, started}
use Rattle.bus.specs.Automaton.{Event, start, byte, again, clock, stop, after_byte, after_again, after_clock, byted, restarted, clocked, part_after, part_of, clock_byte}
use Rattle.bus.specs.Ack.{ack_in}
use Rattle.bus.specs.Orders.{turn_order, Inner, Order, a_write, a_turn, a_read, a_breach, EveryOrder, BreachLasts}
use Rattle.bus.proofs.Orders.{every_order, breach_lasts}
use Rattle.device.specs.declared.Device.{Device}
use Rattle.device.specs.declared.Done.{Done}
use Rattle.device.specs.Device.{device_valid}
use Rattle.device.specs.Step.{Call, done}
use Rattle.stream.specs.Stream.{State, state, state_valid, byte_taken, part_next, ended, begin_answer, byte_ack, byte_sent, stopped, called, Turn, on, device_next, after, feed, events}
use Rattle.stream.specs.Between.{Mixed, put, putting, clocking, puts, later}
use Rattle.stream.specs.Claims.{Written, Read, End, as_write, as_read, unfinished, breach, EveryEnd, AckedFirst, AckedSecond, Disorder, Breach, NoStart, Dropped, Fifteen}
use Rattle.stream.proofs.Fold.{Steady, whole, stays, fifteen-left, write_between, first_between, second_between, turn-between, read_between, sent-between}

-- ---- nothing between

record Plain (bs : List ℕ) (l : List Mixed) : Type 0 where
  turns : putting l ≡ events (map byte bs)
  bytes_of : puts l ≡ bs
  steady : Steady l
  device-of : (d : Device) → later d l ≡ d

plain : (bs : List ℕ) → Plain bs (map put bs)
plain [] = record { turns = refl; bytes_of = refl; steady = tt; device-of = λ d. refl }
plain (b ∷ bs) =
    let r = plain bs in
    record {
      turns = ap (λ (l : List Turn). on (byte b) ∷ l) r.turns;
      bytes_of = ap (λ (l : List ℕ). b ∷ l) r.bytes_of;
      steady = r.steady;
      device-of = r.device-of;
    }

record Ticks (n : ℕ) (l : List Mixed) : Type 0 where
  turns : clocking l ≡ events (replicate n clock)
  number : length (puts l) ≡ n
  steady : Steady l
  device-of : (d : Device) → later d l ≡ d

ticks : (n : ℕ) → Ticks n (replicate n (put 0))
ticks zero = record { turns = refl; number = refl; steady = tt; device-of = λ d. refl }
ticks (suc n) =
    let r = ticks n in
    record {
      turns = ap (λ (l : List Turn). on clock ∷ l) r.turns;
      number = ap suc r.number;
      steady = r.steady;
      device-of = r.device-of;
    }

pub events-append : (a b : List Event) → events (a ++ b) ≡ events a ++ events b
events-append [] b = refl
events-append (e ∷ a) b = ap (λ (l : List Turn). on e ∷ l) (events-append a b)

pub written : Written
unfolding Written
written s bs v =
    let r = plain bs in
    rw (r.turns, r.bytes_of, r.device-of s.device) at (write_between s v (map put bs) r.steady)

pub acked_first_lem : AckedFirst
unfolding AckedFirst state_valid
acked_first_lem s bs b v =
    let r = plain bs in
    let both = (and-eq-true_iff (part_valid s.part) (device_valid s.device)).0 v in
    rw (r.turns, r.bytes_of) at (first_between s both.0 (map put bs) r.steady b both.1)

pub acked_second_lem : AckedSecond
unfolding AckedSecond state_valid
acked_second_lem s bs b v =
    let r = plain bs in
    let both = (and-eq-true_iff (part_valid s.part) (device_valid s.device)).0 v in
    rw (events-append (map byte bs) (again ∷ []))
    (rw (r.turns, r.bytes_of) at (second_between s both.0 (map put bs) r.steady [] tt refl b both.1))

turn_stopped : (s : State) (bs : List ℕ) → state_valid s ≡ true → stopped (feed s (events (start ∷ turn_order bs))) ≡ done s.device 2
unfolding state_valid
turn_stopped s bs v =
    let r = plain bs in
    let both = (and-eq-true_iff (part_valid s.part) (device_valid s.device)).0 v in
    rw (events-append (map byte bs) (again ∷ []))
    (rw (r.turns, r.device-of s.device) at (turn-between s both.0 (map put bs) r.steady [] tt refl both.1))

pub read_claim : Read
unfolding Read
read_claim s bs b n v =
    let r = plain bs in
    let k = ticks n in
    let l = map put bs in
    let c = replicate n (put 0) in
    let e = events-append (map byte bs) (again ∷ byte b ∷ replicate n clock) in (
      rw e
          (rw (r.turns, r.bytes_of, r.device-of s.device, k.turns, k.number, k.device-of s.device)
          at (read_between s v l r.steady [] tt refl b c k.steady)),
      rw e
          (rw (r.turns, r.bytes_of, r.device-of s.device, k.turns, k.number)
          at (sent-between s v l r.steady [] tt refl b c k.steady)),
    )

pub valid_both : (t : State) → state_valid t ≡ true → (part_valid t.part ≡ true) × (device_valid t.device ≡ true)
unfolding state_valid
valid_both t v = (and-eq-true_iff (part_valid t.part) (device_valid t.device)).0 v

-- ---- any list of events between START and STOP

module _ (p q : Part) (same : p.phase ≡ q.phase) where
  pub byte-same : (d : Device) (b : ℕ) → (byte_taken d p b).phase ≡ (part_after q (byte b)).phase
  unfolding byte_taken byted part_after
  byte-same d b = either (eqb p.phase 2) (λ y. rw (y, same)) (λ n. rw (n, same))

  pub again_same : (restarted p).phase ≡ (restarted q).phase
  unfolding restarted
  again_same = rw same

  pub clock_same : (clocked p).phase ≡ (clocked q).phase
  unfolding clocked
  clock_same = rw same

-- the state t that came from s, in the phase of p
record Follows (s t : State) (p : Part) : Type 0 where
  phase : t.part.phase ≡ p.phase
  valid : state_valid t ≡ true
  device : t.device ≡ s.device

follow : (s t : State) (p q : Part) (e : Event) → Follows s t p → (part_next t.device t.part e).phase ≡ q.phase
    → device_next t e ≡ t.device → Follows s (after t (on e)) q
unfolding after
follow s t p q e k h d =
    let both = valid_both t k.valid in
    record {
      phase = rw k.valid h;
      valid = whole (after t (on e)) (stays t (on e) both.0) (ap device_valid d ∙ both.1);
      device = d ∙ k.device;
    }

follow_all : (es : List Event) (s t : State) (p : Part) → Inner es → Follows s t p → Follows s (feed t (events es)) (part_of p es)
unfolding feed part_of part_next device_next part_after
follow_all [] s t p i k = k
follow_all (start ∷ es) s t p i k = absurd i
follow_all (byte b ∷ es) s t p i k =
    follow_all es s (after t (on (byte b))) (byted p b) i
    (follow s t p (byted p b) (byte b) k (byte-same t.part p k.phase t.device b) refl)
follow_all (again ∷ es) s t p i k =
    follow_all es s (after t (on again)) (restarted p) i
    (follow s t p (restarted p) again k (again_same t.part p k.phase) refl)
follow_all (clock ∷ es) s t p i k =
    follow_all es s (after t (on clock)) (clocked p) i
    (follow s t p (clocked p) clock k (clock_same t.part p k.phase) refl)
follow_all (stop ∷ es) s t p i k = absurd i

follow_start : (s : State) → state_valid s ≡ true → Follows s (after s (on start)) started
unfolding part_next device_next part_after
follow_start s v = follow s s s.part started start (record { phase = refl; valid = v; device = refl }) refl refl

-- a state in which nothing orderly is under way
pub disorder : (s : State) → state_valid s ≡ true → (k : ℕ) → s.part.phase ≡ k
    → eqb k 1 ≡ false → eqb k 2 ≡ false → eqb k 3 ≡ false → Disorder s
unfolding byte_ack ack_in byte_sent clock_byte stopped ended
disorder s v k e one two three = record {
  nack = λ b. rw (v, other_eqb _ 1 k e one, other_eqb _ 2 k e two);
  ones = rw (v, other_eqb _ 3 k e three);
  two = rw (v, other_eqb _ 1 k e one, other_eqb _ 3 k e three);
}

pub breach_claim : Breach
unfolding Breach BreachLasts
breach_claim s es v i e =
    let f = follow_all es s s s.part i (record { phase = refl; valid = v; device = refl }) in
    let b = f.phase ∙ breach_lasts s.part es i e in
    (b, disorder (feed s (events es)) f.valid 4 b refl refl refl)

pub no_start : NoStart
unfolding NoStart after part_next byte_taken part_after byted restarted clocked after_byte after_again after_clock
no_start s v e =
    let one = other_eqb s.part.phase 1 0 e refl in
    let two = other_eqb s.part.phase 2 0 e refl in
    let three = other_eqb s.part.phase 3 0 e refl in
    (disorder s v 0 e refl refl refl, (λ b. rw (v, two, one), (rw (v, one), rw (v, three))))

start-begins : (t : State) → state_valid t ≡ true → after t (on start) ≡ state started t.device
unfolding after part_next part_after device_next
start-begins t w = rw w

pub dropped : Dropped
unfolding Dropped
dropped s es v i =
    let f = follow_all es s s s.part i (record { phase = refl; valid = v; device = refl }) in
    start-begins (feed s (events es)) f.valid ∙ ap (state started) f.device

pub every_end : EveryEnd
unfolding EveryEnd EveryOrder Written Read state_valid feed
every_end s es v i = by_order (every_order es i)
  where
    f : Follows s (feed s (events (start ∷ es))) (part_of started es)
    f = follow_all es s (after s (on start)) started i (follow_start s v)

    kept : part_valid s.part ≡ true
    kept = ((and-eq-true_iff (part_valid s.part) (device_valid s.device)).0 v).0

    by_order : Order es (part_of started es).phase → End s es
    by_order (a_write bs e p) = as_write bs e (rw e (written s bs kept))
    by_order (a_turn bs e p) = unfinished bs e (rw e (turn_stopped s bs v))
    by_order (a_read bs b n e p) = as_read bs b n e (rw e (read_claim s bs b n kept).0) (rw e (read_claim s bs b n kept).1)
    by_order (a_breach p) =
        let b = f.phase ∙ p in
        breach b ((disorder (feed s (events (start ∷ es))) f.valid 4 b refl refl refl).two ∙ ap (λ (d : Device). done d 2) f.device)

-- ---- answer 15

called-fifteen : (s : State) (c : Call) → state_valid s ≡ false → (called s c).done ≡ done s.device 15
unfolding called state_valid
called-fifteen s c v =
    either (part_valid s.part) (λ y. rw y (fifteen-left s.device c (rw y at v))) (λ n. rw n)

stopped-fifteen : (s : State) → state_valid s ≡ false → stopped s ≡ done s.device 15
unfolding stopped
stopped-fifteen s v = rw v

pub fifteen : Fifteen
unfolding Fifteen after device_next begin_answer byte_ack byte_sent
fifteen s v = record {
  stays = stays-so;
  begins = rw v;
  nack = λ b. rw v;
  ones = rw v;
  fifteen = stopped-fifteen s v;
  calls = λ c. called-fifteen s c v;
}
  where
    stays-so : (e : Event) → after s (on e) ≡ s
    stays-so start = rw v
    stays-so (byte b) = rw v
    stays-so again = rw v
    stays-so clock = rw v
    stays-so stop = rw v (ap (λ (r : Done). state s.part r.device) (stopped-fifteen s v))
