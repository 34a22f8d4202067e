-- Every list of events after START is a write, a read, the beginning of a read, or a breach of order.
-- Assumes nothing.
use Prim.Native.Nat.{ℕ, zero, suc}
use mathlib.Core.Path.{◌≡◌, refl, ap}
use mathlib.Core.Bool.{false}
use mathlib.Core.List.{List, [], ◌∷◌, ◌++◌, map}
use lib.ListN.{replicate}
use lib.Dec.{eqb}
use borrow.Author.Tests.{eq-eqb}
use Rattle.laws.proofs.Branches.{other_eqb}
use Rattle.bus.specs.declared.Part.{Part}
use Rattle.bus.specs.Part.{writing, turning, reading, broken, started}
use Rattle.bus.specs.Automaton.{Event, start, byte, again, clock, stop, after_byte, after_again, after_clock, byted, restarted, clocked, part_after, part_of}
use Rattle.bus.specs.Orders.{Inner, Order, a_write, a_turn, a_read, a_breach, EveryOrder, OrdersLead, BreachLasts}

-- ---- where each event leads

module _ (p : Part) where
  byte-writing : (b : ℕ) → p.phase ≡ writing → (part_after p (byte b)).phase ≡ writing
  unfolding part_after byted after_byte
  byte-writing b e = rw (eq-eqb _ _ e)

  byte-turning : (b : ℕ) → p.phase ≡ turning → (part_after p (byte b)).phase ≡ reading
  unfolding part_after byted after_byte
  byte-turning b e = rw (other_eqb _ 1 2 e refl, eq-eqb _ _ e)

  byte-reading : (b : ℕ) → p.phase ≡ reading → (part_after p (byte b)).phase ≡ broken
  unfolding part_after byted after_byte
  byte-reading b e = rw (other_eqb _ 1 3 e refl, other_eqb _ 2 3 e refl)

  byte-broken : (b : ℕ) → p.phase ≡ broken → (part_after p (byte b)).phase ≡ broken
  unfolding part_after byted after_byte
  byte-broken b e = rw (other_eqb _ 1 4 e refl, other_eqb _ 2 4 e refl)

  again_writing : p.phase ≡ writing → (part_after p again).phase ≡ turning
  unfolding part_after restarted after_again
  again_writing e = rw (eq-eqb _ _ e)

  again_other : (k : ℕ) → eqb k 1 ≡ false → p.phase ≡ k → (part_after p again).phase ≡ broken
  unfolding part_after restarted after_again
  again_other k n e = rw (other_eqb _ 1 k e n)

  clock_reading : p.phase ≡ reading → (part_after p clock).phase ≡ reading
  unfolding part_after clocked after_clock
  clock_reading e = rw (eq-eqb _ _ e)

  clock_other : (k : ℕ) → eqb k 3 ≡ false → p.phase ≡ k → (part_after p clock).phase ≡ broken
  unfolding part_after clocked after_clock
  clock_other k n e = rw (other_eqb _ 3 k e n)

-- ---- lists of events

lasts : (es : List Event) (p : Part) → Inner es → p.phase ≡ broken → (part_of p es).phase ≡ broken
unfolding part_of
lasts [] p i e = e
lasts (start ∷ es) p i e = absurd i
lasts (byte b ∷ es) p i e = lasts es (part_after p (byte b)) i (byte-broken p b e)
lasts (again ∷ es) p i e = lasts es (part_after p again) i (again_other p 4 refl e)
lasts (clock ∷ es) p i e = lasts es (part_after p clock) i (clock_other p 4 refl e)
lasts (stop ∷ es) p i e = absurd i

-- what may come while the host reads: clocked bytes
data Clocks (es : List Event) (phase : ℕ) : Type 0 where
  clocks : (n : ℕ) → es ≡ replicate n clock → phase ≡ reading → Clocks es phase
  no_clocks : phase ≡ broken → Clocks es phase

one_clock : {es : List Event} {phase : ℕ} → Clocks es phase → Clocks (clock ∷ es) phase
one_clock (clocks n e r) = clocks (suc n) (ap (λ (l : List Event). clock ∷ l) e) r
one_clock (no_clocks b) = no_clocks b

while_reading : (es : List Event) (p : Part) → Inner es → p.phase ≡ reading → Clocks es (part_of p es).phase
unfolding part_of
while_reading [] p i e = clocks 0 refl e
while_reading (start ∷ es) p i e = absurd i
while_reading (byte b ∷ es) p i e = no_clocks (lasts es (part_after p (byte b)) i (byte-reading p b e))
while_reading (again ∷ es) p i e = no_clocks (lasts es (part_after p again) i (again_other p 3 refl e))
while_reading (clock ∷ es) p i e = one_clock (while_reading es (part_after p clock) i (clock_reading p e))
while_reading (stop ∷ es) p i e = absurd i

turned : {es : List Event} {phase : ℕ} (b : ℕ) → Clocks es phase → Order (again ∷ byte b ∷ es) phase
turned b (clocks n e r) = a_read [] b n (ap (λ (l : List Event). again ∷ byte b ∷ l) e) r
turned b (no_clocks r) = a_breach r

while_turning : (es : List Event) (p : Part) → Inner es → p.phase ≡ turning → Order (again ∷ es) (part_of p es).phase
unfolding part_of
while_turning [] p i e = a_turn [] refl e
while_turning (start ∷ es) p i e = absurd i
while_turning (byte b ∷ es) p i e = turned b (while_reading es (part_after p (byte b)) i (byte-turning p b e))
while_turning (again ∷ es) p i e = a_breach (lasts es (part_after p again) i (again_other p 2 refl e))
while_turning (clock ∷ es) p i e = a_breach (lasts es (part_after p clock) i (clock_other p 2 refl e))
while_turning (stop ∷ es) p i e = absurd i

one_byte : {es : List Event} {phase : ℕ} (b : ℕ) → Order es phase → Order (byte b ∷ es) phase
one_byte b (a_write bs e r) = a_write (b ∷ bs) (ap (λ (l : List Event). byte b ∷ l) e) r
one_byte b (a_turn bs e r) = a_turn (b ∷ bs) (ap (λ (l : List Event). byte b ∷ l) e) r
one_byte b (a_read bs c n e r) = a_read (b ∷ bs) c n (ap (λ (l : List Event). byte b ∷ l) e) r
one_byte b (a_breach r) = a_breach r

while_writing : (es : List Event) (p : Part) → Inner es → p.phase ≡ writing → Order es (part_of p es).phase
unfolding part_of
while_writing [] p i e = a_write [] refl e
while_writing (start ∷ es) p i e = absurd i
while_writing (byte b ∷ es) p i e = one_byte b (while_writing es (part_after p (byte b)) i (byte-writing p b e))
while_writing (again ∷ es) p i e = while_turning es (part_after p again) i (again_writing p e)
while_writing (clock ∷ es) p i e = a_breach (lasts es (part_after p clock) i (clock_other p 1 refl e))
while_writing (stop ∷ es) p i e = absurd i

pub every_order : EveryOrder
unfolding EveryOrder started
every_order es i = while_writing es started i refl

pub breach_lasts : BreachLasts
unfolding BreachLasts
breach_lasts p es i e = lasts es p i e

-- ---- the orders themselves

pub of_append : (a b : List Event) (p : Part) → part_of p (a ++ b) ≡ part_of (part_of p a) b
unfolding part_of
of_append [] b p = refl
of_append (e ∷ a) b p = of_append a b (part_after p e)

writes_on : (bs : List ℕ) (p : Part) → p.phase ≡ writing → (part_of p (map byte bs)).phase ≡ writing
unfolding part_of
writes_on [] p e = e
writes_on (b ∷ bs) p e = writes_on bs (part_after p (byte b)) (byte-writing p b e)

clocks_on : (n : ℕ) (p : Part) → p.phase ≡ reading → (part_of p (replicate n clock)).phase ≡ reading
unfolding part_of
clocks_on zero p e = e
clocks_on (suc n) p e = clocks_on n (part_after p clock) (clock_reading p e)

pub orders_lead : OrdersLead
unfolding OrdersLead part_of started
orders_lead bs b n =
    let p = part_of started (map byte bs) in
    let w : p.phase ≡ writing = writes_on bs started refl in
    let t : (part_after p again).phase ≡ turning = again_writing p w in (
      w,
      (
        rw (of_append (map byte bs) (again ∷ []) started) t,
        rw (of_append (map byte bs) (again ∷ byte b ∷ replicate n clock) started)
            (clocks_on n (part_after (part_after p again) (byte b)) (byte-turning (part_after p again) b t)),
      ),
    )
