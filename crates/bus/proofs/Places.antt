-- What an event out of its place gets.
-- Assumes nothing.
use Prim.Native.Nat.{ℕ, zero, suc}
use mathlib.Core.Path.{◌≡◌, refl, ap, ◌∙◌}
use mathlib.Core.Bool.{false}
use mathlib.Core.List.{List, [], ◌∷◌, ◌++◌, map, append_assoc}
use lib.ListN.{replicate}
use lib.Dec.{eqb}
use Rattle.laws.proofs.Branches.{other_eqb}
use Rattle.bus.specs.declared.Part.{Part}
use Rattle.bus.specs.Part.{started, idle}
use Rattle.bus.specs.Automaton.{Event, start, byte, again, clock, stop, after_byte, after_again, after_clock, byted, restarted, clocked, part_after, part_of, clock_byte}
use Rattle.bus.specs.Ack.{ack_in, ack_of}
use Rattle.bus.specs.Orders.{Inner, Order, a_write, a_turn, a_read, a_breach, EveryOrder, BreachLasts}
use Rattle.bus.specs.Places.{Begins, bytes, turn, clocks, Deaf, Refuses, NoArrow}
use Rattle.bus.proofs.Orders.{every_order, breach_lasts}

-- ---- what each phase but those of the orders gives

module _ (p : Part) (k : ℕ) (e : p.phase ≡ k) where
  pub no_ack : eqb k 1 ≡ false → eqb k 2 ≡ false → (b : ℕ) → ack_of p b ≡ false
  unfolding ack_in
  no_ack one two b = rw (other_eqb _ 1 k e one, other_eqb _ 2 k e two)

  pub no_reply : eqb k 3 ≡ false → clock_byte p ≡ 255
  unfolding clock_byte
  no_reply three = rw (other_eqb _ 3 k e three)

  deaf : eqb k 1 ≡ false → eqb k 2 ≡ false → eqb k 3 ≡ false → Deaf p
  deaf one two three = record { nack = no_ack one two; ones = no_reply three }

-- ---- one event more is still the beginning of an order

byte_more : (bs : List ℕ) (b : ℕ) → map byte bs ++ (byte b ∷ []) ≡ map byte (bs ++ b ∷ [])
byte_more [] b = refl
byte_more (c ∷ bs) b = ap (λ (l : List Event). byte c ∷ l) (byte_more bs b)

clock_more : (n : ℕ) → replicate n clock ++ (clock ∷ []) ≡ replicate (suc n) clock
clock_more zero = refl
clock_more (suc n) = ap (λ (l : List Event). clock ∷ l) (clock_more n)

module _ (es : List Event) (bs : List ℕ) where
  pub more_bytes : (b : ℕ) → es ≡ map byte bs → Begins (es ++ byte b ∷ [])
  more_bytes b e = bytes (bs ++ b ∷ []) (rw e (byte_more bs b))

  pub second_address : (b : ℕ) → es ≡ map byte bs ++ (again ∷ []) → Begins (es ++ byte b ∷ [])
  second_address b e = clocks bs b 0 (rw e (append_assoc (map byte bs) (again ∷ []) (byte b ∷ [])))

  pub more-clocks : (b n : ℕ) → es ≡ map byte bs ++ (again ∷ byte b ∷ replicate n clock) → Begins (es ++ clock ∷ [])
  more-clocks b n e =
      clocks bs b (suc n)
      (rw e (append_assoc (map byte bs) (again ∷ byte b ∷ replicate n clock) (clock ∷ [])
      ∙ ap (λ (l : List Event). map byte bs ++ (again ∷ byte b ∷ l)) (clock_more n)))

-- ---- behind START

by_order : (p : Part) (es : List Event) → Order es p.phase → Refuses p es
by_order p es (a_write bs e r) = record {
  nack = λ b out. absurd (out (more_bytes es bs b e));
  ones = λ out. no_reply p 1 r refl;
  broken = λ no. absurd (no (bytes bs e));
}
by_order p es (a_turn bs e r) = record {
  nack = λ b out. absurd (out (second_address es bs b e));
  ones = λ out. no_reply p 2 r refl;
  broken = λ no. absurd (no (turn bs e));
}
by_order p es (a_read bs b n e r) = record {
  nack = λ c out. no_ack p 3 r refl refl c;
  ones = λ out. absurd (out (more-clocks es bs b n e));
  broken = λ no. absurd (no (clocks bs b n e));
}
by_order p es (a_breach r) = record {
  nack = λ b out. no_ack p 4 r refl refl b;
  ones = λ out. no_reply p 4 r refl;
  broken = λ no. deaf p 4 r refl refl refl;
}

-- ---- behind STOP

behind_stop : (es : List Event) → Inner es → Deaf (part_of idle es)
unfolding part_of BreachLasts part_after idle byted restarted clocked after_byte after_again after_clock
behind_stop [] i = deaf idle 0 refl refl refl refl
behind_stop (start ∷ es) i = absurd i
behind_stop (byte b ∷ es) i = deaf (part_of (byted idle b) es) 4 (breach_lasts (byted idle b) es i refl) refl refl refl
behind_stop (again ∷ es) i = deaf (part_of (restarted idle) es) 4 (breach_lasts (restarted idle) es i refl) refl refl refl
behind_stop (clock ∷ es) i = deaf (part_of (clocked idle) es) 4 (breach_lasts (clocked idle) es i refl) refl refl refl
behind_stop (stop ∷ es) i = absurd i

pub no_arrow : NoArrow
unfolding NoArrow EveryOrder part_of part_after
no_arrow p es i = (by_order (part_of started es) es (every_order es i), behind_stop es i)
