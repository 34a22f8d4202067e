-- ACK and NACK.
-- Assumes nothing.
use Rattle.std.specs.Prelude.{ℕ, ◌+◌, ◌≤◌, ◌≡◌, ◌↔◌, Bool, true, false, cond, ◌&&◌, List, length, get_or, ltb, eqb}
use Rattle.laws.specs.Lists.{any_of}
use Rattle.command.specs.Table.{Row, table, lookup}
use Rattle.bus.specs.declared.Part.{Part}
use Rattle.bus.specs.Part.{heard, writing, turning}

-- the table has the code (data sheet 3.1)
unfoldable pub known : ℕ → Bool
known code = (lookup code).known

-- behind the bytes s, which are an address byte and a code at least, is still a place for data or packet check
unfoldable pub room_behind : List ℕ → Bool
room_behind s = known (get_or s 1 0) && ltb (length s) ((lookup (get_or s 1 0)).length + 3)

-- the byte b behind the bytes s, before a repeated START
unfoldable pub acked_first : List ℕ → ℕ → Bool
acked_first s b =
    cond (eqb (length s) 0) (eqb b 0xC0)
    (cond (eqb (get_or s 0 0) 0xC0) (cond (eqb (length s) 1) (known b) (room_behind s)) false)

-- the bytes s begin with the address byte and a code of the table, as far as they go
unfoldable pub orderly : List ℕ → Bool
orderly s =
    cond (eqb (length s) 0) true
    (cond (eqb (get_or s 0 0) 0xC0) (cond (eqb (length s) 1) true (known (get_or s 1 0))) false)

-- the second address byte b, after a repeated START behind the bytes s
unfoldable pub acked_second : List ℕ → ℕ → Bool
acked_second s b = orderly s && eqb b 0xC1

-- by the phase: in every other than these two a byte breaks the order
unfoldable pub ack_in : ℕ → List ℕ → ℕ → Bool
ack_in phase s b = cond (eqb phase writing) (acked_first s b) (cond (eqb phase turning) (acked_second s b) false)

abbrev pub ack_of : Part → ℕ → Bool
ack_of p b = ack_in p.phase (heard p) b

-- Who gets NACK, in words. A code is absent where no row of the table is the code's (data sheet 3.1), whatever the row says of it,
unfoldable pub Absent : ℕ → Type 0
Absent code = any_of (λ (r : Row). eqb r.0 code) table ≡ false

-- and that is what the rules above take for one.
unfoldable pub AbsentExactly : Type 0
AbsentExactly = (code : ℕ) → (known code ≡ false) ↔ Absent code

-- The bytes s have a wrong address byte or an absent code;
pub data Wrong (s : List ℕ) : Type 0 where
  wrong_address : 1 ≤ length s → (get_or s 0 0 ≡ 0xC0 → ⊥) → Wrong s
  absent_code : 2 ≤ length s → Absent (get_or s 1 0) → Wrong s

-- before a repeated START: any byte after these, such a byte itself, and every byte past data and packet check,
pub data Refused (s : List ℕ) (b : ℕ) : Type 0 where
  after_wrong : Wrong s → Refused s b
  other_address : length s ≡ 0 → (b ≡ 0xC0 → ⊥) → Refused s b
  other_code : length s ≡ 1 → Absent b → Refused s b
  past_data : 2 ≤ length s → (lookup (get_or s 1 0)).length + 3 ≤ length s → Refused s b

unfoldable pub NackedFirst : Type 0
NackedFirst = (s : List ℕ) (b : ℕ) → (acked_first s b ≡ false) ↔ Refused s b

-- and after it, the second address byte where it is not C1h or comes after these
pub data RefusedSecond (s : List ℕ) (b : ℕ) : Type 0 where
  second_after_wrong : Wrong s → RefusedSecond s b
  other_second : (b ≡ 0xC1 → ⊥) → RefusedSecond s b

unfoldable pub NackedSecond : Type 0
NackedSecond = (s : List ℕ) (b : ℕ) → (acked_second s b ≡ false) ↔ RefusedSecond s b
