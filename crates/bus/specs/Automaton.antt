-- The phases of a transaction.
--
--                          byte                                              clocked byte
--                         +----+                                               +----+
--                         |    v                                               |    v
--   0 idle --- START --> 1 writing -- repeated START --> 2 turning -- byte --> 3 reading
--     ^                   |                                                     |
--     +------- STOP ------+------------------------- STOP ----------------------+
--
--   START leads to 1 from every phase and drops what was under way. STOP leads to 0 from every phase; it ends a write in 1 and a read in 3,
--   and elsewhere it ends nothing orderly. Every event that has no arrow is a breach of order and leads to 4 broken, which only START and STOP
--   leave.
-- Assumes nothing.
use Rattle.std.specs.Prelude.{ℕ, cond, List, [], ◌∷◌, get_or, eqb}
use Rattle.bus.specs.declared.Part.{Part}
use Rattle.bus.specs.Part.{writing, turning, reading, broken, in_phase, taking, clocking, started, idle}

-- what the bus block hands over
pub data Event : Type 0 where
  start : Event
  -- a byte that the host wrote
  byte : ℕ → Event
  -- a repeated START
  again : Event
  -- a byte that the host clocks
  clock : Event
  stop : Event

-- the arrows
unfoldable pub after_byte : ℕ → ℕ
after_byte phase = cond (eqb phase writing) writing (cond (eqb phase turning) reading broken)

unfoldable pub after_again : ℕ → ℕ
after_again phase = cond (eqb phase writing) turning broken

unfoldable pub after_clock : ℕ → ℕ
after_clock phase = cond (eqb phase reading) reading broken

-- what is kept after each event
unfoldable pub byted : Part → ℕ → Part
byted p b = in_phase (taking p b) (after_byte p.phase)

unfoldable pub restarted : Part → Part
restarted p = in_phase p (after_again p.phase)

unfoldable pub clocked : Part → Part
clocked p = in_phase (clocking p) (after_clock p.phase)

unfoldable pub part_after : Part → Event → Part
part_after p start = started
part_after p (byte b) = byted p b
part_after p again = restarted p
part_after p clock = clocked p
part_after p stop = idle

-- what is sent for a clocked byte: the reply, and FFh past its end and everywhere else
unfoldable pub clock_byte : Part → ℕ
clock_byte p = cond (eqb p.phase reading) (get_or p.reply p.clocked 255) 255

-- after a list of events
unfoldable pub part_of : Part → List Event → Part
part_of p [] = p
part_of p (e ∷ es) = part_of (part_after p e) es
