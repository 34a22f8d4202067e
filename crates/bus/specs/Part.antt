-- What is kept of a transaction while it is under way: no more than eleven bytes and two counts that stop, so that nothing wraps however
-- long the transaction gets.
-- Assumes nothing.
use Rattle.std.specs.Prelude.{ℕ, ◌+◌, min, Bool, cond, ◌&&◌, List, take, set, replicate, ltb}
use Rattle.bus.specs.declared.Part.{Part}

abbrev pub part : ℕ → ℕ → List ℕ → ℕ → List ℕ → Part
part phase count bytes clocked reply = record { phase = phase; count = count; bytes = bytes; clocked = clocked; reply = reply }

-- the phases; Automaton.antt has the picture
abbrev pub idle_phase : ℕ
idle_phase = 0

abbrev pub writing : ℕ
writing = 1

abbrev pub turning : ℕ
turning = 2

abbrev pub reading : ℕ
reading = 3

abbrev pub broken : ℕ
broken = 4

-- Every other part gets answer 15: each number is one that occurs, and the bytes may be any.
unfoldable pub part_valid : Part → Bool
part_valid p = ltb p.phase 5 && ltb p.count 12 && ltb p.clocked 10

-- the bytes kept: the first eleven of those that came
abbrev pub heard : Part → List ℕ
heard p = take (min p.count 11) p.bytes

-- no transaction, and one that has just begun
unfoldable pub idle : Part
idle = part idle_phase 0 (replicate 11 0) 0 (replicate 8 255)

unfoldable pub started : Part
started = part writing 0 (replicate 11 0) 0 (replicate 8 255)

abbrev pub in_phase : Part → ℕ → Part
in_phase p phase = part phase p.count p.bytes p.clocked p.reply

-- with the reply made at the second address byte
abbrev pub answering : Part → List ℕ → Part
answering p reply = part p.phase p.count p.bytes p.clocked reply

-- one more byte; past eleven it is dropped
unfoldable pub taking : Part → ℕ → Part
taking p b =
    cond (ltb p.count 11)
    (part p.phase (p.count + 1) (set p.bytes p.count b) p.clocked p.reply)
    p

-- one more byte clocked; past nine every number is alike
unfoldable pub clocking : Part → Part
clocking p = cond (ltb p.clocked 9) (part p.phase p.count p.bytes (p.clocked + 1) p.reply) p
