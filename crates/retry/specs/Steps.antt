-- The calls of a run as one machine meets them, under one response byte.
-- Assumes nothing.
use Rattle.std.specs.Prelude.{ℕ, suc, Bool, true, false, cond, not, ◌&&◌, ◌||◌, List, [], ◌∷◌}
use Rattle.retry.specs.Response.{waits_first, holds_at_once}
use Rattle.retry.specs.Machine.{Machine, rest, at_call, at_tick, at_rest, lets_on}

pub data Step : Type 0 where
  -- a tick; is the cause present
  tick : Bool → Step
  -- any other call; does it first put the machine to rest, and is the cause present at its end
  call : Bool → Bool → Step

abbrev pub is_tick : Step → Bool
is_tick (tick present) = true
is_tick (call rested present) = false

abbrev pub rests : Step → Bool
rests (tick present) = false
rests (call rested present) = rested

abbrev pub cause_present : Step → Bool
cause_present (tick present) = present
cause_present (call rested present) = present

-- the machine after a step, and after a list of steps
unfoldable pub after : ℕ → Machine → Step → Machine
after response m (tick present) = at_tick response present m
after response m (call rested present) = at_call response present (cond rested rest m)

unfoldable pub run : ℕ → Machine → List Step → Machine
run response m [] = m
run response m (s ∷ ss) = run response (after response m s) ss

-- the step starts the machine: at rest or put to rest, it finds the cause present and the action 10 or 01
abbrev pub starts : ℕ → Machine → Step → Bool
starts response m s = cause_present s && (rests s || at_rest m) && (holds_at_once response || waits_first response)

-- the cause lasts: it is present, and the step does not put the machine to rest
abbrev pub lasts : Step → Bool
lasts s = cause_present s && not (rests s)

-- the ticks among the steps
unfoldable pub ticks_in : List Step → ℕ
ticks_in [] = 0
ticks_in (s ∷ ss) = cond (is_tick s) (suc (ticks_in ss)) (ticks_in ss)

-- the times that the machine lets its page on
unfoldable pub times_on : ℕ → Machine → List Step → ℕ
times_on response m [] = 0
times_on response m (s ∷ ss) =
    cond (lets_on m (after response m s)) (suc (times_on response (after response m s) ss)) (times_on response (after response m s) ss)

-- the machine is under way through the steps: none puts it to rest, and after none is it at rest
unfoldable pub under_way : ℕ → Machine → List Step → Bool
under_way response m [] = true
under_way response m (s ∷ ss) = (not (rests s) && not (at_rest (after response m s))) && under_way response (after response m s) ss
