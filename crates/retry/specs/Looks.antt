-- When a machine looks at its cause, and what it makes of what it finds (data sheet 7.8, 7.10): said of each state in its own numbers. The
-- byte of k retries and delay d is 80h + 8 k + d with action 10, and 40h + 8 k + d with action 01.
-- Assumes nothing.
use Rattle.std.specs.Prelude.{ℕ, ◌+◌, ◌*◌, ◌≤◌, ◌<◌, ◌≡◌, ◌⊎◌, Bool, true, false, not, List, leb}
use Rattle.retry.specs.Machine.{Machine, rest, waiting, held, trying, tripped, at_rest}
use Rattle.retry.specs.Steps.{Step, tick, call, cause_present, after, run}

-- A look that finds the cause gone, at the last tick of a wait or at the tick after the page was let on, rests the machine: its tries are
-- forgotten, however many were left.
unfoldable pub Gone : Type 0
Gone = (response n : ℕ) → (after response (waiting 1) (tick false) ≡ rest) × (after response (trying n) (tick false) ≡ rest)

-- A machine that starts has all its tries, and so has one whose wait ends in a look that finds the cause present.
unfoldable pub AllTries : Type 0
AllTries =
    (k d : ℕ) (s : Step) → 1 ≤ k → k ≤ 7 → 1 ≤ d → d ≤ 7 → cause_present s ≡ true
    → (after (0x80 + k * 8 + d) rest s ≡ held k d) × (after (0x40 + k * 8 + d) rest s ≡ waiting d)
    × (after (0x40 + k * 8 + d) (waiting 1) (tick true) ≡ held k d)

-- actions 00 and 11 work without the machine
unfoldable pub NoMachine : Type 0
NoMachine = (response : ℕ) (ss : List Step) → (response < 0x40) ⊎ ((0xC0 ≤ response) × (response < 0x100)) → run response rest ss ≡ rest

-- the next tick is a look: one tick of a wait is left, or the page has been let on
abbrev pub looks_next : Machine → Bool
looks_next rest = false
looks_next (waiting t) = leb t 1
looks_next (held n t) = false
looks_next (trying n) = true
looks_next tripped = false

-- Between looks the cause changes nothing of a machine under way: a call that does not put it to rest leaves it as it is, and a tick that is
-- no look does the same to it with the cause present and gone.
unfoldable pub Blind : Type 0
Blind =
    (response : ℕ) (m : Machine) → at_rest m ≡ false
    → ((present : Bool) → after response m (call false present) ≡ m)
    × (looks_next m ≡ false → after response m (tick true) ≡ after response m (tick false))

-- and at a look it decides: the machine rests after it exactly when the cause is gone
unfoldable pub Looks : Type 0
Looks = (response : ℕ) (m : Machine) (present : Bool) → looks_next m ≡ true → at_rest (after response m (tick present)) ≡ not present
