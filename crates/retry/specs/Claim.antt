-- What holds of one machine over lists of steps (data sheet 7.8): from its start on while its cause lasts, and whatever the cause does.
-- Assumes nothing.
use Rattle.std.specs.Prelude.{ℕ, ◌+◌, ◌*◌, ◌-◌, ◌%◌, ◌≤◌, ◌<◌, ◌≡◌, ◌↔◌, Bool, true, false, cond, ◌||◌, List, eqb, leb}
use Rattle.laws.specs.Lists.{all_of, any_of}
use Rattle.retry.specs.Response.{waits_first, retries, delay}
use Rattle.retry.specs.Machine.{Machine, rest, tripped, at_call, holds, trips}
use Rattle.retry.specs.Byte.{byte_of, byte_at_call, byte_at_tick, byte_valid}
use Rattle.retry.specs.Steps.{Step, cause_present, rests, after, run, starts, lasts, ticks_in, times_on, under_way}

-- With 1 to 6 retries the page is let on that many times at most, and exactly that many times once 56 ticks have passed.
unfoldable pub LetsOn : Type 0
LetsOn =
    (response : ℕ) (m : Machine) (s : Step) (ss : List Step) → 1 ≤ retries response → retries response ≤ 6
    → starts response m s ≡ true → all_of lasts ss ≡ true
    → (times_on response (after response m s) ss ≤ retries response)
    × (56 ≤ ticks_in ss → times_on response (after response m s) ss ≡ retries response)

-- ---- the very ticks

-- The tick, counted from the start, at which the machine looks for the i-th time after a try, and before all tries for i = 0: with action 01 it
-- waits a delay first, and each try takes a delay and one tick more.
unfoldable pub look_tick : ℕ → ℕ → ℕ
look_tick response i = cond (waits_first response) (delay response) 0 + i * (delay response + 1)

-- it lets its page on one tick earlier
abbrev pub on_tick : ℕ → ℕ → ℕ
on_tick response i = look_tick response i - 1

-- the retries allow an i-th try
abbrev pub allows : ℕ → ℕ → Bool
allows response i = leb i (retries response) || eqb (retries response) 7

-- It has let its page on i times or more exactly when the retries allow as many and the tick of the i-th has come; also with 0 and 7 retries.
unfoldable pub LetsOnAt : Type 0
LetsOnAt =
    (response : ℕ) (m : Machine) (s : Step) (ss : List Step) → starts response m s ≡ true → all_of lasts ss ≡ true → (i : ℕ) → 1 ≤ i
    → (i ≤ times_on response (after response m s) ss) ↔ ((allows response i ≡ true) × (on_tick response i ≤ ticks_in ss))

-- It has tripped its page exactly when its retries are 6 or fewer and the tick of the look after the last has come. With 0 retries and action 10
-- that is tick 0, the start itself.
unfoldable pub TripsAt : Type 0
TripsAt =
    (response : ℕ) (m : Machine) (s : Step) (ss : List Step) → starts response m s ≡ true → all_of lasts ss ≡ true
    → (trips (run response (after response m s) ss) ≡ true)
    ↔ ((retries response ≤ 6) × (look_tick response (retries response) ≤ ticks_in ss))

-- the latest tick of all: 54, for action 01, six retries and delay 7
unfoldable pub Latest : Type 0
Latest = ((response i : ℕ) → i ≤ 6 → on_tick response i ≤ 54) × (on_tick 0x77 6 ≡ 54)

-- ---- whatever the cause does

-- From one rest to the next it lets its page on at most as many times as its retries say, if they are 6 or fewer: after any steps that
-- began at rest, through all steps on which it stays under way. A cause that goes and comes back between looks begins no new count.
unfoldable pub AtMost : Type 0
AtMost =
    (response : ℕ) (before ss : List Step) → retries response ≤ 6 → under_way response (run response rest before) ss ≡ true
    → times_on response (run response rest before) ss ≤ retries response

-- delay 0 counts as 1: a response byte with delay 0 does at every step as the byte after it, which has delay 1
unfoldable pub ZeroAsOne : Type 0
ZeroAsOne = (response : ℕ) (ss : List Step) → response % 8 ≡ 0 → run response rest ss ≡ run (response + 1) rest ss

-- with 7 retries it never trips its page
unfoldable pub ForEver : Type 0
ForEver = (response : ℕ) (ss : List Step) → retries response ≡ 7 → trips (run response rest ss) ≡ false

-- with 0 retries it never holds its page off: it trips it
unfoldable pub NoRetry : Type 0
NoRetry = (response : ℕ) (ss : List Step) → retries response ≡ 0 → holds (run response rest ss) ≡ false

-- once it has tripped its page, nothing but a step that puts it to rest changes it
unfoldable pub StaysTripped : Type 0
StaysTripped = (response : ℕ) (ss : List Step) → any_of rests ss ≡ false → run response tripped ss ≡ tripped

-- a further call that changes nothing of the cause leaves the machine as the step before it did
unfoldable pub UpToDate : Type 0
UpToDate = (response : ℕ) (m : Machine) (s : Step) → at_call response (cause_present s) (after response m s) ≡ after response m s

-- ---- the byte's values

-- every step gives a value of the sixty-five, from any byte
unfoldable pub StaysValid : Type 0
StaysValid =
    (response b : ℕ) (present : Bool) → (byte_valid (byte_at_call response present b) ≡ true) × (byte_valid (byte_at_tick response present b) ≡ true)

-- each of the sixty-five is reached from rest, under some response byte
pub record Occurs (b : ℕ) : Type 0 where
  pub response : ℕ
  pub is_byte : response < 256
  pub steps : List Step
  pub reaches : byte_of (run response rest steps) ≡ b

unfoldable pub ValidOccurs : Type 0
ValidOccurs = (b : ℕ) → byte_valid b ≡ true → Occurs b
