-- What a response byte says (data sheet 3.6): action in bits 7 and 6, retries in bits 5 to 3, delay in bits 2 to 0. Every byte says something.
-- Assumes nothing.
use Rattle.std.specs.Prelude.{ℕ, ◌/◌, ◌%◌, Bool, cond, eqb}
use Rattle.retry.specs.declared.Action.{Action}

-- with action 00 the page goes on
abbrev pub action : ℕ → ℕ
action response = response / 64

-- the numbers of the actions that the code has by name
abbrev pub action_number : Action → ℕ
action_number Action.GoOn = 0
action_number Action.WaitFirst = 1
action_number Action.HoldAtOnce = 2
action_number Action.OffWhilePresent = 3

-- action 01: the page goes on for the delay, and is held off if the cause is present then
abbrev pub waits_first : ℕ → Bool
waits_first response = eqb (action response) 1

-- action 10: the page is held off at once
abbrev pub holds_at_once : ℕ → Bool
holds_at_once response = eqb (action response) 2

-- action 11: the page is off for as long as the cause is present
abbrev pub off_while_present : ℕ → Bool
off_while_present response = eqb (action response) 3

-- how often a page that is held off is let on again: never, one to six times, or 7 for ever
abbrev pub retries : ℕ → ℕ
retries response = response / 8 % 8

-- the delay in ticks; 0 counts as 1
unfoldable pub delay : ℕ → ℕ
delay response = cond (eqb (response % 8) 0) 1 (response % 8)
