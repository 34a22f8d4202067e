-- The retry machine of one cause (data sheet 7.8): five kinds of state, and what a call and a tick make of each. k and d are the response byte's
-- retries and delay; n are the tries left, the one under way among them, 7 for ever; t are the ticks left.
--
--      rest ------ action 10, n = k -------+
--       |                                  v
--       | action 01                      hold n ------ n = 0 -----> tripped
--       v                                ^ ^ |
--      waiting --- d ticks, n = k -------+ | | n > 0
--                                          | v
--      trying n -- 1 tick, n - 1 ----------+ held n
--         ^        (7 stays 7)                 |
--         +------- d ticks: the page is on ----+
--
-- At the end of its ticks a machine that waits or tries looks whether the cause is present. It is: the machine goes on as drawn. It is gone: the
-- machine rests. At no other tick is the cause looked at.
-- Assumes nothing.
use Rattle.std.specs.Prelude.{ℕ, ◌-◌, Bool, true, false, cond, ◌&&◌, eqb, ltb}
use Rattle.retry.specs.Response.{waits_first, holds_at_once, retries, delay}

pub data Machine : Type 0 where
  -- nothing is under way
  rest : Machine
  -- the page goes on; in t ticks the machine looks whether the cause is present
  waiting : ℕ → Machine
  -- n and t: the page is held off, and is let on in t ticks
  held : ℕ → ℕ → Machine
  -- n: the page is on again; at the next tick the machine looks whether the cause is present
  trying : ℕ → Machine
  -- the machine has tripped its page
  tripped : Machine

-- the page is held off, with n tries left; with none it trips
unfoldable pub hold : ℕ → ℕ → Machine
hold response n = cond (eqb n 0) tripped (held n (delay response))

-- a look at the cause: present, the page is held off; gone, the machine rests and its tries are forgotten
unfoldable pub look : ℕ → Bool → ℕ → Machine
look response present n = cond present (hold response n) rest

-- what a present cause makes of a machine at rest; actions 00 and 11 work without it
unfoldable pub started : ℕ → Machine
started response =
    cond (holds_at_once response) (hold response (retries response))
    (cond (waits_first response) (waiting (delay response)) rest)

-- the tries left when one was in vain; 7 are for ever
unfoldable pub less_one : ℕ → ℕ
less_one n = cond (eqb n 7) 7 (n - 1)

-- The end of a call with answer 0 that is no tick: it starts a machine at rest whose cause is present, and nothing else.
unfoldable pub at_call : ℕ → Bool → Machine → Machine
at_call response present rest = cond present (started response) rest
at_call response present (waiting t) = waiting t
at_call response present (held n t) = held n t
at_call response present (trying n) = trying n
at_call response present tripped = tripped

-- A tick. At rest it is a call like any other.
unfoldable pub at_tick : ℕ → Bool → Machine → Machine
at_tick response present rest = at_call response present rest
at_tick response present (waiting t) = cond (ltb 1 t) (waiting (t - 1)) (look response present (retries response))
at_tick response present (held n t) = cond (ltb 1 t) (held n (t - 1)) (trying n)
at_tick response present (trying n) = look response present (less_one n)
at_tick response present tripped = tripped

-- the machine holds its page off
abbrev pub holds : Machine → Bool
holds rest = false
holds (waiting t) = false
holds (held n t) = true
holds (trying n) = false
holds tripped = false

-- the machine has tripped its page
abbrev pub trips : Machine → Bool
trips rest = false
trips (waiting t) = false
trips (held n t) = false
trips (trying n) = false
trips tripped = true

-- the page is on again, and the machine has not looked yet
abbrev pub tries : Machine → Bool
tries rest = false
tries (waiting t) = false
tries (held n t) = false
tries (trying n) = true
tries tripped = false

abbrev pub at_rest : Machine → Bool
at_rest rest = true
at_rest (waiting t) = false
at_rest (held n t) = false
at_rest (trying n) = false
at_rest tripped = false

-- a step lets the page on: before it the machine holds the page off, after it the machine tries
abbrev pub lets_on : Machine → Machine → Bool
lets_on before after = holds before && tries after
