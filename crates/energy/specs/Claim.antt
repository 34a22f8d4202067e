-- The energy guarantee (data sheet 15.7) for one account and its totalizer: one claim about every list of events from power-on.
-- Assumes nothing.
use Rattle.std.specs.Prelude.{◌≡◌, ℕ, ◌^◌, true, cond, ◌&&◌, List, [], ◌∷◌, ltb}
use Rattle.totalizer.specs.declared.Taken.{Taken}
use Rattle.energy.specs.Reply.{Copy, intact, changed}
use Rattle.energy.specs.Events.{Entry, took, got, Event, AreEvents, power_on, run}
use Rattle.energy.specs.Tally.{SumAndNumber, tally, is_accepted, up_to, samples_between, in_bounds}

-- the answer that a copy is due where the tally at it is y
unfoldable pub answer_due : Copy → SumAndNumber → ℕ
answer_due (changed s) y = 21
answer_due intact y = cond (ltb y.sum (2 ^ 64) && ltb y.number (2 ^ 64)) 0 24

-- the totals after a copy
abbrev pub totals : Taken → SumAndNumber
totals k = record { sum = k.totalizer.energy; number = k.totalizer.samples }

-- what holds of a copy c with the outcome k, where h is the history up to it and with it
pub record Holds (c : Copy) (k : Taken) (h : List Entry) : Type 0 where
  -- a damaged copy gets 21; an intact one is accepted as long as both numbers of the tally fit 64 bits
  pub answer : k.answer ≡ answer_due c (tally h)
  -- the totals are the tally at the latest accepted copy
  pub total : totals k ≡ tally (up_to is_accepted h)
  -- and the plain sum and number of the samples, where no gap reached a modulus
  pub samples : in_bounds h ≡ true → totals k ≡ samples_between h

-- every copy in a history
unfoldable pub AtEachCopy : List Entry → Type 0
AtEachCopy [] = Unit
AtEachCopy (took n ∷ h) = AtEachCopy h
AtEachCopy (got c k ∷ h) = Holds c k (got c k ∷ h) × AtEachCopy h

-- For every code that the account is read by, every list of samples and reads, and every choice of copies. Crate history says the same of
-- every list of a device's calls.
unfoldable pub Claim : Type 0
Claim = (code : ℕ) (es : List Event) → AreEvents code power_on es → AtEachCopy (run code power_on es).log.history
