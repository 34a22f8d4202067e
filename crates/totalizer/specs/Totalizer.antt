-- The host's totalizer (data sheet 10.1 to 10.7): what one reply does to it.
-- Assumes nothing.
use Rattle.std.specs.Prelude.{ℕ, ◌+◌, ◌-◌, ◌%◌, ◌^◌, Bool, true, false, cond, not, ◌&&◌, ◌||◌, List, ◌==◌, nat_lt, Result, Ok, Err}
use Rattle.answer.specs.declared.Refusal.{Refusal}
use Rattle.answer.specs.Answer.{number_of}
use Rattle.account.specs.declared.Account.{Account}
use Rattle.account.specs.Account.{account, account_valid, energy_reading, account_of}
use Rattle.replies.specs.Replies.{reply_answer}
use Rattle.totalizer.specs.declared.Totalizer.{Totalizer}
use Rattle.totalizer.specs.declared.Taken.{Taken}

abbrev pub totalizer : Bool → Bool → Account → ℕ → ℕ → Totalizer
totalizer s c a e n = record { started = s; closed = c; last = a; energy = e; samples = n }

abbrev pub answered : ℕ → Totalizer → Taken
answered n t = record { totalizer = t; answer = n }

-- the totalizer and the answer number, where a reply to t gives the next totalizer or is refused: 24 sets the closed mark
abbrev pub taken_of : Totalizer → Result Totalizer Refusal → Taken
taken_of t (Ok next) = answered 0 next
taken_of t (Err refusal) =
    answered (number_of refusal) (totalizer t.started (t.closed || number_of refusal == 24) t.last t.energy t.samples)

-- nothing accepted yet, all numbers 0 (data sheet 10.1)
unfoldable pub fresh_totalizer : Totalizer
fresh_totalizer = totalizer false false (account 0 0 0) 0 0

-- how far a number that wraps at m went forward from last to new (data sheet 10.5)
abbrev pub gap : ℕ → ℕ → ℕ → ℕ
gap m last new = (new + m - last) % m

-- the tests of an energy reply, an account's seven data bytes and the packet check: those of every host's replies (data sheet 10.2, 10.3)
abbrev pub energy_answer : ℕ → List ℕ → ℕ
energy_answer code s = reply_answer code 7 true true s

-- the totals with the differences from the account kept (data sheet 10.5)
unfoldable pub next_energy : Totalizer → Account → ℕ
next_energy t a = t.energy + gap 8388608 (energy_reading t.last) (energy_reading a)

unfoldable pub next_samples : Totalizer → Account → ℕ
next_samples t a = t.samples + gap 16777216 t.last.count a.count

-- a total that no longer fits closes the totalizer and changes nothing else (data sheet 10.6)
unfoldable pub added : Totalizer → Account → Taken
added t a =
    cond (nat_lt (next_energy t a) (2 ^ 64) && nat_lt (next_samples t a) (2 ^ 64))
    (answered 0 (totalizer true t.closed a (next_energy t a) (next_samples t a)))
    (answered 24 (totalizer t.started true t.last t.energy t.samples))

-- a reply that passed the tests: 24 to a closed totalizer, a start, or an addition (data sheet 10.4, 10.5, 10.7)
unfoldable pub booked : Totalizer → Account → Taken
booked t a =
    cond t.closed (answered 24 t)
    (cond (not t.started) (answered 0 (totalizer true false a 0 0))
    (added t a))

-- one reply to a read of the code, 86h of READ_EIN (data sheet 10.2, 18.8); a totalizer that is not valid, and a reply that fails a test,
-- leave everything (data sheet 10.3, 12.3)
unfoldable pub totalize : ℕ → Totalizer → List ℕ → Taken
totalize code t s =
    cond (not (account_valid t.last)) (answered 15 t)
    (cond (not (energy_answer code s == 0)) (answered (energy_answer code s) t)
    (booked t (account_of s)))
