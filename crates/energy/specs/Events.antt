-- One account and its totalizer through a list of events, and the history of these.
-- Assumes nothing.
use Rattle.std.specs.Prelude.{ℕ, cond, List, [], ◌∷◌, eqb}
use Rattle.account.specs.declared.Account.{Account}
use Rattle.account.specs.Account.{account, sampled}
use Rattle.totalizer.specs.declared.Totalizer.{Totalizer}
use Rattle.totalizer.specs.declared.Taken.{Taken}
use Rattle.totalizer.specs.Totalizer.{fresh_totalizer, totalize}
use Rattle.energy.specs.Reply.{Copy, bytes_of, AreCopies, energy_reply}

-- ---- the totalizer and the history, whatever device the replies come from

-- A sample of this number was taken, or the totalizer got this copy, with this outcome: its answer, and itself afterwards.
pub data Entry : Type 0 where
  took : ℕ → Entry
  got : Copy → Taken → Entry

-- the totalizer as it is, and the history so far, its latest entry first
pub record Log : Type 0 where
  pub totalizer : Totalizer
  pub history : List Entry

abbrev pub fresh_log : Log
fresh_log = record { totalizer = fresh_totalizer; history = [] }

-- a power sample of n with this answer; it was taken where the answer is 0 (data sheet 15.6)
abbrev pub log_sample : Log → ℕ → ℕ → Log
log_sample l n answer =
    record { totalizer = l.totalizer; history = cond (eqb answer 0) (took n ∷ l.history) l.history }

abbrev pub log_outcome : Log → Copy → Taken → Log
log_outcome l c k = record { totalizer = k.totalizer; history = got c k ∷ l.history }

-- the totalizer gets a copy of a reply to a read of the code,
abbrev pub log_copy : ℕ → List ℕ → Log → Copy → Log
log_copy code reply l c = log_outcome l c (totalize code l.totalizer (bytes_of reply c))

-- or several, one after the other
unfoldable pub log_copies : ℕ → List ℕ → Log → List Copy → Log
log_copies code reply l [] = l
log_copies code reply l (c ∷ cs) = log_copies code reply (log_copy code reply l c) cs

-- ---- one account, read by a code

-- A power sample of any number, or a read with the copies of its reply that the totalizer gets, in order and as many as one likes (data sheet
-- 15.6). A copy that comes later makes no difference: the totalizer sees copies alone.
pub data Event : Type 0 where
  sample : ℕ → Event
  read : List Copy → Event

pub record Run : Type 0 where
  pub account : Account
  pub log : Log

abbrev pub step : ℕ → Run → Event → Run
step code r (sample n) = record { account = (sampled r.account n).account; log = log_sample r.log n (sampled r.account n).answer }
step code r (read cs) = record { account = r.account; log = log_copies code (energy_reply code r.account) r.log cs }

unfoldable pub run : ℕ → Run → List Event → Run
run code r [] = r
run code r (e ∷ es) = run code (step code r e) es

abbrev pub power_on : Run
power_on = record { account = account 0 0 0; log = fresh_log }

-- the copies are copies of the reply that was read
abbrev pub IsEvent : ℕ → Run → Event → Type 0
IsEvent code r (sample n) = Unit
IsEvent code r (read cs) = AreCopies (energy_reply code r.account) cs

unfoldable pub AreEvents : ℕ → Run → List Event → Type 0
AreEvents code r [] = Unit
AreEvents code r (e ∷ es) = IsEvent code r e × AreEvents code (step code r e) es
