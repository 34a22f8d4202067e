-- The transactions that a host can ask for, and the calls of the device that they become: each of the one becomes one of the other, and
-- each of the other comes from exactly one (data sheet 18.10).
-- Assumes nothing.
use Rattle.std.specs.Prelude.{ℕ, ◌+◌, ◌≡◌, ◌⊎◌, Bool, true, false, List, [], ◌∷◌, ltb, length, get_or, take, drop}
use Rattle.laws.specs.Lists.{Bytes}
use Rattle.command.specs.Table.{lookup}
use Rattle.writes.specs.Accepted.{WellFormed}
use Rattle.device.specs.Step.{Call, write, read, measure, sample, alert_response, tick}
use Rattle.replies.specs.Replies.{read_header}
use Rattle.host.specs.Build.{write_frame, read_count, write_form, read_form}

-- a write: code, data, with or without the packet check; a read: code, with or without it
pub data Transaction : Type 0 where
  writing : ℕ → List ℕ → Bool → Transaction
  reading : ℕ → Bool → Transaction

-- the host builds it: given room it answers 0
unfoldable pub Buildable : Transaction → Type 0
Buildable (writing code bytes check) = Bytes (code ∷ bytes) × (write_form code (length bytes) ≡ 0)
Buildable (reading code check) = Bytes (code ∷ []) × (read_form code ≡ 0)

-- as a call of the device
unfoldable pub call_of : Transaction → Call
call_of (writing code bytes check) = write (write_frame code bytes check)
call_of (reading code check) = read (read_header code) (read_count code check)

-- a read that is clocked as the table says: C0h, a code that is read, C1h; and its data, or data and packet check
pub record ClockedRead (header : List ℕ) (n : ℕ) : Type 0 where
  pub header_form : header ≡ 0xC0 ∷ get_or header 1 0 ∷ 0xC1 ∷ []
  pub code_read : (lookup (get_or header 1 0)).read ≡ true
  pub clocked : (n ≡ (lookup (get_or header 1 0)).length) ⊎ (n ≡ (lookup (get_or header 1 0)).length + 1)

-- the calls that a host means: well-formed writes (data sheet 2.8) and such reads, of bytes
unfoldable pub Meant : Call → Type 0
Meant (write s) = Bytes s × WellFormed s
Meant (read header n) = Bytes header × ClockedRead header n
Meant (measure page quantity word) = ⊥
Meant (sample n) = ⊥
Meant (alert_response n) = ⊥
Meant tick = ⊥

-- every transaction that is built is meant,
unfoldable pub AllMeant : Type 0
AllMeant = (t : Transaction) → Buildable t → Meant (call_of t)

-- and every call that is meant comes from one transaction and no other: the one that has its code, the data that the table gives the code,
-- and the packet check where a byte is left
abbrev pub back : Call → Transaction
back (write s) =
    writing (get_or s 1 0) (take (lookup (get_or s 1 0)).length (drop 2 s)) (ltb (2 + (lookup (get_or s 1 0)).length) (length s))
back (read header n) = reading (get_or header 1 0) (ltb (lookup (get_or header 1 0)).length n)
back (measure page quantity word) = reading 0 false
back (sample n) = reading 0 false
back (alert_response n) = reading 0 false
back tick = reading 0 false

pub record BuiltBy (c : Call) (t : Transaction) : Type 0 where
  pub buildable : Buildable t
  pub builds : call_of t ≡ c
  pub only : (u : Transaction) → Buildable u → call_of u ≡ c → u ≡ t

unfoldable pub ExactlyOne : Type 0
ExactlyOne = (c : Call) → Meant c → BuiltBy c (back c)
