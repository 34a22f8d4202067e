-- What a device with any number of pages makes of a transaction that the host built: that command and those data. And what the host makes
-- of the reply (data sheet 18.9, 18.11). `step` is what the calls of the eight-page device do.
-- Assumes nothing.
use Rattle.std.specs.Prelude.{ℕ, ◌≡◌, ◌⊎◌, Bool, true, false, cond, ◌&&◌, List, [], ◌∷◌, ◌++◌, eqb, length, get_or}
use Rattle.pec.specs.Pec.{pec}
use Rattle.account.specs.Account.{ein_bytes}
use Rattle.command.specs.Table.{lookup}
use Rattle.command.specs.Meaning.{command_of}
use Rattle.command.specs.Paged.{paged}
use Rattle.unpaged.specs.Unpaged.{every_page}
use Rattle.writes.specs.declared.asked.Write.{Write}
use Rattle.writes.specs.Asked.{word_of, write_of, asked}
use Rattle.writes.specs.Answers.{data_answer}
use Rattle.reads.specs.Data.{word_bytes, read_data}
use Rattle.device.specs.declared.Device.{Device}
use Rattle.device.specs.declared.Done.{Done}
use Rattle.device.specs.Device.{device_valid, page_shown}
use Rattle.device.specs.Step.{written, refused_device, done, step}
use Rattle.host.specs.declared.parse.Reply.{Reply}
use Rattle.host.specs.Build.{write_frame}
use Rattle.host.specs.Parse.{parsed}
use Rattle.dialogue.specs.Transactions.{Buildable, writing, reading, call_of}

-- ---- writes

-- the write of a command with these data
abbrev pub commanded : ℕ → List ℕ → Write
commanded code bytes = write_of (command_of code) (get_or bytes 0 0) (word_of (get_or bytes 0 0) (get_or bytes 1 0))

-- the answer that the command gets by protection and data alone,
abbrev pub command_answer : Device → ℕ → List ℕ → ℕ
command_answer d code bytes = data_answer (length d.pages) d.unpaged code (commanded code bytes)

-- and what it leaves
abbrev pub command_done : Device → ℕ → List ℕ → Done
command_done d code bytes =
    let a = command_answer d code bytes in
    done (cond (eqb a 0) (written d (commanded code bytes)) (refused_device d a)) a

-- A write that was built asks for that command with those data; its form is right, so that protection (8) and data (9) alone can speak
-- against it; and it does what the command does. With the packet check and without it is the same.
pub record WriteUnderstood (d : Device) (code : ℕ) (bytes : List ℕ) (check : Bool) : Type 0 where
  pub command : asked (write_frame code bytes check) ≡ commanded code bytes
  pub done : (step d (call_of (writing code bytes check))).done ≡ command_done d code bytes
  pub form : (command_answer d code bytes ≡ 0) ⊎ ((command_answer d code bytes ≡ 8) ⊎ (command_answer d code bytes ≡ 9))

unfoldable pub WritesUnderstood : Type 0
WritesUnderstood =
    (d : Device) (code : ℕ) (bytes : List ℕ) (check : Bool) → device_valid d ≡ true → Buildable (writing code bytes check)
    → WriteUnderstood d code bytes check

-- ---- reads

-- a paged code cannot be read where every page is selected
abbrev pub unreadable : Device → ℕ → Bool
unreadable d code = every_page d.unpaged && paged code

-- the data that the device has for a code, of the page that reads show
abbrev pub data_of : Device → ℕ → List ℕ
data_of d code = read_data d.unpaged (page_shown d) (command_of code)

-- A read that was built gets 9 there, and elsewhere 0 and the data, with the packet check where it was asked for.
pub record ReadUnderstood (d : Device) (code : ℕ) (check : Bool) : Type 0 where
  pub done : (step d (call_of (reading code check))).done ≡ cond (unreadable d code) (done (refused_device d 9) 9) (done d 0)
  pub reply : unreadable d code ≡ false
      → (step d (call_of (reading code check))).reply ≡ data_of d code ++ cond check (pec (0xC0 ∷ code ∷ 0xC1 ∷ data_of d code) ∷ []) []

unfoldable pub ReadsUnderstood : Type 0
ReadsUnderstood =
    (d : Device) (code : ℕ) (check : Bool) → device_valid d ≡ true → Buildable (reading code check) → ReadUnderstood d code check

-- ---- replies

-- the bytes of a reply's fields, of a code with k data bytes
abbrev pub field_bytes : ℕ → Reply → List ℕ
field_bytes k r = cond (eqb k 1) (r.byte ∷ []) (cond (eqb k 2) (word_bytes r.word) (ein_bytes r.account))

-- the host accepts the reply and has those data; of 86h the account that the device keeps
pub record Heard (d : Device) (code : ℕ) (r : Reply) : Type 0 where
  pub answer : r.answer ≡ 0
  pub same : field_bytes (lookup code).length r ≡ data_of d code
  pub energy : code ≡ 0x86 → r.account ≡ d.unpaged.energy

unfoldable pub RepliesHeard : Type 0
RepliesHeard =
    (d : Device) (code : ℕ) (check : Bool) → device_valid d ≡ true → Buildable (reading code check) → unreadable d code ≡ false
    → Heard d code (parsed code check (step d (call_of (reading code check))).reply)
