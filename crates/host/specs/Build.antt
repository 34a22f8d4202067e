-- The transactions that a host builds: the bytes of a write, the header and the count of a read, and where they stand in the host's buffer.
-- Assumes nothing.
use Rattle.std.specs.Prelude.{ℕ, ◌+◌, Bool, cond, List, [], ◌∷◌, ◌++◌, ltb, leb, eqb, length, take, drop, Result, Ok, Err}
use Rattle.answer.specs.declared.Refusal.{Refusal}
use Rattle.answer.specs.Answer.{number_of}
use Rattle.pec.specs.Pec.{pec}
use Rattle.command.specs.Table.{Entry, lookup}
use Rattle.replies.specs.Replies.{write_address, read_header, clocked_for}
use Rattle.host.specs.declared.build.Built.{Built}
use Rattle.host.specs.declared.build.Frame.{Frame}

-- ---- the bytes

-- address, code and data of a write,
abbrev pub plain_frame : ℕ → List ℕ → List ℕ
plain_frame code bytes = write_address ∷ code ∷ bytes

-- and the packet check of them all where one is asked for (data sheet 18.2)
unfoldable pub write_frame : ℕ → List ℕ → Bool → List ℕ
write_frame code bytes check = cond check (plain_frame code bytes ++ (pec (plain_frame code bytes) ∷ [])) (plain_frame code bytes)

-- the bytes to clock of a read: data, or data and packet check (data sheet 18.3)
unfoldable pub read_count : ℕ → Bool → ℕ
read_count code check = clocked_for (lookup code).length check

-- ---- the answers, in this order (data sheet 18.4); of the data only the number is looked at

-- 5 and 6 for k data bytes where the table gives n
unfoldable pub number_answer : ℕ → ℕ → ℕ
number_answer k n = cond (ltb k n) 5 (cond (ltb n k) 6 0)

-- 3 for a code that is not written, or not read
abbrev pub row_write_form : Entry → ℕ → ℕ
row_write_form e k = cond e.written (number_answer k e.length) 3

unfoldable pub write_form : ℕ → ℕ → ℕ
write_form code k = row_write_form (lookup code) k

abbrev pub row_read_form : Entry → ℕ
row_read_form e = cond e.read 0 3

unfoldable pub read_form : ℕ → ℕ
read_form code = row_read_form (lookup code)

-- 26 where a frame of n bytes does not fit into `room` bytes from the place on
abbrev pub place_answer : ℕ → ℕ → ℕ → ℕ
place_answer room place n = cond (leb (place + n) room) 0 26

-- ---- what is handed back

abbrev pub built : ℕ → ℕ → ℕ → Built
built answer n count = record { answer = answer; length = n; count = count }

-- of a frame, or of why there is none
abbrev pub built_of : Result Frame Refusal → Built
built_of (Ok frame) = built 0 frame.length frame.count
built_of (Err refusal) = built (number_of refusal) 0 0

-- for a frame of n bytes and a count to clock, where the form gets this answer; both numbers are 0 under a refusal
abbrev pub built_at : ℕ → ℕ → ℕ → ℕ → ℕ → Built
built_at form room place n count =
    cond (eqb form 0) (cond (eqb (place_answer room place n) 0) (built 0 n count) (built (place_answer room place n) 0 0)) (built form 0 0)

abbrev pub write_built : ℕ → ℕ → ℕ → List ℕ → Bool → Built
write_built room place code bytes check =
    built_at (write_form code (length bytes)) room place (length (write_frame code bytes check)) 0

abbrev pub read_built : ℕ → ℕ → ℕ → Bool → Built
read_built room place code check = built_at (read_form code) room place (length (read_header code)) (read_count code check)

-- the buffer afterwards: the frame from the place on, every byte before it and behind it as it was; under a refusal every byte (data sheet
-- 18.5)
abbrev pub placed : Built → List ℕ → ℕ → List ℕ → List ℕ
placed r buffer place frame = cond (eqb r.answer 0) (take place buffer ++ frame ++ drop (place + length frame) buffer) buffer
