-- When each answer applies to what is built and to a reply, in the words of the answer table and in plain numbers: a slip made alike in the
-- code and in Build.antt or Parse.antt is refused.
-- Assumes nothing.
use Rattle.std.specs.Prelude.{ℕ, ◌+◌, ◌≡◌, Bool, cond, not, List, [], ◌∷◌, ltb, eqb, length}
use Rattle.laws.specs.Lines.{Line, lowest}
use Rattle.command.specs.Table.{lookup}
use Rattle.replies.specs.Applies.{reply_lines}
use Rattle.host.specs.declared.build.Built.{Built}
use Rattle.host.specs.Build.{built, write_built, read_built}
use Rattle.host.specs.Parse.{parse_answer}

-- the number of data bytes that the table gives a code
abbrev pub due : ℕ → ℕ
due code = (lookup code).length

-- the bytes of a write: C0h, the code, the data, and one for a PEC
abbrev pub write_size : List ℕ → Bool → ℕ
write_size bytes check = 2 + length bytes + cond check 1 0

-- the answers of building into `room` bytes from the place on (data sheet 18.4)
abbrev pub write_lines : ℕ → ℕ → ℕ → List ℕ → Bool → List Line
write_lines room place code bytes check =
    (3, not (lookup code).written)  -- the table does not let the code be written
    ∷ (5, ltb (length bytes) (due code))  -- too few data
    ∷ (6, ltb (due code) (length bytes))  -- too many
    ∷ (26, ltb room (place + write_size bytes check))  -- the frame ends behind the buffer
    ∷ []

abbrev pub read_lines : ℕ → ℕ → ℕ → List Line
read_lines room place code =
    (3, not (lookup code).read)  -- the table does not let the code be read
    ∷ (26, ltb room (place + 3))  -- the header ends behind the buffer
    ∷ []

-- what is handed back with an answer: the numbers with 0 alone
abbrev pub given : ℕ → ℕ → ℕ → Built
given answer n count = built answer (cond (eqb answer 0) n 0) (cond (eqb answer 0) count 0)

unfoldable pub WritesApply : Type 0
WritesApply =
    (room place code : ℕ) (bytes : List ℕ) (check : Bool)
    → write_built room place code bytes check ≡ given (lowest (write_lines room place code bytes check)) (write_size bytes check) 0

unfoldable pub ReadsApply : Type 0
ReadsApply =
    (room place code : ℕ) (check : Bool)
    → read_built room place code check ≡ given (lowest (read_lines room place code)) 3 (cond check (due code + 1) (due code))

-- the answers of a reply (data sheet 18.7): 3, then those of its bytes; 86h alone has an account
abbrev pub parse_lines : ℕ → Bool → List ℕ → List Line
parse_lines code check s = (3, not (lookup code).read) ∷ reply_lines code (due code) check (eqb code 0x86) s

unfoldable pub ParsesApply : Type 0
ParsesApply = (code : ℕ) (check : Bool) (s : List ℕ) → parse_answer code check s ≡ lowest (parse_lines code check s)
