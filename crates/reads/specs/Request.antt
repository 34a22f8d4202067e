-- What a read asks for, by its header alone.
-- Assumes nothing.
use Rattle.std.specs.Prelude.{ℕ, cond, List, Result, Ok, Err, length, get_or, eqb}
use Rattle.answer.specs.declared.Refusal.{Refusal}
use Rattle.answer.specs.Answer.{number_of}
use Rattle.command.specs.Table.{Entry, lookup}
use Rattle.reads.specs.declared.request.Request.{Request}
use Rattle.reads.specs.declared.request.Request.TheVariants.{Plain, Coefficients}

-- What is asked for, or the number of the answer: 3 where the table does not let the code be read; else the code, and its number of data bytes
unfoldable pub plain_of : Entry → ℕ → Result Request ℕ
plain_of e code = cond e.read (Ok (Plain code e.length)) (Err 3)

-- behind C0h and 30h: a count of two, a code, a direction and C1h (PMBus Part II, 14.1), else 2
unfoldable pub coefficients_of : List ℕ → Result Request ℕ
coefficients_of header =
    cond (eqb (length header) 6)
    (cond (eqb (get_or header 2 0) 2)
    (cond (eqb (get_or header 5 0) 0xC1) (Ok (Coefficients (get_or header 3 0) (get_or header 4 0))) (Err 2))
    (Err 2))
    (Err 2)

-- a header that has not three bytes: that of a process call, by its code
unfoldable pub process_of : List ℕ → ℕ → Result Request ℕ
process_of header code = cond (eqb code 0x30) (coefficients_of header) (Err 2)

-- behind C0h: a code and C1h (data sheet 2.3), or a process call
unfoldable pub addressed_of : List ℕ → ℕ → Result Request ℕ
addressed_of header code =
    cond (eqb (length header) 3) (cond (eqb (get_or header 2 0) 0xC1) (plain_of (lookup code) code) (Err 2)) (process_of header code)

-- 1 for another address byte
unfoldable pub request_of : List ℕ → Result Request ℕ
request_of header =
    cond (eqb (length header) 0) (Err 2)
    (cond (eqb (get_or header 0 0) 0xC0) (addressed_of header (get_or header 1 0)) (Err 1))

-- the number of data bytes
unfoldable pub due_of : Result Request ℕ → ℕ
due_of (Err answer) = 0
due_of (Ok (Plain code k)) = k
due_of (Ok (Coefficients code direction)) = 6

-- the same where a refusal has its name
abbrev pub numbered : Result Request Refusal → Result Request ℕ
numbered (Ok request) = Ok request
numbered (Err refusal) = Err (number_of refusal)
