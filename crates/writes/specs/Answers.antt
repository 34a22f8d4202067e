-- The answer of a write (data sheet 11.2), from the number of pages n, the unpaged part u and the bytes s. It is the lowest number that
-- applies, 1 before 2 for a non-empty write: Applies.antt says so a second time, number by number.
-- Assumes nothing.
use Rattle.std.specs.Prelude.{ℕ, ◌-◌, Bool, true, cond, ◌&&◌, ◌||◌, List, length, get_or, take, ltb, leb, eqb}
use Rattle.pec.specs.Pec.{pec}
use Rattle.command.specs.Table.{Entry, lookup}
use Rattle.unpaged.specs.declared.Unpaged.{Unpaged}
use Rattle.writes.specs.declared.asked.Write.{Write}
use Rattle.writes.specs.Asked.{asked, valid_write}

-- the last byte is the packet check of all before it, address byte included (data sheet 2.6)
unfoldable pub check_right : List ℕ → Bool
check_right s = eqb (pec (take (length s - 1) s)) (get_or s (length s - 1) 0)

-- let through at every level: WRITE_PROTECT itself, CLEAR_FAULTS, and the status registers 7Ah to 7Eh
abbrev pub always_permitted : ℕ → Bool
always_permitted code = eqb code 0x10 || eqb code 0x03 || (leb 0x7A code && leb code 0x7E)

-- the codes that a level of WRITE_PROTECT lets through (data sheet 4.1, 4.2): 00h all; 20h also VOUT_COMMAND; 20h and 40h OPERATION and PAGE
unfoldable pub permitted : ℕ → ℕ → Bool
permitted protect code =
    cond (eqb protect 0x00) true
    (cond (eqb protect 0x20) (always_permitted code || (eqb code 0x01 || eqb code 0x00) || eqb code 0x21)
    (cond (eqb protect 0x40) (always_permitted code || (eqb code 0x01 || eqb code 0x00))
    (always_permitted code)))

-- the answer where the form gets r and the data x
abbrev pub by_form : ℕ → ℕ → ℕ
by_form r x = cond (eqb r 0) x r

-- Each definition below goes on where the one above it finds nothing: 8 and 9,
unfoldable pub data_answer : ℕ → Unpaged → ℕ → Write → ℕ
data_answer n u code w = cond (permitted u.protect code) (cond (valid_write n w) 0 9) 8

-- 5, 6 and 7 for a code with k data bytes: fewer, more than k + 1, or k + 1 of which the last is a wrong packet check,
unfoldable pub length_answer : ℕ → Unpaged → List ℕ → ℕ → ℕ → Write → ℕ
length_answer n u s k code w =
    cond (ltb (length s - 2) k) 5
    (cond (eqb (length s - 2) k) (data_answer n u code w)
    (cond (eqb (length s - 2 - k) 1) (cond (check_right s) (data_answer n u code w) 7) 6))

-- 3,
unfoldable pub code_answer : ℕ → Unpaged → List ℕ → Entry → ℕ → Write → ℕ
code_answer n u s e code w = cond e.written (length_answer n u s e.length code w) 3

unfoldable pub addressed_answer : ℕ → Unpaged → List ℕ → ℕ
addressed_answer n u s = code_answer n u s (lookup (get_or s 1 0)) (get_or s 1 0) (asked s)

-- 1 and 2
unfoldable pub write_answer : ℕ → Unpaged → List ℕ → ℕ
write_answer n u s =
    cond (eqb (length s) 0) 2 (cond (eqb (get_or s 0 0) 0xC0) (cond (eqb (length s) 1) 2 (addressed_answer n u s)) 1)
