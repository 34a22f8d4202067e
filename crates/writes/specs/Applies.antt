-- When each answer applies to a write, in the words of the answer table: a line for each number. What is permitted and which data are valid
-- is said by the codes themselves and not by the definitions that the chain of Answers.antt uses, so that a slip made there and in the code
-- alike is refused.
-- Assumes nothing.
use Rattle.std.specs.Prelude.{ℕ, ◌+◌, ◌-◌, ◌≡◌, Bool, true, cond, not, ◌&&◌, ◌||◌, List, [], ◌∷◌, length, get_or, take, ltb, eqb}
use Rattle.laws.specs.Lines.{Line, lowest}
use Rattle.laws.specs.Lists.{Bytes}
use Rattle.pec.specs.Pec.{pec}
use Rattle.command.specs.Table.{lookup}
use Rattle.unpaged.specs.declared.Unpaged.{Unpaged}
use Rattle.unpaged.specs.Applies.{is_in}
use Rattle.writes.specs.Answers.{write_answer}

-- the codes that a level of WRITE_PROTECT permits (data sheet 4.1); what is no level is as strict as 80h
abbrev pub codes_at : ℕ → List ℕ
codes_at level =
    cond (eqb level 0x20) (0x10 ∷ 0x01 ∷ 0x00 ∷ 0x21 ∷ [])
    (cond (eqb level 0x40) (0x10 ∷ 0x01 ∷ 0x00 ∷ [])
    (0x10 ∷ []))

-- 00h permits every code, and CLEAR_FAULTS and the status registers 7Ah to 7Eh are permitted at every level (data sheet 4.2)
abbrev pub permitted_at : ℕ → ℕ → Bool
permitted_at level code = eqb level 0x00 || is_in code (0x03 ∷ 0x7A ∷ 0x7B ∷ 0x7C ∷ 0x7D ∷ 0x7E ∷ []) || is_in code (codes_at level)

-- the first data byte x is valid for a code, in a device with n pages; words and the responses of voltages and
-- temperatures may be any (data sheet 3.1, 3.6)
abbrev pub valid_for : ℕ → ℕ → ℕ → Bool
valid_for n code x =
    cond (eqb code 0x00) (ltb x n || eqb x 0xFF)
    (cond (eqb code 0x01) (is_in x (0x00 ∷ 0x40 ∷ 0x80 ∷ []))
    (cond (eqb code 0x10) (is_in x (0x00 ∷ 0x20 ∷ 0x40 ∷ 0x80 ∷ []))
    (cond (eqb code 0x47) (is_in x (0x00 ∷ 0xC0 ∷ []))
    true)))

-- of the bytes s from START to STOP: the code, the number of bytes behind it, and the number of data bytes that the table gives the code
abbrev pub code : List ℕ → ℕ
code s = get_or s 1 0

abbrev pub given : List ℕ → ℕ
given s = length s - 2

abbrev pub due : List ℕ → ℕ
due s = (lookup (code s)).length

-- the answers of a write s, in a device with n pages and the unpaged part u (data sheet 11.2)
abbrev pub write_lines : ℕ → Unpaged → List ℕ → List Line
write_lines n u s =
    (1, not (eqb (length s) 0) && not (eqb (get_or s 0 0) 0xC0))  -- not empty, and the first byte is not C0h
    ∷ (2, eqb (length s) 0 || eqb (length s) 1)  -- no byte, or one
    ∷ (3, not (lookup (code s)).written)  -- the table does not let the code be written
    ∷ (5, ltb (given s) (due s))  -- too few data
    ∷ (6, ltb (due s + 1) (given s))  -- more than data and PEC
    ∷ (7, eqb (given s) (due s + 1) && not (eqb (pec (take (length s - 1) s)) (get_or s (length s - 1) 0)))  -- the last byte is not the PEC of those before it
    ∷ (8, not (permitted_at u.protect (code s)))  -- protected
    ∷ (9, not (valid_for n (code s) (get_or s 2 0)))  -- invalid data
    ∷ []

unfoldable pub AnswersApply : Type 0
AnswersApply = (n : ℕ) (u : Unpaged) (s : List ℕ) → Bytes s → write_answer n u s ≡ lowest (write_lines n u s)
