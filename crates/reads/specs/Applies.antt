-- When each answer applies to a read, in the words of the answer table: a line for each number. A slip made alike in the code and in the
-- chain of Answers.antt is refused.
-- Assumes nothing.
use Rattle.std.specs.Prelude.{ℕ, ◌+◌, ◌≡◌, Bool, cond, not, ◌&&◌, ◌||◌, List, [], ◌∷◌, length, get_or, ltb, eqb}
use Rattle.laws.specs.Lists.{any_of}
use Rattle.laws.specs.Lines.{Line, lowest}
use Rattle.value.specs.declared.format.Format.{Format}
use Rattle.value.specs.Format.{linear_format}
use Rattle.command.specs.Table.{lookup}
use Rattle.command.specs.Paged.{paged}
use Rattle.page.specs.declared.Page.{Page}
use Rattle.unpaged.specs.declared.Unpaged.{Unpaged}
use Rattle.unpaged.specs.Unpaged.{every_page}
use Rattle.unpaged.specs.Applies.{is_in}
use Rattle.reads.specs.Answers.{read_answer}

abbrev pub code : List ℕ → ℕ
code header = get_or header 1 0

-- a plain read is C0h, a code and C1h (data sheet 2.3)
abbrev pub is_plain : List ℕ → Bool
is_plain h = eqb (length h) 3 && eqb (get_or h 0 0) 0xC0 && eqb (get_or h 2 0) 0xC1

-- a process call of COEFFICIENTS is C0h, 30h, 02h, a code, a direction and C1h (PMBus Part II, 14.1)
abbrev pub is_coefficients : List ℕ → Bool
is_coefficients h = eqb (length h) 6 && eqb (get_or h 0 0) 0xC0 && eqb (code h) 0x30 && eqb (get_or h 2 0) 0x02 && eqb (get_or h 5 0) 0xC1

-- the number of data bytes: six of COEFFICIENTS, else what the table says of the code
abbrev pub due : List ℕ → ℕ
due h = cond (is_coefficients h) 6 (lookup (code h)).length

-- the codes that carry IOUT, VIN and temperature: limits, which are written and read, and measured words, which are read
abbrev pub limit_codes : ℕ → List ℕ
limit_codes k = get_or ((0x46 ∷ 0x4A ∷ []) ∷ (0x55 ∷ 0x57 ∷ 0x58 ∷ 0x59 ∷ []) ∷ (0x4F ∷ 0x51 ∷ 0x53 ∷ []) ∷ []) k []

abbrev pub measured_code : ℕ → ℕ
measured_code k = get_or (0x8C ∷ 0x88 ∷ 0x8D ∷ []) k 0

-- code c carries the quantity of format k, and goes in direction d: 01h, to be read, or 00h, to be written
abbrev pub goes : ℕ → ℕ → ℕ → Bool
goes k c d = is_in c (limit_codes k) && (eqb d 0x00 || eqb d 0x01) || eqb c (measured_code k) && eqb d 0x01

-- and that quantity is in DIRECT form on the page
abbrev pub has_them : List Format → ℕ → ℕ → Bool
has_them fs c d = any_of (λ k. (get_or fs k linear_format).direct && goes k c d) (0 ∷ 1 ∷ 2 ∷ [])

-- the answers of a read of n bytes (data sheet 11.3)
abbrev pub read_lines : Unpaged → Page → List ℕ → ℕ → List Line
read_lines u p h n =
    (1, not (eqb (length h) 0) && not (eqb (get_or h 0 0) 0xC0))  -- not empty, and the first byte is not C0h
    ∷ (2, not (is_plain h || is_coefficients h))  -- empty, or of neither form
    ∷ (3, is_plain h && not (lookup (code h)).read)  -- the table does not let the code be read
    ∷ (9, every_page u && paged (code h))  -- every page is selected, and the code is one of a page
    ∷ (9, is_coefficients h && not (has_them p.formats (get_or h 3 0) (get_or h 4 0)))  -- the page has no such coefficients
    ∷ (10, ltb n (due h))  -- n below the data
    ∷ (11, ltb (due h + 1) n)  -- n above data and PEC
    ∷ []

unfoldable pub AnswersApply : Type 0
AnswersApply = (u : Unpaged) (p : Page) (header : List ℕ) (n : ℕ) → read_answer u p header n ≡ lowest (read_lines u p header n)
