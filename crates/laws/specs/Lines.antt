-- Answers as a table: a line for each number, and the lowest one that applies is given (data sheet 11.1).
-- Assumes nothing.
use Rattle.std.specs.Prelude.{ℕ, Bool, cond, List, [], ◌∷◌}

-- a number, and whether it applies
abbrev pub Line : Type 0
Line = ℕ × Bool

-- of lines with rising numbers the first that applies, which is the lowest; 0 where none does
abbrev pub lowest : List Line → ℕ
lowest [] = 0
lowest (l ∷ ls) = cond l.1 l.0 (lowest ls)
