-- The neighbouring pages that a write acts on, of eight, where PAGE is x: the number of the first, and the one after the last.
-- Assumes nothing.
use Rattle.std.specs.Prelude.{ℕ, ◌+◌, ◌%◌, cond, eqb}

abbrev pub first_of : ℕ → ℕ
first_of x = cond (eqb x 0xFF) 0 (x % 8)

abbrev pub end_of : ℕ → ℕ
end_of x = cond (eqb x 0xFF) 8 (x % 8 + 1)
