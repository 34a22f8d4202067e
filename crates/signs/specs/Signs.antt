-- A whole number by its sign and size, and whether it lies within two ends.
-- Assumes nothing.
use Rattle.std.specs.Prelude.{ℕ, Bool, cond, not, ◌&&◌, ℤ, pos, neg_ℤ}
use Rattle.std.specs.Int.Signed.{lt_z}

abbrev pub with_sign : Bool → ℕ → ℤ
with_sign negative size = cond negative (neg_ℤ (pos size)) (pos size)

-- both ends lie within
abbrev pub is_within : ℤ → ℤ → ℤ → Bool
is_within low high z = not (lt_z z low) && not (lt_z high z)
