-- `linear11::scaled` meets its contract: the machine's product is the definition's.
-- Assumes nothing.
use mathlib.Core.Path.{◌≡◌, sym, ap, ap₂, ◌∙◌}
use Prim.Native.Nat.{ℕ, ◌*◌, ◌%◌, ◌/◌, ◌+◌, ◌^◌}
use native.Mathlib.Omega.{arith}
use borrow.Author.Rules.{rules}
use lib.IntN.{ℤ, pos, nat_abs, ◌+ℤ◌, ◌*ℤ◌}
use mir.Syntax.{w64}
use mir.Val.{to_z, of_z}
use mir.ValLaws.{to_z-of_z}
use Rattle.linear11.specs.Linear11.{scaled_of}
use Rattle.linear11.proofs.Range.{shift_is, one_shifted, scaled_fits}
use Rattle.linear11.proofs.scaled.Goals as goal
use Rattle.linear11.proofs.scaled.Goals.{After-exponent-n}

-- the shift's distance
abbrev high : ℕ → ℕ
high word = (word / 2048 + 16) % 32

shift : (c : After-exponent-n) → to_z w64 (of_z w64 c.exponent-n.result) +ℤ pos 16 ≡ pos (high c.args.word)
shift c =
    ap (λ (n : ℤ). n +ℤ pos 16) (to_z-of_z w64 c.exponent-n.result (search rules) ∙ c.exponent-n.ensures)
    ∙ shift_is c.args.word c.ranges.word.fits

-- the product
equal : (c : After-exponent-n)
    → to_z w64 (of_z w64 c.mantissa-y.result)
    *ℤ to_z w64 (1 * 2 ^ of_z w64 (to_z w64 (of_z w64 c.exponent-n.result) +ℤ pos 16) % 2 ^ 64)
    ≡ scaled_of c.args.word
unfolding scaled_of
equal c =
    ap₂ ◌*ℤ◌ (to_z-of_z w64 c.mantissa-y.result (search rules) ∙ c.mantissa-y.ensures)
    (ap (λ (z : ℤ). to_z w64 (1 * 2 ^ of_z w64 z % 2 ^ 64)) (shift c)
    ∙ one_shifted (high c.args.word) (omega arith)
    ∙ ap (λ (z : ℤ). pos (2 ^ nat_abs z)) (sym (shift_is c.args.word c.ranges.word.fits)))

pub mantissa-y-requires : goal.mantissa-y-requires
mantissa-y-requires c = search rules

pub exponent-n-requires : goal.exponent-n-requires
exponent-n-requires c = search rules

pub overflow_add-result : goal.overflow_add-result
overflow_add-result c = rw (shift (goal.at.overflow_add-result c).After-exponent-n) (omega arith)

pub overflow_shl-result : goal.overflow_shl-result
overflow_shl-result c = rw (shift (goal.at.overflow_shl-result c).After-exponent-n) (omega arith)

pub overflow_mul-result : goal.overflow_mul-result
overflow_mul-result c = rw (equal (goal.at.overflow_mul-result c).After-exponent-n) (scaled_fits c.args.word c.ranges.word.fits)

pub returns : goal.returns
returns c = to_z-of_z w64 _ (overflow_mul-result c) ∙ equal (goal.at.returns c).After-exponent-n
