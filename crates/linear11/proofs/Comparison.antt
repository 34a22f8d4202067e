-- Comparisons are exact.
-- Assumes nothing.
use Rattle.linear11.specs.Comparison.{ComparesExactly}
use Rattle.linear11.proofs.Laws.{linear_below, linear_equal, linear_above, word_below, word-equal, word-above}

pub compares_exactly : ComparesExactly
unfolding ComparesExactly
compares_exactly a b = (
  record { below = linear_below a b; equal = linear_equal a b; above = linear_above a b },
  record { below = word_below a b; equal = word-equal a b; above = word-above a b },
)
