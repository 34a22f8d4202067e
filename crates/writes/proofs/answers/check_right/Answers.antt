-- `writes::answers::check_right` meets its contract.
-- Assumes nothing.
use Rattle.std.proofs.Common.{◌≡◌, ℕ, ◌<◌, true, List, [], ◌∷◌, length, refl, arith}
use Rattle.pec.specs.Pec.{pec, pec_from}
use Rattle.writes.specs.Answers.{check_right}
use Rattle.writes.proofs.answers.check_right.Goals as goal

-- the packet check of nothing is 0, and so is the last byte of nothing
empty : (s : List ℕ) → length s < 1 → true ≡ check_right s
unfolding check_right pec pec_from
empty [] h = refl
empty (x ∷ s) h = absurd (omega arith)

pub returns-in-empty : goal.returns-in-empty
returns-in-empty c = empty c.args.s.now c.in-empty.len_below
