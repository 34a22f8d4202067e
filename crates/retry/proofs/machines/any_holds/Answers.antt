-- `retry::machines::any_holds` meets its contract.
-- Assumes nothing.
use mathlib.Core.Path.{◌∙◌}
use Rattle.std.proofs.Common.{rules}
use borrow.Author.Tests.{tests}
use Rattle.laws.proofs.Iterators.{any_of-iter}
use Rattle.retry.specs.Byte.{byte_holds}
use Rattle.retry.specs.Machines.{any_holds}
use Rattle.retry.proofs.Turns.{any-by_number}
use Rattle.retry.proofs.machines.any_holds.Goals as goal

pub returns : goal.returns
unfolding any_holds
returns c =
    any_of-iter byte_holds c.args.machines _ _ _ c.any.ensures.ran (λ x q k. search (rules, tests)) (λ x q k. search (rules, tests)) (cc)
    ∙ any-by_number byte_holds c.args.machines (search rules)
