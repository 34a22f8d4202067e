-- `retry::machines::any_trips_now` meets its contract.
-- Assumes nothing.
use mathlib.Core.Path.{refl}
use Prim.Native.Nat.{ℕ}
use mathlib.Core.Bool.{true, false}
use mathlib.Core.Path.{◌≡◌}
use lib.ListN.{get_or}
use borrow.Author.Rules.{rules}
use borrow.Author.Tests.{tests}
use Rattle.std.proofs.lemmas.Iterator.{cases_from_any, YieldsList-from_range}
use Rattle.laws.proofs.Iterators.{any_of-cases}
use Rattle.retry.specs.Byte.{trips_now}
use Rattle.retry.specs.Machines.{numbers, any_trips_now}
use Rattle.retry.proofs.machines.any_trips_now.Goals as goal

pub returns : goal.returns
unfolding any_trips_now
returns c =
    let p = λ (k : ℕ). trips_now (get_or c.args.before k 0) (get_or c.args.after k 0) in
    any_of-cases p numbers c.any.result
    (cases_from_any _ _ c.any.result (λ k. p k ≡ true) (λ k. p k ≡ false) c.any.ensures.ran (YieldsList-from_range 0 6 6 refl refl)
    (λ x q k. search (rules, tests)) (λ x q k. search (rules, tests)))
