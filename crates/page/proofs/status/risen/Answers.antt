-- `page::status::risen` meets its contract.
-- Assumes nothing.
use mathlib.Core.Path.{◌≡◌, refl, ◌∙◌}
use mathlib.Core.Bool.{true, false, or-false, or_assoc}
use mathlib.Core.List.{[], ◌∷◌}
use Prim.Native.Nat.{ℕ}
use lib.ListN.{get_or}
use borrow.Author.Rules.{rules}
use borrow.Author.Tests.{tests}
use Rattle.std.proofs.lemmas.Iterator.{cases_from_any, YieldsList-from_range}
use Rattle.laws.proofs.Iterators.{any_of-cases}
use Rattle.page.specs.Status.{gains, risen}
use Rattle.page.proofs.status.risen.Goals as goal

pub returns : goal.returns
unfolding risen
returns c =
    let p = λ (j : ℕ). gains (get_or c.args.p.status j 0) (get_or c.args.q.status j 0) in
    any_of-cases p (0 ∷ 1 ∷ 2 ∷ 3 ∷ []) c.any.result
    (cases_from_any _ _ c.any.result (λ j. p j ≡ true) (λ j. p j ≡ false) c.any.ensures.ran (YieldsList-from_range 0 4 4 refl refl)
    (λ x q k. search (rules, tests)) (λ x q k. search (rules, tests)))
    ∙ simp (or-false, or_assoc)
