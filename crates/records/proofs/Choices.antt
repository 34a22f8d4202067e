-- The pages of a list of choices.
-- Assumes nothing.
use Prim.Native.Nat.{ℕ, zero, suc}
use mathlib.Core.Path.{◌≡◌, refl, ap}
use mathlib.Core.List.{List, [], ◌∷◌, map}
use lib.ListN.{length, replicate}
use Rattle.page.specs.declared.Page.{Page}
use Rattle.page.specs.declared.PageChoice.{PageChoice}
use Rattle.page.specs.Page.{power_on_page}
use Rattle.page.specs.Choice.{chosen_page}
use Rattle.page.proofs.Chosen.{usual-page}
use Rattle.records.specs.Records.{chosen_pages}

-- as many choices as records: each record by its own
pub all_chosen : (cs : List PageChoice) → chosen_pages (length cs) cs ≡ map chosen_page cs
all_chosen [] = refl
all_chosen (c ∷ cs) = ap (λ (t : List Page). chosen_page c ∷ t) (all_chosen cs)

-- no choice: every record as power-on leaves it
pub none-chosen : (n : ℕ) → chosen_pages n [] ≡ replicate n power_on_page
none-chosen zero = refl
none-chosen (suc n) = rw (usual-page, none-chosen n)
