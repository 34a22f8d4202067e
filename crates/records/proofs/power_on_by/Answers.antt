-- `records::power_on_by` meets its contract.
-- Assumes nothing.
use Rattle.std.proofs.Common.{◌≡◌, ℕ, zero, suc, ◌+◌, ◌<◌, List, [], ◌∷◌, ◌++◌, length, get_or, take, set, refl, sym, ap, ◌∙◌, add-one, arith}
use Rattle.std.proofs.Math.Seq.{take-suc-set}
use Rattle.page.specs.declared.Page.{Page}
use Rattle.page.specs.declared.PageChoice.{PageChoice}
use Rattle.page.specs.Choice.{usual_page, chosen_page}
use Rattle.records.specs.Records.{chosen_pages}
use Rattle.records.proofs.power_on_by.Goals as goal

-- one more page
chosen_more : (i : ℕ) (cs : List PageChoice) → chosen_pages (suc i) cs ≡ chosen_pages i cs ++ (chosen_page (get_or cs i usual_page) ∷ [])
chosen_more zero [] = refl
chosen_more zero (c ∷ cs) = refl
chosen_more (suc i) [] = ap (λ (t : List Page). chosen_page usual_page ∷ t) (chosen_more i [])
chosen_more (suc i) (c ∷ cs) = ap (λ (t : List Page). chosen_page c ∷ t) (chosen_more i cs)

-- the first i records are set: one more is
step : (cs : List PageChoice) (c : PageChoice) (p : Page) (l : List Page) (i : ℕ) → i < length l → c ≡ get_or cs i usual_page → p ≡ chosen_page c → take i l ≡ chosen_pages i cs → take (i + 1) (set l i p) ≡ chosen_pages (i + 1) cs
step cs c p l i h ec ep inv =
    ap (λ (k : ℕ). take k (set l i p)) (add-one i) ∙ take-suc-set l i p h ∙ (rw (inv, ep, ec) (sym (chosen_more i cs))) ∙ ap (λ (k : ℕ). chosen_pages k cs) (sym (add-one i))

pub loop-i-preserved : goal.loop-i-preserved
loop-i-preserved c =
    step c.args.choices.now c.choice_at.result c.chosen_page.result c.loop-i.pages c.loop-i.i (omega arith) c.choice_at.ensures c.chosen_page.ensures c.loop-i.invariant
