-- Which supplies the firmware keeps switched on.
-- Assumes nothing.
use Rattle.std.specs.Prelude.{ℕ, Bool, false, cond, List, length, get_or, ltb}
use Rattle.page.specs.declared.Page.{Page}
use Rattle.page.specs.Page.{no_page}
use Rattle.page.specs.Status.{supplies}

-- page i supplies; a page that the list does not have is off (data sheet 7.7)
unfoldable pub supplies_at : List Page → ℕ → Bool
supplies_at ps i = cond (ltb i (length ps)) (supplies (get_or ps i no_page)) false
