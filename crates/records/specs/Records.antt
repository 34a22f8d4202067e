-- What is known of a list of page records before a call begins; one record taken out and put back; the records that choices make.
-- More than 96 records are not looked at (data sheet 16.3).
-- Assumes nothing.
use Rattle.std.specs.Prelude.{ℕ, zero, suc, Bool, cond, ◌&&◌, Option, Some, None, List, [], ◌∷◌, length, get_or, set, ltb}
use Rattle.laws.specs.Lists.{all_of}
use Rattle.page.specs.declared.Page.{Page}
use Rattle.page.specs.declared.PageChoice.{PageChoice}
use Rattle.page.specs.Page.{power_on_page}
use Rattle.page.specs.Choice.{usual_page, chosen_page}
use Rattle.page.specs.Settings.{page_valid}

-- their number, where each is valid; more than 96 are not looked at, and do not count as valid
unfoldable pub counted : ℕ → Bool → Option ℕ
counted n valid = cond (ltb n 97 && valid) (Some n) None

abbrev pub surveyed : List Page → Option ℕ
surveyed ps = counted (length ps) (all_of page_valid ps)

-- record i; past the end, and of more than 96, a page as power-on leaves it
unfoldable pub taken : List Page → ℕ → Page
taken ps i = cond (ltb (length ps) 97) (get_or ps i power_on_page) power_on_page

-- the records with record i set; past the end, and of more than 96, none is
unfoldable pub put_back : List Page → ℕ → Page → List Page
put_back ps i p = cond (ltb (length ps) 97) (set ps i p) ps

-- n records at power-on, each by its own choice; a record without one is the usual page, and choices beyond the records count for nothing
abbrev pub chosen_pages : ℕ → List PageChoice → List Page
chosen_pages zero cs = []
chosen_pages (suc n) [] = chosen_page usual_page ∷ chosen_pages n []
chosen_pages (suc n) (c ∷ cs) = chosen_page c ∷ chosen_pages n cs
