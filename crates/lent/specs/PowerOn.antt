-- Power-on by choices over lent records, by its answer: which answer it gives, and what each leaves (data sheet 16.4).
-- Assumes nothing.
use Rattle.std.specs.Prelude.{ℕ, ◌<◌, ◌≡◌, cond, ◌&&◌, List, eqb, ltb, length, get_or, replicate}
use Rattle.laws.specs.Lists.{all_of}
use Rattle.page.specs.declared.Page.{Page}
use Rattle.page.specs.declared.PageChoice.{PageChoice}
use Rattle.page.specs.Page.{no_page, power_on_page}
use Rattle.page.specs.Choice.{usual_page, page_granted, chosen_page}
use Rattle.unpaged.specs.Unpaged.{power_on_unpaged}
use Rattle.device.specs.declared.Done.{Done}
use Rattle.device.specs.Device.{choice}
use Rattle.lent.specs.Lent.{powered_by}

-- no record or more than ninety-six: 15, before the choices are judged; another number of choices, or one that is not granted: 27; otherwise 0
unfoldable pub power_on_answer : List Page → List PageChoice → ℕ
power_on_answer ps cs =
    cond (ltb 0 (length ps) && ltb (length ps) 97) (cond (eqb (length cs) (length ps) && all_of page_granted cs) 0 27) 15

-- r is what power-on of the records ps by the choices cs leaves
pub record PoweredAs (ps : List Page) (cs : List PageChoice) (r : Done) : Type 0 where
  pub answer : r.answer ≡ power_on_answer ps cs
  -- the fields beside the records are the usual ones, whatever the answer
  pub unpaged : r.device.unpaged ≡ power_on_unpaged
  pub number : length r.device.pages ≡ length ps
  -- 15 touches no record,
  pub fifteen : r.answer ≡ 15 → r.device.pages ≡ ps
  -- 27 leaves every one as power-on without choices does, all linear,
  pub twenty_seven : r.answer ≡ 27 → r.device.pages ≡ replicate (length ps) power_on_page
  -- and 0 leaves each by the choice of its own number
  pub each : r.answer ≡ 0 → (i : ℕ) → i < length ps → get_or r.device.pages i no_page ≡ chosen_page (get_or cs i usual_page)

unfoldable pub PowerOnByLeaves : Type 0
PowerOnByLeaves = (ps : List Page) (cs : List PageChoice) → PoweredAs ps cs (powered_by (choice cs) ps)
