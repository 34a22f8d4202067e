-- What is chosen for a page at power-on: the formats of IOUT, VIN and temperature, and the fault limits of those that are DIRECT.
-- Assumes nothing.
use Rattle.std.specs.Prelude.{ℕ, Bool, cond, List, [], ◌∷◌, map, get_or}
use Rattle.value.specs.Format.{linear_format}
use Rattle.cause.specs.Causes.{Cause, causes, starts_with}
use Rattle.page.specs.declared.Page.{Page}
use Rattle.page.specs.declared.PageChoice.{PageChoice}
use Rattle.page.specs.Page.{is_direct, power_on_page, with_limits, with_formats}
use Rattle.page.specs.Settings.{formats_valid}

-- all linear
abbrev pub usual_page : PageChoice
usual_page = record { formats = linear_format ∷ linear_format ∷ linear_format ∷ []; limits = 0 ∷ 0 ∷ 0 ∷ 0 ∷ 0 ∷ 0 ∷ [] }

-- what stands past the end of a list of choices
abbrev pub no_choice : PageChoice
no_choice = record { formats = []; limits = [] }

-- the choices that power-on grants: under a DIRECT mark the coefficients are valid
unfoldable pub page_granted : PageChoice → Bool
page_granted c = formats_valid c.formats

-- the fault limit of a cause: chosen where its quantity is DIRECT, otherwise that of the table of causes
abbrev pub chosen_limit : PageChoice → Cause → ℕ
chosen_limit c x = cond (is_direct c.formats x.limit.quantity) (get_or c.limits x.limit.number 0) x.power_on_limit

-- all eleven limits: a warning's is that of the fault it warns of
unfoldable pub chosen_limits : PageChoice → List ℕ
chosen_limits c = starts_with (map (chosen_limit c) causes)

-- the page that power-on leaves by a choice
unfoldable pub chosen_page : PageChoice → Page
chosen_page c = with_formats (with_limits power_on_page (chosen_limits c)) c.formats
