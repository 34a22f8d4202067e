-- The state of a device (data sheet 1.2): an unpaged part and a list of pages. Every definition takes any number of pages; the shelf device
-- has eight.
-- Assumes nothing.
use Rattle.std.specs.Prelude.{ℕ, Bool, cond, ◌&&◌, ◌||◌, List, map, length, get_or, replicate, ltb}
use Rattle.laws.specs.Lists.{all_of, any_of, any_pair}
use Rattle.page.specs.declared.Page.{Page}
use Rattle.page.specs.Page.{no_page}
use Rattle.page.specs.declared.PageChoice.{PageChoice}
use Rattle.page.specs.Choice.{usual_page, page_granted, chosen_page}
use Rattle.page.specs.Settings.{page_valid}
use Rattle.page.specs.Status.{any, any_status, gains, risen}
use Rattle.unpaged.specs.declared.Unpaged.{Unpaged}
use Rattle.unpaged.specs.Unpaged.{power_on_unpaged, unpaged_valid, with_alert, shown}
use Rattle.device.specs.declared.Device.{Device}
use Rattle.device.specs.declared.Done.{Done}

abbrev pub device : Unpaged → List Page → Device
device u ps = record { unpaged = u; pages = ps }

-- What is chosen at power-on: for each page its formats and limits, and so how many pages there are. What is chosen for the whole device is a
-- field more.
pub record Choice : Type 0 where
  pub pages : List PageChoice

abbrev pub choice : List PageChoice → Choice
choice cs = record { pages = cs }

abbrev pub number_of : Choice → ℕ
number_of x = length x.pages

-- for page i
abbrev pub choice_at : Choice → ℕ → PageChoice
choice_at x i = get_or x.pages i usual_page

-- n pages and nothing else chosen; the shelf device is the case 8
unfoldable pub usual : ℕ → Choice
usual n = record { pages = replicate n usual_page }

-- a device has one to ninety-six pages
unfoldable pub supported : ℕ → Bool
supported n = ltb 0 n && ltb n 97

-- the choices that power-on grants
unfoldable pub granted : Choice → Bool
granted x = supported (number_of x) && all_of page_granted x.pages

-- the device after power-on (data sheet 1.4): its unpaged part, and each page by its choice
unfoldable pub chosen_unpaged : Choice → Unpaged
chosen_unpaged x = power_on_unpaged

unfoldable pub power_on : Choice → Device
power_on x = device (chosen_unpaged x) (map chosen_page x.pages)

-- as many pages, with nothing else chosen
abbrev pub plain : Choice → Choice
plain x = usual (number_of x)

-- Power-on by a choice, with its answer. One that is not granted gets 27 and the device of as many pages with nothing else chosen.
unfoldable pub power_on_by : Choice → Done
power_on_by x = cond (granted x) (record { device = power_on x; answer = 0 }) (record { device = power_on (plain x); answer = 27 })

-- Every other state gets answer 15: PAGE, WRITE_PROTECT, the account, and OPERATION, the responses, the machines and the formats of every page
-- are looked at, and nothing else (data sheet 12.2).
unfoldable pub device_valid : Device → Bool
device_valid d = supported (length d.pages) && unpaged_valid (length d.pages) d.unpaged && all_of page_valid d.pages

-- page i; a call that gets this far has it
abbrev pub page_of : Device → ℕ → Page
page_of d i = get_or d.pages i no_page

-- the page that a read looks at
abbrev pub page_shown : Device → Page
page_shown d = page_of d (shown d.unpaged)

-- some bit of STATUS_CML or of a page's four registers is 1,
abbrev pub standing : Device → Bool
standing d = any_of any_status d.pages || any d.unpaged.cml

-- or was 0 in d and is 1 in e
abbrev pub turned : Device → Device → Bool
turned d e = gains d.unpaged.cml e.unpaged.cml || any_pair risen d.pages e.pages

-- e with the alert that a call leaves which came from d: it rises with a bit that turned (data sheet 8.1),
unfoldable pub alert_risen : Device → Device → Device
alert_risen d e = device (with_alert e.unpaged (d.unpaged.alert || turned d e)) e.pages

-- or, after a clearing, is up exactly while some bit is 1 (data sheet 8.3)
unfoldable pub alert_standing : Device → Device
alert_standing e = device (with_alert e.unpaged (standing e)) e.pages
