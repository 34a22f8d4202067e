-- A page after power-on, whatever was chosen for it: all that proofs know of it.
-- Assumes nothing.
use Prim.Native.Nat.{ℕ, ◌<◌}
use mathlib.Core.Path.{◌≡◌, refl}
use mathlib.Core.Bool.{true, false, false≢true}
use mathlib.Core.List.{[], ◌∷◌}
use lib.ListN.{length, get_or}
use Rattle.laws.proofs.Every.{agree}
use Rattle.value.specs.Format.{format_valid}
use Rattle.retry.specs.Machine.{at_call}
use Rattle.retry.specs.Byte.{byte_of, machine_of, byte_at_call, byte_trips}
use Rattle.retry.specs.Machines.{all_at_call, all_valid, any_trips}
use Rattle.retry.proofs.Side.{Steady}
use Rattle.cause.specs.Causes.{causes, warnings}
use Rattle.page.specs.declared.Page.{Page}
use Rattle.page.specs.Page.{power_on_page}
use Rattle.page.specs.declared.PageChoice.{PageChoice}
use Rattle.page.specs.Choice.{usual_page, page_granted, chosen_limits, chosen_page}
use Rattle.page.specs.Causes.{present_causes, present_warnings, crossed, trips_at_once}
use Rattle.page.specs.Latching.{caused}
use Rattle.page.specs.Settings.{valid_operation, formats_valid, page_valid}
use Rattle.page.specs.Status.{reading}
use Rattle.page.proofs.Settled.{UpToDate, quiet, none-caused, powered-steady}

-- the lists of a page have their lengths
pub record Sized (p : Page) : Type 0 where
  pub limits : length p.limits ≡ 11
  pub responses : length p.responses ≡ 6
  pub words : length p.words ≡ 4
  pub measured : length p.measured ≡ 4

pub usual-page : chosen_page usual_page ≡ power_on_page
unfolding chosen_page chosen_limits power_on_page causes warnings
usual-page = refl

pub usual-page-granted : page_granted usual_page ≡ true
unfolding page_granted formats_valid format_valid
usual-page-granted = refl

module _ (c : PageChoice) where
  pub chosen_valid : page_valid (chosen_page c) ≡ page_granted c
  unfolding chosen_page page_granted page_valid power_on_page valid_operation all_valid causes warnings
  chosen_valid = refl

  chosen_quiet : (j k : ℕ) → caused (chosen_page c) j k ≡ false
  unfolding chosen_page present_causes present_warnings crossed power_on_page causes warnings
  chosen_quiet = quiet (chosen_page c) refl refl

  chosen_steady : (k : ℕ) → k < 6 → Steady (get_or (chosen_page c).responses k 0) (get_or (chosen_page c).machines k 0)
  unfolding chosen_page
  chosen_steady k h = powered-steady k h

  pub chosen_current : UpToDate (chosen_page c)
  unfolding chosen_page power_on_page trips_at_once any_trips all_at_call byte_at_call byte_of machine_of at_call byte_trips present_causes crossed causes warnings
  chosen_current = record {
    latched = λ j k h e. none-caused (chosen_page c) chosen_quiet j k e;
    tripped = λ e. absurd (false≢true e);
    begun = refl;
    steady = chosen_steady;
  }

  pub chosen_sized : Sized (chosen_page c)
  unfolding chosen_page chosen_limits power_on_page causes warnings
  chosen_sized = record { limits = refl; responses = refl; words = refl; measured = refl }

  pub chosen_reading : (q : ℕ) → q < 4 → reading (chosen_page c) q ≡ 0
  unfolding chosen_page power_on_page reading
  chosen_reading q few = agree (λ q. reading (chosen_page c) q) (λ q. 0) 4 tt q few

  pub chosen_status : (chosen_page c).status ≡ 0 ∷ 0 ∷ 0 ∷ 0 ∷ []
  unfolding chosen_page power_on_page
  chosen_status = refl
