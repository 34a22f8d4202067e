-- The device after power-on, whatever was chosen: all that proofs know of it. Above, no proof unfolds `power_on`, `granted` or `usual`, so that
-- what is chosen more moves the proofs of this file, and none of those.
-- Assumes nothing.
use Prim.Native.Nat.{ℕ, zero, suc, ◌<◌}
use mathlib.Core.Path.{◌≡◌, refl, ap, ap₂, ◌∙◌}
use mathlib.Core.Bool.{Bool, true, false, ◌||◌, and-eq-true_iff, and-true}
use mathlib.Core.List.{List, [], ◌∷◌, map}
use native.Mathlib.Nat.{not-suc-le-zero, le_of_suc-le-suc}
use lib.Dec.{ltb}
use lib.ListN.{length, get_or, replicate, length-map, length-replicate}
use Rattle.laws.specs.Lists.{all_of}
use Rattle.laws.proofs.Lists.{all_replicate}
use Rattle.account.specs.Account.{account, account_valid}
use Rattle.page.specs.Page.{power_on_page, no_page}
use Rattle.page.specs.declared.PageChoice.{PageChoice}
use Rattle.page.specs.Choice.{usual_page, page_granted, chosen_page}
use Rattle.page.specs.Settings.{page_valid}
use Rattle.page.proofs.Settled.{UpToDate}
use Rattle.page.proofs.Chosen.{Sized, usual-page, usual-page-granted, chosen_valid, chosen_current, chosen_sized}
use Rattle.unpaged.specs.Unpaged.{power_on_unpaged, valid_page, valid_protect}
use Rattle.device.specs.declared.Device.{Device}
use Rattle.device.specs.Device.{device, Choice, number_of, choice_at, usual, supported, granted, chosen_unpaged, power_on, device_valid, page_of}
use Rattle.device.proofs.States.{parts_valid}

pages_at : (l : List PageChoice) (i : ℕ) → i < length l → get_or (map chosen_page l) i no_page ≡ chosen_page (get_or l i usual_page)
pages_at [] i h = absurd (not-suc-le-zero h)
pages_at (c ∷ l) zero h = refl
pages_at (c ∷ l) (suc i) h = pages_at l i (le_of_suc-le-suc h)

pages_valid : (l : List PageChoice) → all_of page_valid (map chosen_page l) ≡ all_of page_granted l
pages_valid [] = refl
pages_valid (c ∷ l) = rw (chosen_valid c, pages_valid l)

usual-pages : (n : ℕ) → map chosen_page (replicate n usual_page) ≡ replicate n power_on_page
usual-pages zero = refl
usual-pages (suc n) = rw (usual-page, usual-pages n)

-- ---- the usual choice

pub usual-number : (n : ℕ) → number_of (usual n) ≡ n
unfolding usual
usual-number n = length-replicate n usual_page

pub usual-granted : (n : ℕ) → granted (usual n) ≡ supported n
unfolding granted usual
usual-granted n = rw (length-replicate n usual_page, all_replicate page_granted n usual_page usual-page-granted) (and-true (supported n))

pub usual-unpaged : (n : ℕ) → chosen_unpaged (usual n) ≡ power_on_unpaged
unfolding chosen_unpaged
usual-unpaged n = refl

pub usual-device : (n : ℕ) → power_on (usual n) ≡ device power_on_unpaged (replicate n power_on_page)
unfolding power_on usual
usual-device n = ap₂ device (usual-unpaged n) (usual-pages n)

-- ---- every choice

-- page and unpaged part of the device d after power-on by x
pub record Powered (x : Choice) (d : Device) : Type 0 where
  pub whole : length d.pages ≡ number_of x
  pub page : (i : ℕ) → i < number_of x → page_of d i ≡ chosen_page (choice_at x i)
  pub selected : d.unpaged.page ≡ 0
  pub protect : d.unpaged.protect ≡ 0
  pub cml : d.unpaged.cml ≡ 0
  pub alert : d.unpaged.alert ≡ false
  pub energy : d.unpaged.energy ≡ account 0 0 0

module _ (x : Choice) where
  pub powered : Powered x (power_on x)
  unfolding power_on chosen_unpaged power_on_unpaged
  powered = record {
    whole = length-map x.pages chosen_page;
    page = pages_at x.pages;
    selected = refl;
    protect = refl;
    cml = refl;
    alert = refl;
    energy = refl;
  }

  pub powered-current : (i : ℕ) → i < number_of x → UpToDate (page_of (power_on x) i)
  powered-current i h = rw (powered.page i h) (chosen_current (choice_at x i))

  pub powered-sized : (i : ℕ) → i < number_of x → Sized (page_of (power_on x) i)
  powered-sized i h = rw (powered.page i h) (chosen_sized (choice_at x i))

  module _ (g : granted x ≡ true) where
    pub granted-number : supported (number_of x) ≡ true
    unfolding granted
    granted-number = ((and-eq-true_iff (supported (number_of x)) (all_of page_granted x.pages)).0 g).0

    granted-pages : all_of page_valid (power_on x).pages ≡ true
    unfolding granted power_on
    granted-pages = pages_valid x.pages ∙ ((and-eq-true_iff (supported (number_of x)) (all_of page_granted x.pages)).0 g).1

    pub powered-valid : device_valid (power_on x) ≡ true
    unfolding valid_protect account_valid valid_page supported
    powered-valid =
        let n = number_of x in
        let long = powered.whole in
        parts_valid (power_on x)
        (record {
          number = rw long granted-number;
          page = rw (long, powered.selected) (ap (λ (b : Bool). b || false) ((and-eq-true_iff (ltb 0 n) (ltb n 97)).0 granted-number).0);
          protect = rw powered.protect;
          energy = rw powered.energy;
          pages = granted-pages;
        })
