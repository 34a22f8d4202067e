-- A write where every page is selected changes each page, and raises the alert with the bits of any.
-- Assumes nothing.
use mathlib.Core.Path.{◌≡◌, refl, sym}
use mathlib.Core.Bool.{true, cond, ◌||◌, or-true}
use mathlib.Core.List.{List, map}
use lib.Dec.{eqb}
use Rattle.laws.specs.Lists.{any_of, map_at, any_pair}
use Rattle.laws.proofs.Sweeps.{map-every}
use Rattle.page.specs.declared.Page.{Page}
use Rattle.page.specs.Status.{any, any_status, risen}
use Rattle.unpaged.specs.declared.Unpaged.{Unpaged}
use Rattle.unpaged.specs.Unpaged.{every_page, acts_on, with_alert}
use Rattle.writes.specs.declared.asked.Write.{Write}
use Rattle.writes.specs.Left.{page_left, unpaged_left, clearing}
use Rattle.device.specs.declared.Device.{Device}
use Rattle.device.specs.Device.{device}
use Rattle.device.specs.Step.{written}
use Rattle.device.proofs.Written.{all_written}

module _ (d : Device) (w : Write) (every : every_page d.unpaged ≡ true) where
  abbrev v : Unpaged
  v = unpaged_left w d.unpaged

  abbrev qs : List Page
  qs = map (page_left w) d.pages

  all_pages : map_at (acts_on d.unpaged) (page_left w) d.pages ≡ qs
  unfolding acts_on
  all_pages = map-every (acts_on d.unpaged) (page_left w) d.pages (λ i. rw every (or-true (eqb i d.unpaged.page)))

  pub every-written :
      device (with_alert v (cond (clearing w) (any_of any_status qs || any v.cml) (v.alert || any_pair risen d.pages qs))) qs ≡ written d w
  every-written = all_written d w qs (any_pair risen d.pages qs) (sym all_pages) refl
