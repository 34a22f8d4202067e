-- Answer 15 by fields: the lists of `page` and `unpaged` put together.
-- Assumes nothing.
use mathlib.Core.Path.{◌≡◌, refl, ap₂, ◌∙◌}
use mathlib.Core.Bool.{Bool, ◌&&◌}
use mathlib.Core.List.{List, [], ◌∷◌}
use lib.ListN.{length}
use Rattle.laws.specs.Lists.{all_of}
use Rattle.page.specs.declared.Page.{Page}
use Rattle.page.specs.Settings.{page_valid}
use Rattle.page.specs.ValidFields.{page_tests, all_hold, PageValidByField}
use Rattle.page.proofs.ValidFields.{page-valid-by_field}
use Rattle.unpaged.specs.ValidFields.{UnpagedValidByField}
use Rattle.unpaged.proofs.ValidFields.{unpaged-valid-by_field}
use Rattle.device.specs.Device.{supported, device_valid}
use Rattle.history.specs.Valid.{Fifteen}
use Rattle.history.specs.ValidFields.{FifteenByField}
use Rattle.history.proofs.Valid.{fifteen}

each-page : (ps : List Page) → all_of page_valid ps ≡ all_of (λ p. all_hold (page_tests p)) ps
unfolding PageValidByField
each-page [] = refl
each-page (p ∷ ps) = ap₂ (λ (a b : Bool). a && b) (page-valid-by_field.exactly p) (each-page ps)

pub fifteen-by_field : FifteenByField
unfolding FifteenByField Fifteen device_valid supported UnpagedValidByField
fifteen-by_field d c =
    fifteen d c ∙ rw (unpaged-valid-by_field (length d.pages) d.unpaged, each-page d.pages)
