-- The eight pages of a buffer: one read, one stored; and the widths of the parts.
-- Assumes nothing.
use Prim.Native.Nat.{ℕ, ◌+◌, ◌*◌, ◌<◌, ◌≤◌}
use mathlib.Core.Path.{◌≡◌, refl, sym, ap, ◌∙◌}
use mathlib.Core.List.{List}
use native.Mathlib.Omega.{arith}
use lib.ListN.{length, get_or, set}
use Rattle.page.specs.declared.Page.{Page}
use Rattle.page.specs.declared.PageChoice.{PageChoice}
use Rattle.layout.specs.Layout.{part_form, account_form, unpaged_form, format_form, page_form, device_form, state_form, pages_in, page_wide, pages_from, size, choice_form, choice_wide, choices_in}
use Rattle.layout.proofs.Laws.{page-back, choice-back}
use Rattle.layout.proofs.Places.{page-local, choice-local, store_length, get_at, array-set}
use Rattle.layout.proofs.Shapes.{Shape, shape_fits, got_shape}

pub wide : page_form.width ≡ page_wide
unfolding page_form format_form
wide = refl

pub unpaged-wide : unpaged_form.width ≡ 12
unfolding unpaged_form account_form
unpaged-wide = refl

pub part-wide : part_form.width ≡ 22
unfolding part_form
part-wide = refl

pub whole_wide : state_form.width ≡ size
unfolding state_form part_form device_form unpaged_form account_form page_form format_form
whole_wide = refl

module _ (s : List ℕ) (k : ℕ) (h : k < 8) where
  place : pages_from + k * page_form.width ≡ pages_from + page_wide * k
  place = rw wide (omega arith)

  pub page-at : (d : Page) → get_or (pages_in s) k d ≡ page_form.get s (pages_from + page_wide * k)
  page-at d = get_at page_form page-back page-local 8 k s pages_from d h ∙ ap (page_form.get s) place

  module _ (l : length s ≡ size) (q : Page) (g : Shape q) where
    room : pages_from + page_wide * k + page_form.width ≤ length s
    room = rw wide (omega arith)

    pub page-set : pages_in (page_form.store s (pages_from + page_wide * k) q) ≡ set (pages_in s) k q
    page-set =
        ap (λ (o : ℕ). pages_in (page_form.store s o q)) (sym place)
        ∙ array-set page_form page-back page-local q (shape_fits q g) 8 k s pages_from h (rw wide (omega arith))

    pub page-length : length (page_form.store s (pages_from + page_wide * k) q) ≡ size
    page-length = store_length page_form page-back s (pages_from + page_wide * k) q (shape_fits q g) room ∙ l

pub choice-wide : choice_form.width ≡ choice_wide
unfolding choice_form format_form
choice-wide = refl

-- choice k of eight
pub choice-at : (s : List ℕ) (k : ℕ) → k < 8 → (d : PageChoice) → get_or (choices_in s) k d ≡ choice_form.get s (choice_wide * k)
choice-at s k h d =
    get_at choice_form choice-back choice-local 8 k s 0 d h ∙ ap (choice_form.get s) (rw choice-wide (omega arith))

-- a page that stands in a buffer has the right lengths
pub page-shape : (s : List ℕ) (k : ℕ) (d : Page) → k < 8 → Shape (get_or (pages_in s) k d)
page-shape s k d h = rw (page-at s k h d) (got_shape s (pages_from + page_wide * k))
