-- No call changes the formats of a page.
-- Assumes nothing.
use Prim.Native.Nat.{ℕ, ◌<◌}
use mathlib.Core.Path.{◌≡◌, refl, ap, ◌∙◌}
use mathlib.Core.Bool.{Bool}
use mathlib.Core.List.{List}
use Rattle.value.specs.declared.format.Format.{Format}
use Rattle.page.specs.declared.Page.{Page}
use Rattle.page.specs.declared.PageChoice.{PageChoice}
use Rattle.page.specs.Causes.{moved, settled, ticked}
use Rattle.page.specs.Choice.{chosen_page}
use Rattle.device.specs.declared.Device.{Device}
use Rattle.device.specs.Device.{number_of, choice_at, power_on, page_of}
use Rattle.device.specs.Step.{Call}
use Rattle.device.proofs.PowerOn.{powered}
use Rattle.history.specs.Run.{next, Whole}
use Rattle.history.specs.Clearing.{clears}
use Rattle.history.specs.Tripping.{untrips}
use Rattle.history.specs.Retry.{rests}
use Rattle.history.specs.Formats.{FormatsStay}
use Rattle.history.proofs.PageLeft.{PageLeft, kept, touched, timed}
use Rattle.history.proofs.PageAfter.{time_of, page-after}
use Rattle.history.proofs.Runs.{kept-in_runs, same_length}

settled-formats : (p : Page) → (settled p).formats ≡ p.formats
unfolding settled moved
settled-formats p = refl

ticked-formats : (p : Page) → (ticked p).formats ≡ p.formats
unfolding ticked moved
ticked-formats p = refl

chosen_formats : (c : PageChoice) → (chosen_page c).formats ≡ c.formats
unfolding chosen_page
chosen_formats c = refl

left-formats : (p r : Page) (clear : ℕ → ℕ → Bool) (off : Bool) (rest : ℕ → Bool) (time : Bool) → PageLeft p r clear off rest time
    → r.formats ≡ p.formats
left-formats p r clear off rest time (kept e h t) = ap (λ (x : Page). x.formats) e
left-formats p r clear off rest time (touched q e h t) = ap (λ (x : Page). x.formats) e ∙ settled-formats q ∙ h.formats
left-formats p r clear off rest time (timed e h t) = ap (λ (x : Page). x.formats) e ∙ ticked-formats p

-- a device of n pages, of which page i has these formats
record Has (n i : ℕ) (fs : List Format) (d : Device) : Type 0 where
  whole : Whole n d
  page : (page_of d i).formats ≡ fs

module _ (n i : ℕ) (small : i < n) (fs : List Format) where
  has_after : (d : Device) (c : Call) → Has n i fs d → Has n i fs (next d c)
  has_after d c g = record {
    whole = same_length d c ∙ g.whole;
    page = left-formats (page_of d i) (page_of (next d c) i) (clears d c i) (untrips d c i) (rests d c i) (time_of d c)
        (page-after d i (rw g.whole small) c)
        ∙ g.page;
  }

pub formats_stay : FormatsStay
unfolding FormatsStay
formats_stay x cs i small =
    (kept-in_runs (Has (number_of x) i (choice_at x i).formats) (has_after (number_of x) i small (choice_at x i).formats) (power_on x) cs
    (record {
      whole = (powered x).whole;
      page = ap (λ (p : Page). p.formats) ((powered x).page i small) ∙ chosen_formats (choice_at x i);
    })).page
