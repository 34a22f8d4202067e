-- Answer 15 (data sheet 12.2) by fields and numbers: the lists of `page` and `unpaged`, and the number of pages. A field that is not in
-- them may hold anything.
-- Assumes nothing.
use Rattle.std.specs.Prelude.{◌≡◌, not, ◌&&◌, eqb, ltb, length}
use Rattle.laws.specs.Lists.{all_of}
use Rattle.page.specs.ValidFields.{page_tests, all_hold}
use Rattle.unpaged.specs.ValidFields.{unpaged_tests}
use Rattle.device.specs.declared.Device.{Device}
use Rattle.device.specs.Step.{Call}
use Rattle.history.specs.Run.{answer}

-- every call gets it exactly unless the device has 1 to 96 pages, its unpaged part passes every line, and so does each page
unfoldable pub FifteenByField : Type 0
FifteenByField =
    (d : Device) (c : Call)
    → eqb (answer d c) 15
    ≡ not
    (ltb 0 (length d.pages) && ltb (length d.pages) 97 && all_hold (unpaged_tests (length d.pages) d.unpaged)
    && all_of (λ p. all_hold (page_tests p)) d.pages)
