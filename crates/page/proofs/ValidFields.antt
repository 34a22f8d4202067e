-- The valid pages, field by field: by the table of causes.
-- Assumes nothing.
use mathlib.Core.Path.{◌≡◌, sym, ◌∙◌}
use mathlib.Core.Bool.{and-true, and_assoc}
use Rattle.retry.specs.Machines.{all_valid}
use Rattle.value.specs.Format.{format_valid}
use Rattle.cause.specs.Causes.{causes, warnings}
use Rattle.page.specs.declared.Page.{Page}
use Rattle.page.specs.Settings.{valid_operation, formats_valid, page_valid}
use Rattle.page.specs.ValidFields.{page_tests, all_hold, SameTested, PageValidByField}

by_tests : (p : Page) → page_valid p ≡ all_hold (page_tests p)
unfolding page_valid valid_operation all_valid formats_valid format_valid causes warnings
by_tests p = simp (and-true, and_assoc)

tested : (p q : Page) → SameTested p q → all_hold (page_tests p) ≡ all_hold (page_tests q)
tested p q e = rw (e.operation, e.current, e.machines, e.formats)

pub page-valid-by_field : PageValidByField
unfolding PageValidByField
page-valid-by_field = record { exactly = by_tests; aside = λ p q e. by_tests p ∙ tested p q e ∙ sym (by_tests q) }
