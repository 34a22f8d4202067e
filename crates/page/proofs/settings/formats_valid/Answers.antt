-- `page::settings::formats_valid` meets its contract.
-- Assumes nothing.
use mathlib.Core.Path.{◌∙◌}
use borrow.Author.Rules.{rules}
use borrow.Author.Tests.{tests}
use Rattle.laws.proofs.Iterators.{all_of-iter}
use Rattle.value.specs.Format.{format_valid}
use Rattle.page.proofs.Written.{three_formats}
use Rattle.page.proofs.settings.formats_valid.Goals as goal

pub returns : goal.returns
returns c =
    all_of-iter format_valid c.args.formats _ _ _ c.all.ensures.ran (λ x q k. search (rules, tests)) (λ x q k. search (rules, tests)) (cc)
    ∙ three_formats c.args.formats (search rules)
