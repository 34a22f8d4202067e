-- Where a count of thousandths lies, and which counts lie nowhere (data sheet 19.1, 19.3).
-- Assumes nothing.
use Rattle.std.specs.Prelude.{◌≡◌, true, false, ℤ, Result, MatchResult}
use Rattle.answer.specs.declared.Refusal.{Refusal}
use Rattle.answer.specs.declared.Refusal.TheVariants.{OutOfRange}
use Rattle.signs.specs.Signs.{is_within}
use Rattle.thousandths.specs.Conversion.{target, lowest, highest}
use Rattle.thousandths.specs.declared.rows.Place.{Place}

abbrev pub FindsPlace : ℤ → Result Place Refusal → Type 0
FindsPlace count r =
    MatchResult r
    (λ place. (is_within lowest highest count ≡ true) × (place.value ≡ target count))
    (λ refusal. (is_within lowest highest count ≡ false) × (refusal ≡ OutOfRange))
