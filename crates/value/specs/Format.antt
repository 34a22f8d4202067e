-- The format of a quantity, Linear11 or DIRECT with its coefficients; the value of a word in it, and the exact order of two values, stated
-- once for all pairs of formats.
-- Assumes nothing.
use Rattle.std.specs.Prelude.{ℕ, Result, Ok, Err, ◌+◌, ◌%◌, Bool, false, cond, not, ◌&&◌, ◌||◌, eqb, ltb, ℤ}
use Rattle.answer.specs.Answer.{number_of}
use Rattle.answer.specs.declared.Refusal.{Refusal}
use Rattle.linear11.specs.Linear11.{signed_of, word_order}
use Rattle.std.specs.declared.cmp.Ordering.{Ordering}
use Rattle.std.specs.declared.cmp.Ordering.TheVariants.{Equal}
use Rattle.value.specs.declared.ratio.Ratio.{Ratio}
use Rattle.value.specs.declared.format.Format.{Format}
use Rattle.value.specs.Value.{ratio_order, linear_num, linear_den, direct_num, direct_den}

-- Linear11 words
abbrev pub linear_format : Format
linear_format = record { direct = false; m = 0; b = 0; r = 0 }

-- words and bytes in two's complement
abbrev pub signed_word : ℕ → ℤ
signed_word w = signed_of 32768 w

abbrev pub signed_byte : ℕ → ℤ
signed_byte x = signed_of 128 x

-- the value of a word (data sheet 5.4; PMBus Part II, 7.2.1)
unfoldable pub value_of : Format → ℕ → Ratio
value_of f w =
    cond f.direct
    (record {
      num = direct_num (signed_word w) (signed_word f.m) (signed_word f.b) (signed_byte f.r);
      den = direct_den (signed_word f.m) (signed_byte f.r);
    })
    (record { num = linear_num w; den = linear_den w })

-- the value of word a in format f beside that of word b in format g
unfoldable pub value_order : Format → ℕ → Format → ℕ → Ordering
value_order f a g b = ratio_order (value_of f a) (value_of g b)

-- two words of one quantity
abbrev pub format_order : Format → ℕ → ℕ → Ordering
format_order f a b = value_order f a f b

-- under a DIRECT mark m is not 0 and R is -6 to 6; b, and all coefficients under a linear mark, may be anything
unfoldable pub format_valid : Format → Bool
format_valid f = not f.direct || (not (eqb f.m 0) && (ltb f.r 7 || ltb 249 f.r))

-- an answer, and how the first value stands to the second
pub record Compared : Type 0 where
  pub answer : ℕ
  pub order : Ordering

-- what a comparison gives: an order, or a refusal, and then no order
abbrev pub answer_and_order : Result Ordering Refusal → Compared
answer_and_order (Ok o) = record { answer = 0; order = o }
answer_and_order (Err refusal) = record { answer = number_of refusal; order = Equal }

-- the answer of a comparison: 27 where a format is not valid, and then no order
unfoldable pub comparison : Format → ℕ → Format → ℕ → Compared
comparison f a g b =
    cond (format_valid f)
    (cond (format_valid g) (record { answer = 0; order = value_order f a g b }) (record { answer = 27; order = Equal }))
    (record { answer = 27; order = Equal })

-- A word as a signed number, moved up by 32,768, so that the order of two such numbers is that of the signed ones.
unfoldable pub raised : ℕ → ℕ
raised w = (w + 32768) % 65536

-- DIRECT words that share their coefficients are in the order of their values as they are, or turned round where m is negative: b and R
-- play no part
unfoldable pub direct_order : ℕ → ℕ → ℕ → Ordering
direct_order m a b =
    cond (eqb m 0) Equal (cond (ltb m 32768) (word_order (raised a) (raised b)) (word_order (raised b) (raised a)))
