-- From a count of thousandths to a Linear11 word and back, as it is worked out (data sheet 19.1 to 19.4). What a nearest word is, without
-- saying how it is found, stands in Nearest.antt.
-- A row is the 2048 words of one exponent: row 0 has exponent -16, row 31 has 15. A value, of a word or of a count, is taken times
-- 65,536,000, which makes it whole, and moved up so that the lowest, 7C00h, lies at 0. t is the place of the count.
-- Assumes nothing.
use Rattle.std.specs.Prelude.{ℕ, zero, suc, ◌+◌, ◌*◌, ◌-◌, ◌/◌, ◌%◌, ◌^◌, min, cond, ltb, ℤ, pos, neg_ℤ, nat_abs, ◌+ℤ◌, ◌*ℤ◌, Result, Ok, Err}
use Rattle.std.specs.Int.Signed.{lt_z}
use Rattle.answer.specs.declared.Refusal.{Refusal}
use Rattle.answer.specs.Answer.{number_of}
use Rattle.linear11.specs.Linear11.{scaled_of}
use Rattle.signs.specs.Signs.{with_sign, is_within}
use Rattle.thousandths.specs.declared.Converted.{Converted}
use Rattle.thousandths.specs.declared.rows.Found.{Found}

abbrev pub converted : ℕ → ℕ → Converted
converted answer word = record { answer = answer; word = word }

-- what C sees of a word or of why there is none
abbrev pub converted_of : Result ℕ Refusal → Converted
converted_of (Ok word) = converted 0 word
converted_of (Err refusal) = converted (number_of refusal) 0

-- the step between neighbours of row e
unfoldable pub unit : ℕ → ℕ
unit e = 1000 * 2 ^ e

-- where row e begins, with the mantissa -1024; all is moved up by 33,554,432 times 65,536,000
unfoldable pub start : ℕ → ℕ
start e = 2199023255552000 - 1024 * unit e

-- where the word of row e lies whose mantissa is y - 1024
unfoldable pub spot : ℕ → ℕ → ℕ
spot e y = unit e * y + start e

-- x / u to the nearest whole number, a half down
abbrev pub half_down : ℕ → ℕ → ℕ
half_down u x = (x * 2 + u - 1) / (u * 2)

-- the y of row e's nearest word, kept within the row (data sheet 19.2)
unfoldable pub rounded : ℕ → ℕ → ℕ
rounded t e = min (half_down (unit e) (t - start e)) 2047

-- the word of row e with the mantissa y - 1024
abbrev pub word_at : ℕ → ℕ → ℕ
word_at e y = (e + 16) % 32 * 2048 + (y + 1024) % 2048

abbrev pub distance : ℕ → ℕ → ℕ
distance t p = (p - t) + (t - p)

-- row e's nearest word, and how far off it is
unfoldable pub row_best : ℕ → ℕ → Found
row_best t e = record { word = word_at e (rounded t e); gap = distance t (spot e (rounded t e)) }

-- of two words the first, of the smaller exponent, unless the second is strictly nearer (data sheet 19.2)
unfoldable pub nearer : Found → Found → Found
nearer a b = cond (ltb b.gap a.gap) b a

-- the nearest word of the rows 0 to e
unfoldable pub best : ℕ → ℕ → Found
best t zero = row_best t zero
best t (suc e) = nearer (best t e) (row_best t (suc e))

-- where a count lies
unfoldable pub target : ℤ → ℕ
target count = nat_abs (count +ℤ pos 33554432000) * 65536

-- the thousandths of 7C00h and of 7BFFh
abbrev pub lowest : ℤ
lowest = neg_ℤ (pos 33554432000)

abbrev pub highest : ℤ
highest = pos 33521664000

-- the nearest word, or 25 and word 0000h (data sheet 19.1, 19.3)
unfoldable pub conversion_of : ℤ → Converted
conversion_of count = cond (is_within lowest highest count) (converted 0 (best (target count) 31).word) (converted 25 0)

-- n / 65536 to the nearest whole number, a half up
abbrev pub half_up : ℕ → ℕ
half_up n = (n + 32768) / 65536

-- the same of a signed number, by its size: a half away from zero
abbrev pub rounded_away : ℤ → ℤ
rounded_away z = with_sign (lt_z z (pos 0)) (half_up (nat_abs z))

-- the thousandths of a word (data sheet 19.4)
unfoldable pub thousandths_of : ℕ → ℤ
thousandths_of word = rounded_away (pos 1000 *ℤ scaled_of word)
