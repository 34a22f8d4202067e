-- Laws of a line's bytes, outcome by outcome, and of the text of an answer as it is stored.
-- Assumes nothing.
use Prim.Native.Nat.{ℕ, ◌+◌, ◌*◌, ◌/◌, ◌%◌, ◌<◌, ◌≤◌}
use mathlib.Core.Path.{◌≡◌, refl, sym, ◌∙◌}
use mathlib.Core.Bool.{true, false, and-false}
use mathlib.Core.List.{List, [], ◌∷◌, map}
use native.Mathlib.Omega.{arith}
use native.Mathlib.Numerals.{add-one}
use lib.ListN.{length, get_or, take, set, length-append}
use lib.Seq.{sets, take-suc, length-take-le}
use borrow.Author.Tests.{le-leb, lt-leb, eq-eqb, ne_eqb}
use Rattle.std.specs.Simd.{first_chunks}
use Rattle.laws.specs.Lists.{all_of}
use Rattle.frame.specs.Hex.{is_digit, pairs, hex_of}
use Rattle.frame.specs.Text.{good_text, bytes_of, answer_text}
use Rattle.frame.proofs.Digits.{two_digits, pair_byte, pairs_digits, pairs_bytes, length-hex, hex_append}
use Rattle.frame.proofs.Storing.{sets_append}

module _ (s : List ℕ) where
  pub too_long : 512 < length s → bytes_of s ≡ []
  unfolding good_text bytes_of
  too_long h = rw (lt-leb (length s) 512 h)

  pub odd : (length s % 2 ≡ 0 → ⊥) → bytes_of s ≡ []
  unfolding good_text bytes_of
  odd k = rw (ne_eqb (length s % 2) 0 k, and-false)

  pub other_character : all_of is_digit s ≡ false → bytes_of s ≡ []
  unfolding good_text bytes_of
  other_character e = rw (e, and-false)

  pub good_text_lem : length s ≤ 512 → length s % 2 ≡ 0 → all_of is_digit s ≡ true → bytes_of s ≡ pairs s
  unfolding good_text bytes_of
  good_text_lem h k e = rw (le-leb (length s) 512 h, eq-eqb (length s % 2) 0 k, e)

-- an even number of characters, pair by pair
module _ (s : List ℕ) (p : List (List ℕ)) (f : p ≡ first_chunks 2 (length s / 2) s) (e : length s % 2 ≡ 0) where
  halves : length s / 2 * 2 ≡ length s
  halves = omega arith

  digits : all_of is_digit s ≡ all_of two_digits p
  digits = rw f (sym (pairs_digits (length s / 2) s halves))

  pub bad_pairs : false ≡ all_of two_digits p → [] ≡ bytes_of s
  bad_pairs h = sym (other_character s (digits ∙ sym h))

  pub good_pairs : length s ≤ 512 → true ≡ all_of two_digits p → map pair_byte p ≡ bytes_of s
  good_pairs l h = rw f (pairs_bytes (length s / 2) s halves) ∙ sym (good_text_lem s l e (digits ∙ sym h))

module _ (answer : ℕ) (reply : List ℕ) where
  pub answer-length : 2 * length reply + 2 + 1 ≡ length (answer_text answer reply)
  unfolding answer_text
  answer-length = omega (arith, length-append (hex_of (answer ∷ reply)) (10 ∷ []), length-hex (answer ∷ reply))

  module _ (o : List ℕ) where
    -- a turn of the loop that stores the digits of a reply behind those of the answer
    pub reply-step : (i : ℕ) → i < length reply
        → sets (sets o 0 (hex_of (answer ∷ take i reply))) (2 * i + 2) (hex_of (get_or reply i 0 ∷ [])) ≡ sets o 0 (hex_of (answer ∷ take (i + 1) reply))
    reply-step i h =
        let e : 0 + length (hex_of (answer ∷ take i reply)) ≡ 2 * i + 2 =
        omega (arith, length-hex (answer ∷ take i reply), length-take-le i reply (omega arith)) in
        rw (add-one, take-suc reply i 0 h, hex_append (answer ∷ take i reply), sets_append) (rw e refl)

    -- answer, reply and LF one after the other are the text
    pub answer-stored : set (sets o 0 (hex_of (answer ∷ reply))) (2 * length reply + 2) 10 ≡ sets o 0 (answer_text answer reply)
    unfolding answer_text
    answer-stored =
        let e : 0 + length (hex_of (answer ∷ reply)) ≡ 2 * length reply + 2 = omega (arith, length-hex (answer ∷ reply)) in
        rw (sets_append o 0 (hex_of (answer ∷ reply)) (10 ∷ []), e)
