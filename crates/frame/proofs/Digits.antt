-- Laws of hexadecimal digits: pairs of them, and the digits of a row of bytes.
-- Assumes nothing.
use Prim.Native.Nat.{ℕ, zero, suc, ◌*◌}
use mathlib.Core.Path.{◌≡◌, refl, ap₂, ◌∙◌}
use mathlib.Core.Bool.{Bool, ◌&&◌, and_assoc}
use mathlib.Core.List.{List, [], ◌∷◌, ◌++◌, map}
use native.Mathlib.Omega.{arith}
use lib.ListN.{length, get_or}
use Rattle.std.specs.Simd.{first_chunks}
use Rattle.laws.specs.Lists.{all_of}
use Rattle.frame.specs.Hex.{is_digit, byte_of, pairs, hex_of}

-- a pair of characters: both are digits, and the byte of the two
abbrev pub two_digits : List ℕ → Bool
two_digits c = is_digit (get_or c 0 0) && is_digit (get_or c 1 0)

abbrev pub pair_byte : List ℕ → ℕ
pair_byte c = byte_of (get_or c 0 0) (get_or c 1 0)

-- a row of an even number of characters, pair by pair
pub pairs_digits : (k : ℕ) (s : List ℕ) → k * 2 ≡ length s → all_of two_digits (first_chunks 2 k s) ≡ all_of is_digit s
pairs_digits zero [] e = refl
pairs_digits zero (h ∷ s) e = absurd (omega arith)
pairs_digits (suc k) [] e = absurd (omega arith)
pairs_digits (suc k) (h ∷ []) e = absurd (omega arith)
pairs_digits (suc k) (h ∷ l ∷ s) e =
    and_assoc (is_digit h) (is_digit l) (all_of two_digits (first_chunks 2 k s))
    ∙ ap₂ (λ (a b : Bool). a && (is_digit l && b)) refl (pairs_digits k s (omega arith))

pub pairs_bytes : (k : ℕ) (s : List ℕ) → k * 2 ≡ length s → map pair_byte (first_chunks 2 k s) ≡ pairs s
unfolding pairs
pairs_bytes zero [] e = refl
pairs_bytes zero (h ∷ s) e = absurd (omega arith)
pairs_bytes (suc k) [] e = absurd (omega arith)
pairs_bytes (suc k) (h ∷ []) e = absurd (omega arith)
pairs_bytes (suc k) (h ∷ l ∷ s) e = rw (pairs_bytes k s (omega arith))

-- two digits for a byte
pub length-hex : (s : List ℕ) → length (hex_of s) ≡ 2 * length s
unfolding hex_of
length-hex [] = refl
length-hex (b ∷ s) = let e = length-hex s in omega arith

pub hex_append : (s t : List ℕ) → hex_of (s ++ t) ≡ hex_of s ++ hex_of t
unfolding hex_of
hex_append [] t = refl
hex_append (b ∷ s) t = rw (hex_append s t)
