-- The characters of a line as bytes, and an answer as the characters of a line.
-- Assumes nothing.
use Rattle.std.specs.Prelude.{ℕ, ◌%◌, Bool, cond, ◌&&◌, List, [], ◌∷◌, ◌++◌, length, leb, eqb}
use Rattle.laws.specs.Lists.{all_of}
use Rattle.frame.specs.Hex.{is_digit, pairs, hex_of}

-- at most 512 characters, an even number, all of them digits (data sheet 13.4)
unfoldable pub good_text : List ℕ → Bool
good_text s = leb (length s) 512 && eqb (length s % 2) 0 && all_of is_digit s

-- the bytes of a line; a bad one has none, as an empty one has none
unfoldable pub bytes_of : List ℕ → List ℕ
bytes_of s = cond (good_text s) (pairs s) []

-- answer, reply, LF (data sheet 13.3)
unfoldable pub answer_text : ℕ → List ℕ → List ℕ
answer_text answer reply = hex_of (answer ∷ reply) ++ (10 ∷ [])
