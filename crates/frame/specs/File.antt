-- A whole frame file (data sheet 13.1), and what the bench program writes for it.
-- Assumes nothing.
use Rattle.std.specs.Prelude.{ℕ, ◌≡◌, cond, List, [], ◌∷◌, ◌++◌, length, eqb}
use Rattle.device.specs.declared.Device.{Device}
use Rattle.device.specs.Device.{usual, power_on}
use Rattle.frame.specs.Line.{line_outcome, text_of}
use Rattle.frame.specs.Blocks.{Fed, after, feed}

-- the lines of s where a line has begun with the characters p; the last one needs no LF if it has characters (data sheet 13.5)
unfoldable pub lines_from : List ℕ → List ℕ → List (List ℕ)
lines_from p [] = cond (eqb (length p) 0) [] (p ∷ [])
lines_from p (c ∷ s) = cond (eqb c 10) (p ∷ lines_from [] s) (lines_from (p ++ (c ∷ [])) s)

-- the text of lines, each on the state that the one before it left
unfoldable pub lines_text : Device → List (List ℕ) → List ℕ
lines_text d [] = []
lines_text d (l ∷ ls) = text_of (line_outcome d l) ++ lines_text (line_outcome d l).done.device ls

-- what comes out for a file, from power-on on
unfoldable pub file_text : List ℕ → List ℕ
file_text s = lines_text (power_on (usual 8)) (lines_from [] s)

-- what the program writes: the text of the characters as they come, and at the end an LF for a line that has characters
abbrev pub ended : Fed → List ℕ
ended f = cond (eqb f.length 0) f.text (f.text ++ (feed f.device f.line f.length (10 ∷ [])).text)

-- Fed character by character through a line buffer of 512, a file gives its text,
unfoldable pub Whole : Type 0
Whole = (line : List ℕ) → length line ≡ 512 → (s : List ℕ) → ended (feed (power_on (usual 8)) line 0 s) ≡ file_text s

-- and where it is cut into blocks does not matter.
unfoldable pub Cut : Type 0
Cut = (d : Device) (line : List ℕ) (n : ℕ) (s t : List ℕ)
    → feed d line n (s ++ t) ≡ after (feed d line n s).text (feed (feed d line n s).device (feed d line n s).line (feed d line n s).length t)
