-- A frame file in blocks: what its characters do, one after the other, and what a run over a part of a block promises.
-- Assumes nothing.
use Rattle.std.specs.Prelude.{ℕ, ◌-◌, ◌≤◌, ◌<◌, ◌≡◌, cond, List, [], ◌∷◌, ◌++◌, length, take, drop, set, eqb}
use Rattle.device.specs.declared.Device.{Device}
use Rattle.frame.specs.Gather.{count_of, held_in}
use Rattle.frame.specs.Line.{line_outcome, text_of}
use Rattle.frame.specs.declared.blocks.Progress.{Progress}

-- after some characters: the device, the line buffer, the number of characters of the line that has no LF yet, and the text that came out
pub record Fed : Type 0 where
  pub device : Device
  pub line : List ℕ
  pub length : ℕ
  pub text : List ℕ

abbrev pub fed : Device → List ℕ → ℕ → List ℕ → Fed
fed d line n t = record { device = d; line = line; length = n; text = t }

abbrev pub after : List ℕ → Fed → Fed
after t f = record { device = f.device; line = f.line; length = f.length; text = t ++ f.text }

-- an LF runs the line that was gathered, and any other character is gathered
unfoldable pub feed : Device → List ℕ → ℕ → List ℕ → Fed
feed d line n [] = fed d line n []
feed d line n (c ∷ s) =
    cond (eqb c 10)
    (after (text_of (line_outcome d (held_in line n))) (feed (line_outcome d (held_in line n)).done.device line 0 s))
    (feed d (set line n c) (count_of (length line) n 1) s)

abbrev pub progress : Device → ℕ → ℕ → ℕ → Progress
progress d n next written = record { device = d; length = n; next = next; written = written }

-- A run over a block from place `at`; line' and out' are the two buffers after it. How far it gets is left open: it stops where the block ends
-- or `out` has no room for a further text, 513 characters.
pub record Ran (d : Device) (line : List ℕ) (n : ℕ) (block : List ℕ) (at : ℕ) (out : List ℕ) (r : Progress) (line' out' : List ℕ) : Type 0 where
  -- the characters up to the place where it stops were fed
  pub feeds : feed d line n (take (r.next - at) (drop at block)) ≡ fed r.device line' r.length (take r.written out')
  -- the text was written, and nothing else
  pub fits : r.written ≤ length out
  pub kept : drop r.written out' ≡ drop r.written out
  -- it gets on wherever it can
  pub from : at ≤ r.next
  pub within : at ≤ length block → r.next ≤ length block
  pub moves : at < length block → 513 ≤ length out → at < r.next
