-- One line of the frame file (data sheet 13.1): what the device does, and the text that comes out. A line is the list of its characters
-- before the LF.
-- Assumes nothing.
use Rattle.std.specs.Prelude.{ℕ, ◌≤◌, ◌≡◌, List, length}
use Rattle.std.proofs.lemmas.List.Edits.{sets}
use Rattle.device.specs.declared.Device.{Device}
use Rattle.device.specs.declared.Done.{Done}
use Rattle.device.specs.Step.{Result}
use Rattle.frame.specs.Text.{bytes_of, answer_text}
use Rattle.frame.specs.Frame.{frame_of, outcome}
use Rattle.frame.specs.declared.LineDone.{LineDone}

-- what a line does
unfoldable pub line_outcome : Device → List ℕ → Result
line_outcome d s = outcome d (frame_of (bytes_of s))

abbrev pub result : Done → List ℕ → Result
result e reply = record { done = e; reply = reply }

-- the text that comes out
abbrev pub text_of : Result → List ℕ
text_of r = answer_text r.done.answer r.reply

-- what is handed back: the state, and the number of characters of the text
abbrev pub line_done : Result → LineDone
line_done r = record { device = r.done.device; length = length (text_of r) }

-- The outcome r of a line as it is handed back: `done`, and its text at the front of a buffer, as far as the buffer goes.
pub record Told (r : Result) (out : List ℕ) (done : LineDone) (out' : List ℕ) : Type 0 where
  pub same : done ≡ line_done r
  pub text : out' ≡ sets out 0 (text_of r)
  -- a text has at most 513 characters
  pub short : done.length ≤ 513
