-- `frame::text::put_answer` meets its contract: the digits of the answer and of the bytes so far have been put.
-- Assumes nothing.
use mathlib.Core.Path.{◌≡◌}
use mathlib.Core.List.{◌∷◌}
use lib.ListN.{take}
use lib.Seq.{sets}
use Rattle.frame.specs.Hex.{hex_of}
use Rattle.frame.proofs.text.put_answer.Given as goal

abbrev pub invariant-loop-i : goal.invariant-loop-i
invariant-loop-i l = l.out ≡ sets l.fn.out 0 (hex_of (l.answer ∷ take l.i l.reply))
