-- `frame::hex::decode` meets its contract: the pairs so far are digits, and their bytes stand at the front of the buffer.
-- Assumes nothing.
use mathlib.Core.Path.{◌≡◌}
use mathlib.Core.List.{map}
use lib.ListN.{take, drop}
use lib.Seq.{sets}
use Rattle.laws.specs.Lists.{all_of}
use Rattle.frame.proofs.Digits.{two_digits, pair_byte}
use Rattle.frame.proofs.hex.decode.Given as goal

abbrev pub invariant-loop-i : goal.invariant-loop-i
invariant-loop-i l =
    (all_of two_digits (drop l.i l.pairs) ≡ all_of two_digits l.pairs)
    × (l.bytes ≡ sets l.initial.bytes 0 (take l.i (map pair_byte l.pairs)))
