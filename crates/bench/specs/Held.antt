-- What the bench program holds between two blocks of its input: the device, the line buffer, and the number of characters of the line that has no LF
-- yet (data sheet 13.5).
-- Assumes nothing.
use Rattle.std.specs.Prelude.{ℕ, ◌≡◌, cond, List, [], ◌∷◌, take, eqb}
use Rattle.device.specs.declared.Device.{Device}
use Rattle.device.specs.Device.{usual, power_on}
use Rattle.frame.specs.Blocks.{Fed, feed}

-- characters that were fed leave so
abbrev pub Leaves : Fed → Device → List ℕ → ℕ → Type 0
Leaves f d line n = (f.device ≡ d) × (f.line ≡ line) × (f.length ≡ n)

-- some characters, fed from power-on on, leave so
abbrev pub Reached : Device → List ℕ → ℕ → Type 0
Reached d line n = (start : List ℕ) × (s : List ℕ) × Leaves (feed (power_on (usual 8)) start 0 s) d line n

-- the characters to run after a read that put so many into the block: those, and at the end of the input an LF for a line that has characters
abbrev pub to_run : ℕ → ℕ → List ℕ → List ℕ
to_run read n block = cond (eqb read 0) (cond (eqb n 0) [] (10 ∷ [])) (take read block)
