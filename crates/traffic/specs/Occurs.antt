-- What is let through of a transaction's part occurs. A state handed in gets answer 15 where phase, count or clocked is a number that no run has
-- (`part_valid` of crate bus); each other value of the three, every eleven bytes, and every byte at each place of the reply, are what some run
-- from power-on leaves there. Each is said by itself: not every phase occurs with every count. And the formats of a page that get no 15, coefficients
-- under a linear mark among them, are those that power-on by some choice leaves.
-- Assumes nothing.
use Rattle.std.specs.Prelude.{ℕ, ◌<◌, ◌≡◌, true, List, length, get_or}
use Rattle.bus.specs.Part.{idle}
use Rattle.value.specs.declared.format.Format.{Format}
use Rattle.page.specs.Settings.{formats_valid}
use Rattle.device.specs.Device.{Choice, number_of, usual, granted, power_on, page_of}
use Rattle.stream.specs.Stream.{State, state, Turn, feed}

-- the states of a run of the shelf device from power-on
abbrev pub reached_by : List Turn → State
reached_by ts = feed (state idle (power_on (usual 8))) ts

-- ---- the three numbers, each up to the bound of `part_valid`

unfoldable pub PhaseOccurs : Type 0
PhaseOccurs = (x : ℕ) → x < 5 → (ts : List Turn) × ((reached_by ts).part.phase ≡ x)

unfoldable pub CountOccurs : Type 0
CountOccurs = (x : ℕ) → x < 12 → (ts : List Turn) × ((reached_by ts).part.count ≡ x)

unfoldable pub ClockedOccurs : Type 0
ClockedOccurs = (x : ℕ) → x < 10 → (ts : List Turn) × ((reached_by ts).part.clocked ≡ x)

-- ---- the bytes kept, all eleven at once

unfoldable pub BytesOccur : Type 0
BytesOccur = (l : List ℕ) → length l ≡ 11 → (ts : List Turn) × ((reached_by ts).part.bytes ≡ l)

-- ---- the reply, each of its eight bytes by itself

unfoldable pub ReplyOccurs : Type 0
ReplyOccurs = (k x : ℕ) → k < 8 → x < 256 → (ts : List Turn) × (get_or (reached_by ts).part.reply k 255 ≡ x)

-- ---- the formats of a page, all three at once

unfoldable pub FormatsOccur : Type 0
FormatsOccur =
    (fs : List Format) → formats_valid fs ≡ true
    → (x : Choice) × ((granted x ≡ true) × ((number_of x ≡ 8) × ((i : ℕ) → i < 8 → (page_of (power_on x) i).formats ≡ fs)))
