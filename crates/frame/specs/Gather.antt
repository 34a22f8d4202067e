-- A line gathered into a buffer from a block of characters.
-- Assumes nothing.
use Rattle.std.specs.Prelude.{ℕ, suc, ◌+◌, min, max, Bool, cond, true, false, List, [], ◌∷◌, length, take, eqb, ltb, Some, None}
use Rattle.frame.specs.declared.gather.Gathered.{Gathered}

-- the characters before the first LF
unfoldable pub up_to : List ℕ → List ℕ
up_to [] = []
up_to (c ∷ s) = cond (eqb c 10) [] (c ∷ up_to s)

-- there is an LF
unfoldable pub ends : List ℕ → Bool
ends [] = false
ends (c ∷ s) = cond (eqb c 10) true (ends s)

-- the count of a line of n characters after k more: one more than the buffer's `room` once they do not fit
abbrev pub count_of : ℕ → ℕ → ℕ → ℕ
count_of room n k = max n (min (n + k) (room + 1))

-- the line so far has n characters, and s is what the block still has: the count, and the place behind the LF, if it came
unfoldable pub gathered_of : ℕ → ℕ → List ℕ → Gathered
gathered_of room n s =
    record { length = count_of room n (length (up_to s)); next = cond (ends s) (Some (suc (length (up_to s)))) None }

-- a line of n characters in its buffer; one that is longer than the buffer is bad, as an empty one is
unfoldable pub whole_of : ℕ → ℕ → ℕ
whole_of room n = cond (ltb room n) 0 n

unfoldable pub held_in : List ℕ → ℕ → List ℕ
held_in line n = take (whole_of (length line) n) line
