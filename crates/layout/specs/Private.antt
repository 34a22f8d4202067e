-- What a private function promises. No promise of a function that another crate calls speaks of it.
-- Assumes nothing.
use Rattle.std.specs.Prelude.{ℕ, ◌+◌, cond, List, get_or, set, ltb}

-- a byte more that is kept, its count first
unfoldable pub heard_byte : List ℕ → ℕ → List ℕ
heard_byte s b = cond (ltb (get_or s 1 0) 11) (set (set s 1 (get_or s 1 0 + 1)) (2 + get_or s 1 0) b) s
