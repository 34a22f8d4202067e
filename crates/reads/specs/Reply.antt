-- What a host reads: the bytes that the device sends, and FFh once they are over (data sheet 2.9).
-- Assumes nothing.
use Rattle.std.specs.Prelude.{ℕ, cond, List, [], ◌∷◌, ◌++◌, take, replicate, eqb}

-- a reply buffer of n bytes after the bytes s were sent into it
abbrev pub reply_of : List ℕ → ℕ → List ℕ
reply_of s n = take n (s ++ replicate n 255)

-- what an alert response sends: the device's address, where it is answered (data sheet 8.4)
unfoldable pub alert_stream : ℕ → List ℕ
alert_stream answer = cond (eqb answer 0) (0xC0 ∷ []) []
