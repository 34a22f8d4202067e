-- The fields of a stream of at most eight bytes, and the bytes that they hold.
-- Assumes nothing.
use Rattle.std.specs.Prelude.{ℕ, ◌≤◌, ◌≡◌, List, ◌++◌, length, take, replicate}
use Rattle.reads.specs.declared.reply.Stream.TheInside.{Inside}

-- the bytes that a stream holds
abbrev pub stream_of : Inside → List ℕ
stream_of s = take s.length s.bytes

-- the stream that holds the bytes l, at most eight; past them it holds 0
abbrev pub stream : List ℕ → Inside
stream l = record { bytes = take 8 (l ++ replicate 8 0); length = length l }

pub record IsStream (s : Inside) : Type 0 where
  pub fits : s.length ≤ 8
  pub made : stream (stream_of s) ≡ s
