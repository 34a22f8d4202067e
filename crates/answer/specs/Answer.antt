-- The numbers of the answers (data sheet 11.2 to 11.5). A call that is done has 0.
-- Assumes nothing.
use Rattle.std.specs.Prelude.{◌≡◌, ℕ, Bool, true, ◌||◌, ◌&&◌, eqb, leb, Result, Ok, Err, MatchResult}
use Rattle.answer.specs.declared.Refusal.{Refusal}
use Rattle.answer.specs.declared.UnknownRefusal.{UnknownRefusal}
use Rattle.answer.specs.declared.Refusal.TheVariants.{WrongAddress, Malformed, UnsupportedCommand, TooFewData, TooManyData, WrongPec, Protected, InvalidData, ReadTooShort, ReadTooLong, NoSuchPlace, SampleTooLarge, AlertDown, InvalidState, WrongReplyLength, WrongReplyPec, WrongCountByte, AccumulatorTooLarge, TotalFull, OutOfRange, NoRoom, InvalidFormat}

abbrev pub number_of : Refusal → ℕ
number_of WrongAddress = 1
number_of Malformed = 2
number_of UnsupportedCommand = 3
number_of TooFewData = 5
number_of TooManyData = 6
number_of WrongPec = 7
number_of Protected = 8
number_of InvalidData = 9
number_of ReadTooShort = 10
number_of ReadTooLong = 11
number_of NoSuchPlace = 12
number_of SampleTooLarge = 13
number_of AlertDown = 14
number_of InvalidState = 15
number_of WrongReplyLength = 20
number_of WrongReplyPec = 21
number_of WrongCountByte = 22
number_of AccumulatorTooLarge = 23
number_of TotalFull = 24
number_of OutOfRange = 25
number_of NoRoom = 26
number_of InvalidFormat = 27

-- the answer number of what a call gives
abbrev pub answer_of : {A : Type 0} → Result A Refusal → ℕ
answer_of (Ok x) = 0
answer_of (Err refusal) = number_of refusal

-- a number that no refusal has: 0, 4, 16 to 19, and all from 28 on
abbrev pub unknown : ℕ → Bool
unknown n = eqb n 0 || eqb n 4 || (leb 16 n && leb n 19) || leb 28 n

-- the refusal with this number, or an error where there is none
abbrev pub NamesRefusal : ℕ → Result Refusal UnknownRefusal → Type 0
NamesRefusal n r = MatchResult r (λ refusal. number_of refusal ≡ n) (λ e. (e.0 ≡ n) × (unknown n ≡ true))
