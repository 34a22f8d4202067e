-- When each answer applies to a reply that a totalizer gets, and what it leaves (data sheet 11.5, 10.4 to 10.7), by the bytes themselves: a
-- slip made alike in the code and in Totalizer.antt is refused.
-- Assumes nothing.
use Rattle.std.specs.Prelude.{◌≡◌, ℕ, ◌+◌, ◌-◌, ◌*◌, ◌%◌, ◌^◌, Bool, true, false, not, ◌&&◌, ◌||◌, List, [], ◌∷◌, length, take, ◌==◌, ◌≢◌, nat_lt, slice_index}
use Rattle.laws.specs.Lines.{Line, lowest}
use Rattle.pec.specs.Pec.{pec}
use Rattle.account.specs.declared.Account.{Account}
use Rattle.account.specs.Account.{account}
use Rattle.totalizer.specs.declared.Totalizer.{Totalizer}
use Rattle.totalizer.specs.Totalizer.{totalizer, totalize}

-- every field of the account that is kept is in its range (data sheet 9.1)
abbrev pub last_in_range : Totalizer → Bool
last_in_range t = nat_lt t.last.accumulator 32768 && nat_lt t.last.rollover 256 && nat_lt t.last.count 16777216

-- what a reply carries: accumulator, rollover count, sample count, each low byte first (data sheet 9.5)
abbrev pub sent_account : List ℕ → Account
sent_account s = account (slice_index s 1 + slice_index s 2 * 256) (slice_index s 3) (slice_index s 4 + slice_index s 5 * 256 + slice_index s 6 * 65536)

-- how far the reading of the energy, rollover count times 32768 plus accumulator, went forward since the account that is kept, and how far
-- the sample count; each may have passed its top (data sheet 9.6, 10.5)
abbrev pub reading_of : Account → ℕ
reading_of a = a.rollover * 32768 + a.accumulator

abbrev pub energy_more : Totalizer → List ℕ → ℕ
energy_more t s = (reading_of (sent_account s) + 8388608 - reading_of t.last) % 8388608

abbrev pub samples_more : Totalizer → List ℕ → ℕ
samples_more t s = ((sent_account s).count + 16777216 - t.last.count) % 16777216

-- both totals with the reply's account added stay below 2^64
abbrev pub room_for : Totalizer → List ℕ → Bool
room_for t s = nat_lt (t.energy + energy_more t s) (2 ^ 64) && nat_lt (t.samples + samples_more t s) (2 ^ 64)

-- the answers of a reply s to a read of the code
abbrev pub take_lines : ℕ → Totalizer → List ℕ → List Line
take_lines code t s =
    (15, not (last_in_range t))  -- the totalizer handed in is not valid
    ∷ (20, not (length s == 8))  -- not eight bytes
    ∷ (21, not (pec (0xC0 ∷ code ∷ 0xC1 ∷ take 7 s) == slice_index s 7))  -- the last byte is not the PEC of header and data
    ∷ (22, not (slice_index s 0 == 0x06))  -- the first byte is not 06h
    ∷ (23, nat_lt 0x7FFF (slice_index s 1 + slice_index s 2 * 256))  -- the accumulator is over 7FFFh
    ∷ (24, t.closed || (t.started && not (room_for t s)))  -- closed, or a total would reach 2^64
    ∷ []

pub record TakeApplies (code : ℕ) (t : Totalizer) (s : List ℕ) : Type 0 where
  pub answer : (totalize code t s).answer ≡ lowest (take_lines code t s)
  -- 24 sets the closed mark alone, and every other refusal nothing
  pub full : (totalize code t s).answer ≡ 24 → (totalize code t s).totalizer ≡ totalizer t.started true t.last t.energy t.samples
  pub refused : ((totalize code t s).answer ≢ 0) → ((totalize code t s).answer ≢ 24) → (totalize code t s).totalizer ≡ t
  -- the first reply that is accepted is the start, with totals 0; each later one adds its differences (data sheet 10.4, 10.5)
  pub first : (totalize code t s).answer ≡ 0 → t.started ≡ false → (totalize code t s).totalizer ≡ totalizer true false (sent_account s) 0 0
  pub later :
      (totalize code t s).answer ≡ 0 → t.started ≡ true
      → (totalize code t s).totalizer ≡ totalizer true false (sent_account s) (t.energy + energy_more t s) (t.samples + samples_more t s)

unfoldable pub TakesApply : Type 0
TakesApply = (code : ℕ) (t : Totalizer) (s : List ℕ) → TakeApplies code t s
