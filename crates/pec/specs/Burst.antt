-- Bits in bus order, and copies damaged within eight neighbouring bits (data sheet 15.6).
-- Assumes nothing.
use Rattle.std.specs.Prelude.{◌≡◌, ◌⊎◌, Bool, false, ℕ, suc, ◌+◌, ◌/◌, ◌%◌, ◌<◌, ◌≤◌, List, [], ◌∷◌, ◌++◌, eqb, length, get_or, take}
use Rattle.laws.specs.Lists.{Bytes}
use Rattle.pec.specs.Pec.{pec_from}

-- the bits of a byte as they go over the bus, high bit first
unfoldable pub bits8 : ℕ → List Bool
bits8 b =
    eqb (b / 128 % 2) 1 ∷ eqb (b / 64 % 2) 1 ∷ eqb (b / 32 % 2) 1 ∷ eqb (b / 16 % 2) 1
    ∷ eqb (b / 8 % 2) 1 ∷ eqb (b / 4 % 2) 1 ∷ eqb (b / 2 % 2) 1 ∷ eqb (b % 2) 1 ∷ []

-- the bits of bytes in the order of the bus (data sheet 15.6)
unfoldable pub bus_bits : List ℕ → List Bool
bus_bits [] = []
bus_bits (b ∷ bs) = bits8 b ++ bus_bits bs

-- t is a damaged copy of s, of the same length: some bit differs, and none outside of the eight bits from `first` on (data sheet 15.6)
pub record Changed (s t : List ℕ) : Type 0 where
  pub same_length : length s ≡ length t
  pub first : ℕ
  pub outside : (n : ℕ) → (n < first) ⊎ (first + 8 ≤ n) → get_or (bus_bits s) n false ≡ get_or (bus_bits t) n false
  pub changed : bus_bits s ≡ bus_bits t → ⊥

-- The burst law (data sheet 15.8): a damaged copy, of whatever length, has another check, from whatever register both start
unfoldable pub BurstFound : Type 0
BurstFound = (s t : List ℕ) → Changed s t → Bytes s → Bytes t → (r : ℕ) → r < 256 → pec_from r s ≡ pec_from r t → ⊥

-- so that of a message with its check at place n and a damaged copy of both, not both end in the right check; r is that of a header which both have
unfoldable pub NotBoth : Type 0
NotBoth =
    (r n : ℕ) (s t : List ℕ) → r < 256 → length s ≡ suc n → Bytes s → Bytes t → Changed s t → pec_from r (take n s) ≡ get_or s n 0
    → pec_from r (take n t) ≡ get_or t n 0 → ⊥
