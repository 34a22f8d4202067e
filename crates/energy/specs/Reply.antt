-- An account's energy reply, and the copies of a reply that a totalizer may get.
-- Assumes nothing.
use Rattle.std.specs.Prelude.{ℕ, List, [], ◌∷◌, ◌++◌}
use Rattle.laws.specs.Lists.{Bytes}
use Rattle.pec.specs.Pec.{pec}
use Rattle.pec.specs.Burst.{Changed}
use Rattle.account.specs.declared.Account.{Account}
use Rattle.account.specs.Account.{ein_bytes}

-- the energy reply of an account that is read by the code, 86h of READ_EIN: its data and the PEC (data sheet 15.6)
unfoldable pub energy_reply : ℕ → Account → List ℕ
energy_reply code a = ein_bytes a ++ (pec (0xC0 ∷ code ∷ 0xC1 ∷ ein_bytes a) ∷ [])

-- a copy of a reply: intact, or changed to these bytes
pub data Copy : Type 0 where
  intact : Copy
  changed : List ℕ → Copy

-- the bytes that the totalizer gets
abbrev pub bytes_of : List ℕ → Copy → List ℕ
bytes_of reply intact = reply
bytes_of reply (changed s) = s

-- intact, or damaged within eight neighbouring bits; what arrives are bytes (data sheet 15.6)
abbrev pub IsCopy : List ℕ → Copy → Type 0
IsCopy reply intact = Unit
IsCopy reply (changed s) = Changed reply s × Bytes s

unfoldable pub AreCopies : List ℕ → List Copy → Type 0
AreCopies reply [] = Unit
AreCopies reply (c ∷ cs) = IsCopy reply c × AreCopies reply cs
