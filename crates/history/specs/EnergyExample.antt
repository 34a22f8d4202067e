-- Six calls of the device and copies of their replies, one of them damaged, that the guarantee is about (data sheet 15.7); and their history.
-- Assumes nothing.
use Rattle.std.specs.Prelude.{ℕ, ◌≡◌, true, false, List, [], ◌∷◌}
use Rattle.energy.specs.Reply.{Copy, intact, changed}
use Rattle.energy.specs.Events.{took, got, fresh_log}
use Rattle.account.specs.Account.{account}
use Rattle.totalizer.specs.Totalizer.{totalizer, answered, fresh_totalizer}
use Rattle.device.specs.Device.{usual, power_on}
use Rattle.device.specs.Step.{read, sample}
use Rattle.history.specs.Energy.{Turn, log_after, TrueCopies}

-- the reply after a sample of 5, and a copy of it in which the first bit differs
abbrev pub reply : List ℕ
reply = 0x06 ∷ 0x05 ∷ 0x00 ∷ 0x00 ∷ 0x01 ∷ 0x00 ∷ 0x00 ∷ 0xB5 ∷ []

abbrev pub copy : List ℕ
copy = 0x86 ∷ 0x05 ∷ 0x00 ∷ 0x00 ∷ 0x01 ∷ 0x00 ∷ 0x00 ∷ 0xB5 ∷ []

abbrev energy_read : List Copy → Turn
energy_read cs = record { call = read (0xC0 ∷ 0x86 ∷ 0xC1 ∷ []) 8; copies = cs }

abbrev power_sampled : ℕ → Turn
power_sampled n = record { call = sample n; copies = [] }

unfoldable pub turns : List Turn
turns =
    power_sampled 5
    ∷ energy_read (changed copy ∷ intact ∷ [])
    ∷ power_sampled 7
    ∷ energy_read []
    ∷ power_sampled 9
    ∷ energy_read (intact ∷ intact ∷ [])
    ∷ []

-- They are true copies, and the energy guarantee speaks of accepted, repeated and refused ones: it is not empty. The history has the latest
-- first.
unfoldable pub CopiesOccur : Type 0
CopiesOccur =
    TrueCopies (power_on (usual 8)) turns
    × ((log_after (power_on (usual 8)) fresh_log turns).history
    ≡ got intact (answered 0 (totalizer true false (account 21 0 3) 16 2))
    ∷ got intact (answered 0 (totalizer true false (account 21 0 3) 16 2))
    ∷ took 9
    ∷ took 7
    ∷ got intact (answered 0 (totalizer true false (account 5 0 1) 0 0))
    ∷ got (changed copy) (answered 21 fresh_totalizer)
    ∷ took 5
    ∷ [])
