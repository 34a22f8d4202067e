-- Two reads of READ_EIN with a power sample taken while each reply is on its way, which the energy guarantee is about (Energy.antt); and
-- their history: such a sample counts for the next reply, not for the one on its way.
-- Assumes nothing.
use Rattle.std.specs.Prelude.{ℕ, ◌≡◌, true, false, List, [], ◌∷◌, ◌++◌}
use Rattle.account.specs.Account.{account}
use Rattle.totalizer.specs.Totalizer.{totalizer, answered}
use Rattle.energy.specs.Reply.{intact}
use Rattle.energy.specs.Events.{took, got}
use Rattle.bus.specs.Automaton.{Event, start, byte, again, clock, stop}
use Rattle.device.specs.Device.{usual}
use Rattle.device.specs.Step.{sample}
use Rattle.stream.specs.Stream.{on, call}
use Rattle.traffic.specs.Underway.{nothing}
use Rattle.traffic.specs.Whole.{begun}
use Rattle.traffic.specs.Energy.{Told, fresh, stream_log, TrueTold}

abbrev event : Event → Told
event e = record { turn = on e; copies = [] }

abbrev power_sampled : ℕ → Told
power_sampled n = record { turn = call (sample n); copies = [] }

abbrev eight_clocks : List Told
eight_clocks =
    event clock ∷ event clock ∷ event clock ∷ event clock ∷ event clock ∷ event clock ∷ event clock ∷ event clock ∷ []

-- a read of READ_EIN, with a sample of n behind the second address byte; the totalizer gets its reply
abbrev energy_read : ℕ → List Told
energy_read n =
    event start ∷ event (byte 0xC0) ∷ event (byte 0x86) ∷ event again ∷ event (byte 0xC1) ∷ power_sampled n
    ∷ (eight_clocks ++ (record { turn = on stop; copies = intact ∷ [] } ∷ []))

unfoldable pub turns : List Told
turns = power_sampled 5 ∷ (energy_read 7 ++ energy_read 9)

-- the copies are true ones, and this is the history, its latest entry first
unfoldable pub ReadsExample : Type 0
ReadsExample =
    TrueTold (begun (usual 8)) nothing fresh turns
    × ((stream_log (begun (usual 8)) nothing fresh turns).history
    ≡ took 9
    ∷ got intact (answered 0 (totalizer true false (account 12 0 2) 7 1))
    ∷ took 7
    ∷ got intact (answered 0 (totalizer true false (account 5 0 1) 0 0))
    ∷ took 5
    ∷ [])
