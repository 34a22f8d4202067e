-- The reads of specs/EnergyExample.antt, computed.
-- Assumes nothing.
use Prim.Native.Nat.{ℕ}
use mathlib.Core.Path.{◌≡◌, refl}
use mathlib.Core.Bool.{Bool, true, false, ◌&&◌, false≢true, and-eq-true_iff}
use mathlib.Core.List.{List, [], ◌∷◌}
use Rattle.laws.specs.Lists.{all_of}
use Rattle.energy.specs.Reply.{Copy, intact, changed, AreCopies}
use Rattle.energy.specs.Events.{log_copies}
use Rattle.account.specs.Account.{account_valid, added, sampled, ein_bytes, account_of, energy_reading}
use Rattle.replies.specs.Replies.{clocked_for, reply_check, check_holds, account_answer, reply_answer}
use Rattle.totalizer.specs.Totalizer.{fresh_totalizer, next_energy, next_samples, booked, totalize}
use Rattle.totalizer.specs.Totalizer as totalizing
use Rattle.pec.specs.Pec.{pec, pec_from, pec_byte, pec_bit}
use Rattle.command.specs.Table.{table, entry_of, lookup}
use Rattle.command.specs.Meaning.{command_of, reading_of}
use Rattle.command.specs.Paged.{paged}
use Rattle.page.specs.Page.{power_on_page}
use Rattle.page.specs.Choice.{chosen_page}
use Rattle.retry.specs.Machines.{all_valid}
use Rattle.cause.specs.Causes.{causes}
use Rattle.value.specs.Format.{format_valid}
use Rattle.page.specs.Settings.{page_valid, valid_operation, formats_valid}
use Rattle.unpaged.specs.Unpaged.{power_on_unpaged, valid_page, valid_protect, unpaged_valid, refused, shown}
use Rattle.reads.specs.Request.{plain_of, addressed_of, request_of}
use Rattle.reads.specs.Answers.{data_answer, request_answer, read_answer, answers_data}
use Rattle.reads.specs.Data.{read_data, request_data, checked, read_stream}
use Rattle.bus.specs.Part.{part_valid, idle, started, taking, clocking}
use Rattle.bus.specs.Automaton.{start, byte, again, clock, stop, after_byte, after_again, after_clock, byted, restarted, clocked, part_after, clock_byte}
use Rattle.device.specs.Device.{usual, supported, chosen_unpaged, power_on, device_valid}
use Rattle.device.specs.Step.{answer_of, effect, left, sent, step}
use Rattle.device.specs.Step as calls
use Rattle.stream.specs.Stream.{State, state_valid, byte_taken, part_next, ended, byte_sent, stopped, called, Turn, on, call, device_next, after}
use Rattle.traffic.specs.Underway.{Underway, nothing, goes_on}
use Rattle.traffic.specs.Whole.{begun}
use Rattle.traffic.specs.Energy.{Told, Pending, fresh, call_pending, pending_after, stream_log, CopiesSent, TrueTold}
use Rattle.traffic.specs.EnergyExample.{turns, ReadsExample}

-- ---- intact copies are true ones

abbrev is_intact : Copy → Bool
is_intact intact = true
is_intact (changed s) = false

intact_copies : (x : List ℕ) (cs : List Copy) → all_of is_intact cs ≡ true → AreCopies x cs
unfolding AreCopies
intact_copies x [] e = tt
intact_copies x (intact ∷ cs) e = (tt, intact_copies x cs e)
intact_copies x (changed s ∷ cs) e = absurd (false≢true e)

intact_sent : (s : State) (u : Underway) (g : Pending) (t : Turn) (cs : List Copy) → all_of is_intact cs ≡ true → CopiesSent s u g t cs
unfolding CopiesSent
intact_sent s u g (on start) cs e = tt
intact_sent s u g (on (byte b)) cs e = tt
intact_sent s u g (on again) cs e = tt
intact_sent s u g (on clock) cs e = tt
intact_sent s u g (on stop) cs e = λ h. intact_copies g.sent cs e
intact_sent s u g (call c) cs e = tt

abbrev all_intact : List Told → Bool
all_intact [] = true
all_intact (t ∷ ts) = all_of is_intact t.copies && all_intact ts

intact_told : (ts : List Told) (s : State) (u : Underway) (g : Pending) → all_intact ts ≡ true → TrueTold s u g ts
unfolding TrueTold
intact_told [] s u g e = tt
intact_told (t ∷ ts) s u g e =
    let both = (and-eq-true_iff (all_of is_intact t.copies) (all_intact ts)).0 e in (
      intact_sent s u g t.turn t.copies both.0,
      intact_told ts (after s t.turn) (goes_on u t.turn) (pending_after s u g t.turn t.copies) both.1,
    )

-- ---- the reads

pub reads_example : ReadsExample
unfolding
    ReadsExample turns stream_log pending_after call_pending log_copies account_valid added sampled ein_bytes account_of fresh_totalizer
    energy_reading clocked_for reply_check check_holds account_answer reply_answer next_energy next_samples booked totalize totalizing.added pec
    pec_from pec_byte pec_bit table entry_of lookup command_of reading_of paged power_on_page page_valid valid_operation all_valid causes
    formats_valid format_valid
    power_on_unpaged valid_page valid_protect unpaged_valid refused shown plain_of addressed_of request_of data_answer request_answer read_answer
    answers_data read_data request_data checked read_stream usual chosen_page chosen_unpaged power_on supported device_valid step answer_of
    calls.answered effect left sent part_valid idle started taking clocking after_byte after_again after_clock byted restarted clocked
    part_after clock_byte state_valid byte_taken part_next ended byte_sent stopped called device_next after
reads_example = (intact_told turns (begun (usual 8)) nothing fresh refl, refl)
