-- The copies of specs/EnergyExample.antt are true ones, and what the totalizer makes of them, computed.
-- Assumes nothing.
use Rattle.std.specs.Prelude.{ℕ, zero, suc, ◌<◌, ◌≤◌, ◌≡◌, refl, ◌⊎◌, Bool, false, List, get_or}
use Rattle.std.proofs.Common.{ap, ⊎_elim, arith}
use Rattle.std.proofs.lemmas.Bool.{false≢true}
use Rattle.laws.specs.Lists.{Bytes}
use Rattle.pec.specs.Burst.{bits8, bus_bits, Changed}
use Rattle.energy.specs.Reply.{AreCopies}
use Rattle.energy.specs.Events.{log_copies}
use Rattle.account.specs.Account.{account_valid, added, sampled, ein_bytes, account_of, energy_reading}
use Rattle.replies.specs.Replies.{clocked_for, reply_check, check_holds, account_answer, reply_answer}
use Rattle.totalizer.specs.Totalizer.{fresh_totalizer, next_energy, next_samples, booked, totalize}
use Rattle.totalizer.specs.Totalizer as totalizing
use Rattle.pec.specs.Pec.{pec, pec_from, pec_byte, pec_bit}
use Rattle.command.specs.Table.{table, entry_of, lookup}
use Rattle.command.specs.Meaning.{command_of, reading_of}
use Rattle.value.specs.Format.{format_valid}
use Rattle.page.specs.Page.{power_on_page}
use Rattle.page.specs.Choice.{chosen_page}
use Rattle.retry.specs.Machines.{all_valid}
use Rattle.cause.specs.Causes.{causes}
use Rattle.page.specs.Settings.{page_valid, valid_operation, formats_valid}
use Rattle.unpaged.specs.Unpaged.{power_on_unpaged, valid_page, valid_protect, unpaged_valid, refused, shown}
use Rattle.reads.specs.Request.{plain_of, addressed_of, request_of}
use Rattle.reads.specs.Answers.{data_answer, request_answer, read_answer, answers_data}
use Rattle.reads.specs.Data.{read_data, request_data, checked, read_stream}
use Rattle.device.specs.Device.{usual, supported, chosen_unpaged, power_on, device_valid}
use Rattle.device.specs.Step.{answer_of, effect, left, sent, step}
use Rattle.device.specs.Step as calls
use Rattle.history.specs.Energy.{part_of, log_part, log_after, CopiesOf, TrueCopies}
use Rattle.history.specs.EnergyExample.{reply, copy, turns, CopiesOccur}

same : (n : ℕ) → (n < 0) ⊎ (8 ≤ n) → get_or (bus_bits reply) n false ≡ get_or (bus_bits copy) n false
unfolding bus_bits bits8
same zero h = absurd (⊎_elim (λ l. omega arith) (λ l. omega arith) h)
same (suc n) h = refl

first_differs : bus_bits reply ≡ bus_bits copy → ⊥
unfolding bus_bits bits8
first_differs e = false≢true (ap (λ (l : List Bool). get_or l 0 false) e)

is_changed : Changed reply copy
is_changed = record { same_length = refl; first = 0; outside = same; changed = first_differs }

bytes : Bytes copy
unfolding Bytes
bytes = (omega arith, (omega arith, (omega arith, (omega arith, (omega arith, (omega arith, (omega arith, (omega arith, tt))))))))

pub copies_occur : CopiesOccur
unfolding
    CopiesOccur
    turns TrueCopies CopiesOf AreCopies log_after part_of log_part log_copies account_valid added sampled ein_bytes account_of fresh_totalizer
    energy_reading clocked_for reply_check check_holds account_answer reply_answer next_energy next_samples booked totalize totalizing.added pec
    pec_from pec_byte pec_bit table formats_valid format_valid
    entry_of lookup command_of reading_of power_on_page page_valid valid_operation all_valid causes power_on_unpaged valid_page valid_protect unpaged_valid
    refused shown plain_of addressed_of request_of data_answer request_answer read_answer answers_data read_data request_data checked read_stream usual chosen_page
    chosen_unpaged power_on supported device_valid step
    answer_of calls.answered effect left sent
copies_occur = ((tt, (((is_changed, bytes), (tt, tt)), (tt, (tt, (tt, ((tt, (tt, tt)), tt)))))), refl)
