-- The energy claim: energy's invariant holds of the device's account and the log after every call.
-- Assumes nothing.
use Prim.Native.Nat.{ℕ}
use mathlib.Core.Path.{◌≡◌, ap, ◌∙◌}
use mathlib.Core.Bool.{true, ◌&&◌, and-eq-true_iff}
use mathlib.Core.List.{List, [], ◌∷◌}
use native.Mathlib.Omega.{arith}
use lib.Dec.{eqb}
use borrow.Author.Tests.{eqb-true, ne_eqb}
use Rattle.laws.proofs.Branches.{either}
use Rattle.account.specs.Account.{ein_bytes, sampled}
use Rattle.energy.specs.Reply.{Copy, AreCopies, energy_reply}
use Rattle.energy.specs.Events.{Log, fresh_log, log_sample}
use Rattle.energy.specs.Claim.{AtEachCopy}
use Rattle.energy.proofs.Invariant.{Good, at_start, after-sample}
use Rattle.energy.proofs.Claim.{after-copies}
use Rattle.command.specs.Table.{table, entry_of, lookup}
use Rattle.command.specs.Meaning.{command_of, reading_of}
use Rattle.writes.specs.Accepted.{code_of}
use Rattle.reads.specs.Request.{plain_of, addressed_of, request_of}
use Rattle.reads.specs.Answers.{answers_data}
use Rattle.reads.specs.Data.{read_data, request_data, checked, read_stream}
use Rattle.device.specs.declared.Device.{Device}
use Rattle.device.specs.Device.{power_on}
use Rattle.device.specs.Step.{Call, write, read, measure, sample, alert_response, tick, answer_of, effect, sent, step}
use Rattle.device.proofs.PowerOn.{powered}
use Rattle.history.specs.Run.{next, answer}
use Rattle.history.specs.Energy.{Turn, is_energy_reply, part_of, part, log_part, log_after, CopiesOf, TrueCopies, TotalsTrusted}
use Rattle.device.proofs.States.{answer-zero}
use Rattle.history.proofs.Outcomes.{done_next, by_answer, sends_code}
use Rattle.history.proofs.Account.{energy_of, refused-keeps, write_keeps, read_keeps, measure_keeps, alert_keeps, tick_keeps}

-- ---- an energy reply is the account's

-- the header of READ_EIN
abbrev ein_header : List ℕ
ein_header = 0xC0 ∷ 0x86 ∷ 0xC1 ∷ []

of_ein : (d : Device) → answer d (read ein_header 8) ≡ 0 → (step d (read ein_header 8)).reply ≡ energy_reply 0x86 (energy_of d)
unfolding
    step sent read_stream answers_data checked request_of addressed_of plain_of request_data lookup table entry_of command_of reading_of read_data energy_reply
    ein_bytes
of_ein d z = rw z

module _ (d : Device) (header : List ℕ) (n : ℕ) where
  pub the_reply : is_energy_reply header n (step d (read header n)) ≡ true → (step d (read header n)).reply ≡ energy_reply 0x86 (energy_of d)
  unfolding answers_data
  the_reply e =
      let a = (and-eq-true_iff (eqb (code_of header) 0x86 && eqb n 8) (eqb (answer d (read header n)) 0)).0 e in
      let b = (and-eq-true_iff (eqb (code_of header) 0x86) (eqb n 8)).0 a.0 in
      let z = eqb-true (answer d (read header n)) 0 a.1 in
      let is = eqb-true (code_of header) 0x86 b.0 in
      let ein : header ≡ ein_header = (sends_code d header n (ap answers_data z) (λ e. omega arith)).spelled ∙ rw is in
      let eight = eqb-true n 8 b.1 in
      rw (ein, eight) (of_ein d (rw (ein, eight) at z))

-- ---- a call

module _ (d : Device) (l : Log) (g : Good (energy_of d) l) where
  not_taken : (n a : ℕ) → (a ≡ 0 → ⊥) → Good (energy_of d) (log_sample l n a)
  not_taken n a r = rw (ne_eqb a 0 r) g

  after-sampled : (n : ℕ) → Good (energy_of (next d (sample n))) (log_sample l n (answer d (sample n)))
  unfolding step answer_of effect
  after-sampled n =
      by_answer d (sample n)
      (λ z. let a : (sampled (energy_of d) n).answer ≡ 0 = answer-zero d (sample n) z in
      rw (done_next d (sample n) z, z) (rw a at (after-sample (energy_of d) l n g)))
      (λ r. rw (refused-keeps d (sample n) r) (not_taken n (answer d (sample n)) r))

  after_read : (header : List ℕ) (n : ℕ) (cs : List Copy) → CopiesOf cs (part_of (read header n) (step d (read header n)))
      → Good (energy_of d) (log_part l cs (part_of (read header n) (step d (read header n))))
  unfolding part_of CopiesOf log_part
  after_read header n cs m =
      either (is_energy_reply header n (step d (read header n)))
      (λ e.
      let copies : AreCopies (step d (read header n)).reply cs = rw e at m in
      let same = the_reply d header n e in
      rw (e, same) (after-copies 0x86 (energy_of d) l cs (rw same at copies) g))
      (λ e. rw e g)

  after_call : (c : Call) (cs : List Copy) → CopiesOf cs (part_of c (step d c)) → Good (energy_of (next d c)) (log_part l cs (part_of c (step d c)))
  unfolding part_of log_part
  after_call (write s) cs m = rw (write_keeps d s) g
  after_call (read header n) cs m = rw (read_keeps d header n) (after_read header n cs m)
  after_call (measure page quantity word) cs m = rw (measure_keeps d page quantity word) g
  after_call (sample n) cs m = after-sampled n
  after_call (alert_response n) cs m = rw (alert_keeps d n) g
  after_call tick cs m = rw (tick_keeps d) g

-- ---- a list of them

after-calls : (d : Device) (l : Log) (ts : List Turn) → Good (energy_of d) l → TrueCopies d ts
    → AtEachCopy (log_after d l ts).history
unfolding log_after TrueCopies
after-calls d l [] g m = g.claims
after-calls d l (t ∷ ts) g m =
    after-calls (next d t.call) (log_part l t.copies (part d t)) ts (after_call d l g t.call t.copies m.0) m.1

pub totals-trusted : TotalsTrusted
unfolding TotalsTrusted
totals-trusted x ts m = after-calls (power_on x) fresh_log ts (rw (powered x).energy at_start) m
