-- A run from power-on for each value that what is kept of a transaction may have. The reply's bytes are those of a word that was written and
-- is read back, and of the energy account after many samples, whose number is a variable: nothing of such a run is computed.
-- Assumes nothing.
use Prim.Native.Nat.{ℕ, zero, suc, ◌+◌, ◌*◌, ◌/◌, ◌%◌, ◌<◌, min}
use mathlib.Core.Path.{◌≡◌, refl, sym, ap, ◌∙◌}
use mathlib.Core.Bool.{true, cond, and-eq-true_iff, and-false}
use mathlib.Core.List.{List, [], ◌∷◌, ◌++◌, append-nil}
use native.Mathlib.Omega.{arith}
use lib.Bits.{bit_xor, xor_lt, xor_zero_l}
use lib.Dec.{eqb, ltb, ltb→lt}
use lib.ListN.{length, get_or, replicate, length-replicate, get_or-replicate}
use lib.Seq.{append_snoc, take_all}
use Rattle.laws.specs.Lists.{Bytes}
use Rattle.laws.proofs.Every.{each, agree}
use Rattle.laws.proofs.Lists.{all_replicate}
use Rattle.pec.specs.Pec.{pec, pec_from, pec_byte, pec_bit}
use Rattle.pec.proofs.Xor.{xor_undone}
use Rattle.pec.proofs.Laws.{pec-lt, pec-append}
use Rattle.account.specs.declared.Account.{Account}
use Rattle.account.specs.Account.{Sampled}
use Rattle.account.specs.Account.{account_valid, added, energy_reading, ein_bytes}
use Rattle.account.proofs.Laws.{in_range, taken, added-count, added-energy, added-valid}
use Rattle.command.specs.Table.{table, entry_of, lookup}
use Rattle.command.specs.Meaning.{command_of, setting_of, reading_of}
use Rattle.command.specs.Paged.{paged}
use Rattle.bus.specs.Part.{part_valid, idle}
use Rattle.bus.specs.Automaton.{start, byte, again, clock, stop}
use Rattle.bus.specs.Orders.{write_order, read_order}
use Rattle.page.specs.declared.Page.{Page}
use Rattle.page.specs.declared.PageChoice.{PageChoice}
use Rattle.page.specs.Choice.{usual_page, page_granted, chosen_page}
use Rattle.unpaged.specs.Unpaged.{power_on_unpaged, every_page}
use Rattle.writes.specs.Asked.{write_of, asked, valid_setting, valid_write}
use Rattle.writes.specs.Answers.{permitted, data_answer, length_answer, code_answer, addressed_answer, write_answer}
use Rattle.reads.specs.Request.{plain_of, addressed_of, request_of}
use Rattle.reads.specs.Answers.{data_answer as clockedAnswer, request_answer, read_answer, answers_data}
use Rattle.reads.specs.Data.{word_bytes, read_data, request_data, checked, read_stream}
use Rattle.reads.specs.Reply.{reply_of}
use Rattle.device.specs.declared.Device.{Device}
use Rattle.device.specs.Device.{choice, usual, supported, granted, power_on, device_valid, page_shown}
use Rattle.device.specs.Step.{write, sample, answer_of, answered, effect, sent, step}
use Rattle.device.proofs.States.{answered-of}
use Rattle.device.proofs.PowerOn.{usual-number, usual-granted, usual-device, powered}
use Rattle.history.specs.Run.{next, answer, run, reached}
use Rattle.history.specs.ReadBack.{Reads, written_data, WriteThenRead}
use Rattle.history.proofs.Outcomes.{done_next}
use Rattle.history.proofs.Account.{energy_of}
use Rattle.history.proofs.ReadBack.{write_then_read}
use Rattle.stream.specs.Stream.{State, state, state_valid, Turn, on, call, device_next, after, feed, events}
use Rattle.stream.specs.Claims.{NoStart}
use Rattle.stream.proofs.Prefix.{read_sent, sent-any}
use Rattle.stream.proofs.Fold.{Hears, hear_start, hear_byte, hear_again, Talks, talk_start, talk_clock, feed-append}
use Rattle.stream.proofs.Claims.{no_start}
use Rattle.traffic.specs.Runs.{NoFifteen, a_write, AsRun}
use Rattle.traffic.specs.Occurs.{reached_by, PhaseOccurs, CountOccurs, ClockedOccurs, BytesOccur, ReplyOccurs, FormatsOccur}
use Rattle.traffic.proofs.Runs.{part-of, feed-valid, no_fifteen, call_device, as_run}

-- ---- every state of a run is valid

valid_run : (ts : List Turn) → state_valid (reached_by ts) ≡ true
unfolding NoFifteen supported
valid_run ts = no_fifteen (usual 8) ts (usual-granted 8)

abbrev powered_on : State
powered_on = state idle (power_on (usual 8))

valid_start : state_valid powered_on ≡ true
unfolding feed
valid_start = valid_run []

-- ---- transactions from a valid state

device-of : (s : State) → state_valid s ≡ true → device_valid s.device ≡ true
unfolding state_valid
device-of s v = ((and-eq-true_iff (part_valid s.part) (device_valid s.device)).0 v).1

hear_bytes : (bs : List ℕ) (s : State) (h : List ℕ) → Hears 1 s h → Hears 1 (feed s (events (write_order bs))) (h ++ bs)
unfolding feed
hear_bytes [] s h k = rw (append-nil h) k
hear_bytes (b ∷ bs) s h k =
    rw (append_snoc h b bs) at (hear_bytes bs (after s (on (byte b))) (h ++ b ∷ []) (hear_byte s h b k))

-- a read of a code: both address bytes came, and then n bytes were clocked
abbrev asking : ℕ → ℕ → List Turn
asking code n = events (start ∷ read_order (0xC0 ∷ code ∷ []) 0xC1 n)

abbrev header_of : ℕ → List ℕ
header_of code = 0xC0 ∷ code ∷ 0xC1 ∷ []

talk_clocks : (n : ℕ) (s : State) (h x : List ℕ) (k : ℕ) → Talks s h x k → Talks (feed s (events (replicate n clock))) h x (n + k)
unfolding feed
talk_clocks zero s h x k w = let e : 0 + k ≡ k = omega arith in rw e w
talk_clocks (suc n) s h x k w =
    let e : n + suc k ≡ suc n + k = omega arith in
    rw e at (talk_clocks n (after s (on clock)) h x (suc k) (talk_clock s h x k w))

module _ (s : State) (v : state_valid s ≡ true) where
  hears : (bs : List ℕ) → Hears 1 (feed s (events (start ∷ write_order bs))) bs
  unfolding feed
  hears bs = hear_bytes bs (after s (on start)) [] (hear_start s (part-of s v) (device-of s v))

  talks : (code n : ℕ) → Talks (feed s (asking code n)) (header_of code) (read_sent s.device (header_of code) 8) (n + 0)
  unfolding feed after device_next
  talks code n =
      let t = feed s (events (start ∷ write_order (0xC0 ∷ code ∷ []))) in
      let u = after t (on again) in
      let h : List ℕ = 0xC0 ∷ code ∷ [] in
      talk_clocks n (after u (on (byte 0xC1))) (header_of code) (read_sent s.device (header_of code) 8) 0
      (talk_start u h 0xC1 (hear_again t h (hears h)))

-- ---- the numbers

pub phase_occurs : PhaseOccurs
unfolding PhaseOccurs feed idle NoStart
phase_occurs zero h = ([], refl)
phase_occurs (suc zero) h = (on start ∷ [], (hears powered_on valid_start []).phase_is)
phase_occurs (suc (suc zero)) h =
    (on start ∷ on again ∷ [], (hear_again (after powered_on (on start)) [] (hears powered_on valid_start [])).phase_is)
phase_occurs (suc (suc (suc zero))) h = (asking 0 0, (talks powered_on valid_start 0 0).phase_is)
phase_occurs (suc (suc (suc (suc zero)))) h = (on (byte 0) ∷ [], (no_start powered_on valid_start refl).1.0 0)
phase_occurs (suc (suc (suc (suc (suc x))))) h = absurd (omega arith)

-- so many bytes
pub count_occurs : CountOccurs
unfolding CountOccurs
count_occurs x h =
    let bs : List ℕ = replicate x 0 in
    let n : length bs ≡ x = length-replicate x 0 in
    let c = (hears powered_on valid_start bs).holds.size in
    (events (start ∷ write_order bs), omega arith)

-- so many bytes clocked
pub clocked-occurs : ClockedOccurs
unfolding ClockedOccurs
clocked-occurs x h =
    let c = (talks powered_on valid_start 0 x).so_far in
    (asking 0 x, omega arith)

-- ---- the bytes

pub bytes_occur : BytesOccur
unfolding BytesOccur
bytes_occur l h =
    let ts = events (start ∷ write_order l) in
    let k = (hears powered_on valid_start l).holds in
    let p = (reached_by ts).part in
    let size = k.size in
    let room = k.room in
    let full : min p.count 11 ≡ 11 = omega arith in
    (ts, sym (take_all 11 p.bytes (omega arith)) ∙ rw full at k.same ∙ take_all 11 l (omega arith))

-- ---- the reply

replied : (ts : List Turn) (code : ℕ)
    → (reached_by (ts ++ asking code 0)).part.reply ≡ reply_of (read_sent (reached_by ts).device (header_of code) 8) 8
replied ts code =
    ap (λ (t : State). t.part.reply) (feed-append powered_on ts (asking code 0)) ∙ (talks (reached_by ts) (valid_run ts) code 0).reply-is

-- ---- the last byte can make the packet check any byte

-- a bit, or eight, worked back
bit_back : ℕ → ℕ
bit_back y = cond (eqb (y % 2) 0) (y / 2) (bit_xor y 7 / 2 + 128)

byte_back : ℕ → ℕ
byte_back y = bit_back (bit_back (bit_back (bit_back (bit_back (bit_back (bit_back (bit_back y)))))))

-- a byte is taken in by xor, so a byte xor the register leaves what the byte alone leaves at 0
from_zero : (c z : ℕ) → pec_byte c (bit_xor c z) ≡ pec_byte 0 z
unfolding pec_byte
from_zero c z = rw (xor_undone c z, xor_zero_l z)

module _ (x : ℕ) (h : x < 256) where
  back-lt : byte_back x < 256
  unfolding byte_back bit_back
  back-lt = ltb→lt (byte_back x) 256 (each (λ x. ltb (byte_back x) 256) 256 tt x h)

  there_again : pec_byte 0 (byte_back x) ≡ x
  unfolding byte_back bit_back pec_byte pec_bit
  there_again = agree (λ x. pec_byte 0 (byte_back x)) (λ x. x) 256 tt x h

  module _ (s : List ℕ) where
    last_byte : ℕ
    last_byte = bit_xor (pec_from 0 s) (byte_back x)

    last-lt : last_byte < 256
    unfolding last_byte
    last-lt = xor_lt 8 (pec_from 0 s) (byte_back x) (pec-lt 0 s (omega arith)) back-lt

    last-check : pec (s ++ last_byte ∷ []) ≡ x
    unfolding last_byte pec pec_from
    last-check = pec-append 0 s (last_byte ∷ []) ∙ from_zero (pec_from 0 s) (byte_back x) ∙ there_again

-- ---- VOUT_COMMAND, written and read: low byte, high byte, packet check

abbrev vout_write : ℕ → ℕ → List ℕ
vout_write low high = 0xC0 ∷ 0x21 ∷ low ∷ high ∷ []

abbrev writing : ℕ → ℕ → List Turn
writing low high = events (start ∷ (write_order (vout_write low high) ++ (stop ∷ [])))

module _ (low high : ℕ) where
  accepted : answer (reached (usual 8) []) (write (vout_write low high)) ≡ 0
  unfolding
      run step answered answer_of power_on_unpaged write_answer addressed_answer code_answer length_answer data_answer permitted valid_write
      valid_setting asked write_of command_of setting_of lookup table entry_of feed
  accepted = rw (device-of powered_on valid_start, usual-device 8)

  written-device : (reached_by (writing low high)).device ≡ next (power_on (usual 8)) (write (vout_write low high))
  unfolding AsRun run
  written-device = as_run (power_on (usual 8)) (a_write (vout_write low high) ∷ [])

  reads_back : low < 256 → high < 256 → Reads (reached_by (writing low high)).device 0x21 (low ∷ high ∷ [])
  unfolding WriteThenRead run supported Bytes written_data lookup table entry_of
  reads_back l h =
      rw written-device
      (write_then_read (usual 8) [] (vout_write low high) 3 (usual-granted 8) (omega arith, (omega arith, (l, (h, tt)))) (omega arith) refl
      (rw ((powered (usual 8)).selected, usual-number 8) (omega arith)) accepted)

-- a reply of two bytes shows the word, and the check over it is sent behind it
vout-sent : (d : Device) (low high : ℕ) → Reads d 0x21 (low ∷ high ∷ [])
    → read_sent d (header_of 0x21) 8 ≡ low ∷ high ∷ pec (header_of 0x21 ++ (low ∷ high ∷ [])) ∷ []
unfolding
    step sent read_stream answers_data checked request_of addressed_of plain_of request_data read_data command_of setting_of lookup table entry_of
vout-sent d low high r =
    let two = r.reply in
    let w = (page_shown d).command in
    let data_is : word_bytes w ≡ low ∷ high ∷ [] = rw r.accepted at two in
    sent-any d (header_of 0x21) 8 2 ∙ rw r.accepted
    (ap (λ (x : List ℕ). x ++ (pec (header_of 0x21 ++ x) ∷ [])) data_is)

vout-reply : (low high : ℕ) → low < 256 → high < 256
    → (reached_by (writing low high ++ asking 0x21 0)).part.reply
    ≡ reply_of (low ∷ high ∷ pec (header_of 0x21 ++ (low ∷ high ∷ [])) ∷ []) 8
vout-reply low high l h =
    replied (writing low high) 0x21
    ∙ ap (λ (x : List ℕ). reply_of x 8) (vout-sent (reached_by (writing low high)).device low high (reads_back low high l h))

-- ---- READ_EIN after samples

abbrev samples : ℕ → ℕ → List Turn
samples n x = replicate n (call (sample x))

-- in a run, after n samples of x
record Booked (x n : ℕ) (s : State) : Type 0 where
  valid : state_valid s ≡ true
  range : account_valid (energy_of s.device) ≡ true
  energy : energy_reading (energy_of s.device) ≡ n * x % 8388608
  count : (energy_of s.device).count ≡ n % 16777216

module _ (x : ℕ) (small : x < 32768) where
  sample_taken : (d : Device) → device_valid d ≡ true → energy_of (next d (sample x)) ≡ added (energy_of d) x
  unfolding step answer_of effect
  sample_taken d v =
      let t = taken (energy_of d) x small in
      let zero-answer : answer d (sample x) ≡ 0 = answered-of d (sample x) v ∙ ap (λ (r : Sampled). r.answer) t in
      ap energy_of (done_next d (sample x) zero-answer) ∙ ap (λ (r : Sampled). r.account) t

  sample_next : (s : State) → state_valid s ≡ true → energy_of (after s (call (sample x))).device ≡ added (energy_of s.device) x
  sample_next s v = ap energy_of (call_device s (part-of s v) (sample x)) ∙ sample_taken s.device (device-of s v)

  one_booked : (n : ℕ) (s : State) → Booked x n s → Booked x (suc n) (after s (call (sample x)))
  unfolding feed
  one_booked n s b =
      let a = energy_of s.device in
      let e = sample_next s b.valid in
      let was = b.energy in
      let counted = b.count in
      record {
        valid = feed-valid (call (sample x) ∷ []) s b.valid;
        range = ap account_valid e ∙ added-valid a x b.range small;
        energy = ap energy_reading e ∙ added-energy a x b.range small ∙ omega arith;
        count = ap (λ (z : Account). z.count) e ∙ added-count a x ∙ omega arith;
      }

  all_booked : (n m : ℕ) (s : State) → Booked x m s → Booked x (n + m) (feed s (samples n x))
  unfolding feed
  all_booked zero m s b = let e : 0 + m ≡ m = omega arith in rw e b
  all_booked (suc n) m s b =
      let e : n + suc m ≡ suc n + m = omega arith in
      rw e at (all_booked n (suc m) (after s (call (sample x))) (one_booked m s b))

  none-booked : Booked x 0 powered_on
  unfolding account_valid energy_reading
  none-booked =
      let e = (powered (usual 8)).energy in
      record { valid = valid_start; range = rw e; energy = rw e (omega arith); count = rw e (omega arith) }

  booked : (n : ℕ) → Booked x n (reached_by (samples n x))
  booked n = let e : n + 0 ≡ n = omega arith in rw e at (all_booked n 0 powered_on none-booked)

-- no page has to be selected
ein_sent : (d : Device) → device_valid d ≡ true
    → read_sent d (header_of 0x86) 8 ≡ ein_bytes (energy_of d) ++ (pec (header_of 0x86 ++ ein_bytes (energy_of d)) ∷ [])
unfolding
    sent answered answer_of read_answer request_of addressed_of plain_of request_answer clockedAnswer paged read_stream answers_data checked request_data read_data
    command_of reading_of lookup table entry_of
ein_sent d v = rw (v, and-false (every_page d.unpaged))

ein_reply : (ts : List Turn)
    → (reached_by (ts ++ asking 0x86 0)).part.reply
    ≡ ein_bytes (energy_of (reached_by ts).device) ++ (pec (header_of 0x86 ++ ein_bytes (energy_of (reached_by ts).device)) ∷ [])
unfolding ein_bytes
ein_reply ts =
    replied ts 0x86 ∙ ap (λ (x : List ℕ). reply_of x 8) (ein_sent (reached_by ts).device (device-of (reached_by ts) (valid_run ts)))

-- ---- the eight bytes of a reply

abbrev Found : ℕ → ℕ → Type 0
Found k x = (ts : List Turn) × (get_or (reached_by ts).part.reply k 255 ≡ x)

-- the account after n samples of y, and a byte of the reply to READ_EIN then
abbrev account_after : ℕ → ℕ → Account
account_after n y = energy_of (reached_by (samples n y)).device

ein_found : (n y k x : ℕ)
    → get_or (ein_bytes (account_after n y) ++ (pec (header_of 0x86 ++ ein_bytes (account_after n y)) ∷ [])) k 255 ≡ x → Found k x
ein_found n y k x e = (samples n y ++ asking 0x86 0, ap (λ (r : List ℕ). get_or r k 255) (ein_reply (samples n y)) ∙ e)

module _ (x : ℕ) (h : x < 256) where
  -- the low and the high byte of a word, and the check with the high byte running
  zeroth : Found 0 x
  zeroth = (writing x 0 ++ asking 0x21 0, ap (λ (r : List ℕ). get_or r 0 255) (vout-reply x 0 h (omega arith)))

  first : Found 1 x
  first = (writing 0 x ++ asking 0x21 0, ap (λ (r : List ℕ). get_or r 1 255) (vout-reply 0 x (omega arith) h))

  second : Found 2 x
  second =
      let high = last_byte x h (header_of 0x21 ++ (0 ∷ [])) in
      let l : high < 256 = last-lt x h (header_of 0x21 ++ (0 ∷ [])) in (
        writing 0 high ++ asking 0x21 0,
        ap (λ (r : List ℕ). get_or r 2 255) (vout-reply 0 high (omega arith) l) ∙ last-check x h (header_of 0x21 ++ (0 ∷ [])),
      )

  -- two samples of half a rollover for each
  third : Found 3 x
  unfolding ein_bytes energy_reading
  third =
      let b = booked 16384 (omega arith) (x * 2) in
      let r = in_range (account_after (x * 2) 16384) b.range in
      let e = b.energy in
      ein_found (x * 2) 16384 3 x (omega arith)

  -- samples of 0 only count
  fourth : Found 4 x
  unfolding ein_bytes
  fourth = let c = (booked 0 (omega arith) x).count in ein_found x 0 4 x (omega arith)

  fifth : Found 5 x
  unfolding ein_bytes
  fifth = let c = (booked 0 (omega arith) (x * 256)).count in ein_found (x * 256) 0 5 x (omega arith)

  sixth : Found 6 x
  unfolding ein_bytes
  sixth = let c = (booked 0 (omega arith) (x * 65536)).count in ein_found (x * 65536) 0 6 x (omega arith)

-- after so many samples of 0 that only the count's high byte is not 0
high_count : (high : ℕ) → high < 256 → (a : Account) → account_valid a ≡ true → energy_reading a ≡ 0 → a.count ≡ high * 65536
    → ein_bytes a ≡ 6 ∷ 0 ∷ 0 ∷ 0 ∷ 0 ∷ 0 ∷ high ∷ []
unfolding ein_bytes energy_reading
high_count high l a v e c =
    let r = in_range a v in
    let p : a.accumulator ≡ 0 = omega arith in
    let q : a.rollover ≡ 0 = omega arith in
    let x : high * 65536 % 256 ≡ 0 = omega arith in
    let w : high * 65536 / 256 ≡ high * 256 = omega arith in
    let y : high * 256 % 256 ≡ 0 = omega arith in
    let z : high * 65536 / 65536 % 256 ≡ high = omega arith in
    rw (p, q, c, x, w, y, z)

seventh : (x : ℕ) → x < 256 → Found 7 x
seventh x h =
    let s : List ℕ = header_of 0x86 ++ (6 ∷ 0 ∷ 0 ∷ 0 ∷ 0 ∷ 0 ∷ []) in
    let high = last_byte x h s in
    let l : high < 256 = last-lt x h s in
    let b = booked 0 (omega arith) (high * 65536) in
    let e = b.energy in
    let c = b.count in
    let bytes = high_count high l (account_after (high * 65536) 0) b.range (omega arith) (omega arith) in
    ein_found (high * 65536) 0 7 x (rw bytes (last-check x h s))

pub reply-occurs : ReplyOccurs
unfolding ReplyOccurs
reply-occurs zero x k h = zeroth x h
reply-occurs (suc zero) x k h = first x h
reply-occurs (suc (suc zero)) x k h = second x h
reply-occurs (suc (suc (suc zero))) x k h = third x h
reply-occurs (suc (suc (suc (suc zero)))) x k h = fourth x h
reply-occurs (suc (suc (suc (suc (suc zero))))) x k h = fifth x h
reply-occurs (suc (suc (suc (suc (suc (suc zero)))))) x k h = sixth x h
reply-occurs (suc (suc (suc (suc (suc (suc (suc zero))))))) x k h = seventh x h
reply-occurs (suc (suc (suc (suc (suc (suc (suc (suc n)))))))) x k h = absurd (omega arith)

-- ---- formats

pub formats_occur : FormatsOccur
unfolding FormatsOccur granted supported page_granted chosen_page
formats_occur fs v =
    let c : PageChoice = record { formats = fs; limits = [] } in
    let x = choice (replicate 8 c) in (
      x,
      (
        all_replicate page_granted 8 c v,
        (
          refl,
          λ i h. ap (λ (p : Page). p.formats) ((powered x).page i h)
              ∙ ap (λ (k : PageChoice). k.formats) (get_or-replicate 8 i c usual_page h),
        ),
      ),
    )
