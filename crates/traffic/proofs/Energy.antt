-- The energy guarantee of the streaming device: energy's invariant holds of the account at the latest second address byte and the log up to
-- there, and the samples since lead to the device's account.
-- Assumes nothing.
use Prim.Native.Nat.{ℕ, ◌≤◌}
use mathlib.Core.Path.{◌≡◌, refl, sym, ap, ap₂, ◌∙◌, subst}
use mathlib.Core.Bool.{true, false, ◌&&◌, and-eq-true_iff, and-false, false≢true}
use mathlib.Core.List.{List, [], ◌∷◌, ◌++◌}
use native.Mathlib.Omega.{arith}
use lib.ListN.{length}
use lib.Dec.{eqb}
use borrow.Author.Tests.{eqb-true, ne_eqb}
use Rattle.laws.proofs.Branches.{either}
use Rattle.account.specs.declared.Account.{Account}
use Rattle.account.specs.Account.{sampled}
use Rattle.energy.specs.Reply.{Copy, AreCopies, energy_reply}
use Rattle.energy.specs.Events.{Log, fresh_log, log_sample, log_copies}
use Rattle.energy.specs.Claim.{AtEachCopy}
use Rattle.energy.proofs.Invariant.{Good, at_start, after-sample}
use Rattle.energy.proofs.Claim.{after-copies}
use Rattle.command.specs.Table.{table, entry_of, lookup}
use Rattle.command.specs.Paged.{paged}
use Rattle.unpaged.specs.Unpaged.{every_page}
use Rattle.writes.specs.Accepted.{code_of}
use Rattle.reads.specs.Request.{plain_of, addressed_of, request_of}
use Rattle.reads.specs.Answers.{data_answer, request_answer, read_answer, answers_data}
use Rattle.reads.specs.Reply.{reply_of}
use Rattle.reads.proofs.Lengths.{stream-length}
use Rattle.bus.specs.Part.{part_valid, heard}
use Rattle.bus.specs.Automaton.{start, byte, again, clock, stop}
use Rattle.device.specs.declared.Device.{Device}
use Rattle.device.specs.declared.Done.{Done}
use Rattle.device.specs.Device.{device_valid, power_on}
use Rattle.device.specs.Step.{Call, write, read, measure, sample, alert_response, tick, answer_of, answered, effect, sent, step}
use Rattle.device.proofs.PowerOn.{powered}
use Rattle.device.proofs.States.{answer-zero}
use Rattle.history.specs.Run.{next, answer}
use Rattle.history.specs.Energy.{is_energy_reply}
use Rattle.history.proofs.Outcomes.{done_next, by_answer, sends_code}
use Rattle.history.proofs.Account.{energy_of, refused-keeps, write_keeps, read_keeps, measure_keeps, alert_keeps, tick_keeps}
use Rattle.history.proofs.Energy.{the_reply}
use Rattle.stream.specs.Stream.{State, ended, byte_sent, stopped, called, Turn, on, call, device_next, after}
use Rattle.stream.proofs.Prefix.{read_sent}
use Rattle.stream.proofs.Sent.{reply-suc}
use Rattle.stream.proofs.Fold.{talk_byte, talked, Silent, fifteen-left}
use Rattle.stream.proofs.Claims.{valid_both}
use Rattle.traffic.specs.Underway.{Underway, nothing, bytes, turned, asked, goes_on}
use Rattle.traffic.specs.Whole.{begun}
use Rattle.traffic.specs.Energy.{Told, ends_energy, at_second, Pending, pending, fresh, noted, call_pending, pending_after, stream_log, CopiesSent, TrueTold, StreamEnergy}
use Rattle.traffic.proofs.Runs.{call_device}
use Rattle.traffic.proofs.Follow.{Matches, maker, matched_valid, moves, stop_deaf, silent-on, Stands, matched, silent, begins}

-- ---- samples taken one after the other

abbrev Later : Account → List ℕ → Account → Type 0
Later a [] b = a ≡ b
Later a (n ∷ late) b = (c : Account) × (Later a late c × (((sampled c n).answer ≡ 0) × ((sampled c n).account ≡ b)))

noted-good : (a : Account) (l : Log) (late : List ℕ) (b : Account) → Good a l → Later a late b → Good b (noted l late)
noted-good a l [] b g e = subst (λ (x : Account). Good x l) e g
noted-good a l (n ∷ late) b g k =
    let c = k.0 in
    subst (λ (x : Account). Good x (log_sample (noted l late) n 0)) k.1.1.1
    (rw k.1.1.0 at (after-sample c (noted l late) n (noted-good a l late c g k.1.0)))

-- ---- the reply to a read of 86h

abbrev ein_header : List ℕ
ein_header = 0xC0 ∷ 0x86 ∷ 0xC1 ∷ []

-- every valid device answers it with 0
ein_answer : (d : Device) → device_valid d ≡ true → answer d (read ein_header 8) ≡ 0
unfolding step answered answer_of read_answer request_of addressed_of plain_of lookup table entry_of request_answer data_answer paged
ein_answer d v = rw (v, and-false (every_page d.unpaged))

ein_known : (d : Device) → device_valid d ≡ true → is_energy_reply ein_header 8 (step d (read ein_header 8)) ≡ true
ein_known d v = ap (λ (a : ℕ). eqb a 0) (ein_answer d v)

-- ---- what holds after every turn; d is the device that made the latest reply

abbrev Sent : Underway → Device → List ℕ → Type 0
Sent nothing d x = Unit
Sent (bytes bs) d x = Unit
Sent (turned bs) d x = Unit
Sent (asked h n) d x = x ≡ reply_of (read_sent d h 8) n

record Fine (s : State) (u : Underway) (g : Pending) (d : Device) : Type 0 where
  matches : Matches s u d
  made : device_valid d ≡ true
  good : Good (energy_of d) g.log
  later : Later (energy_of d) g.late (energy_of s.device)
  said : Sent u d g.sent

module _ (s : State) (g : Pending) (d : Device) where
  -- ---- bytes

  byte-fine : (b : ℕ) (u : Underway) (cs : List Copy) → Fine s u g d
      → Fine (after s (on (byte b))) (goes_on u (on (byte b))) (pending_after s u g (on (byte b)) cs) (maker s u d (on (byte b)))
  unfolding after device_next pending_after
  byte-fine b nothing cs f =
      record { matches = moves s nothing d (on (byte b)) f.matches; made = f.made; good = f.good; later = f.later; said = tt }
  byte-fine b (bytes bs) cs f =
      record { matches = moves s (bytes bs) d (on (byte b)) f.matches; made = f.made; good = f.good; later = f.later; said = tt }
  byte-fine b (turned bs) cs f = record {
    matches = moves s (turned bs) d (on (byte b)) f.matches;
    made = (valid_both s (matched_valid s (turned bs) d f.matches)).1;
    good = noted-good (energy_of d) g.log g.late (energy_of s.device) f.good f.later;
    later = refl;
    said = refl;
  }
  byte-fine b (asked h n) cs f =
      record { matches = moves s (asked h n) d (on (byte b)) f.matches; made = f.made; good = f.good; later = f.later; said = tt }

  again_said : (u : Underway) → Sent (goes_on u (on again)) d g.sent
  again_said nothing = tt
  again_said (bytes bs) = tt
  again_said (turned bs) = tt
  again_said (asked h n) = tt

  -- ---- clocked bytes

  few : (h : List ℕ) → length (read_sent d h 8) ≤ 8
  unfolding sent
  few h = stream-length _ _ _ _ _

  clock_said : (u : Underway) → Matches s u d → Sent u d g.sent → Sent (goes_on u (on clock)) d (g.sent ++ (byte_sent s ∷ []))
  clock_said nothing k e = tt
  clock_said (bytes bs) k e = tt
  clock_said (turned bs) k e = tt
  clock_said (asked h n) k e =
      let x = read_sent d h 8 in
      ap₂ (λ (y : List ℕ) (b : ℕ). y ++ (b ∷ [])) e (talk_byte s h x n k (few h)) ∙ sym (reply-suc x n)

  -- ---- STOP

  module _ (u : Underway) (f : Fine s u g d) where
    stop_keeps : energy_of (stopped s).device ≡ energy_of s.device
    unfolding stopped ended
    stop_keeps =
        rw (matched_valid s u d f.matches)
        (either (eqb s.part.phase 1)
        (λ y. rw y (write_keeps s.device (heard s.part)))
        (λ n. rw n
        (either (eqb s.part.phase 3)
        (λ y. rw y (read_keeps s.device (heard s.part) s.part.clocked))
        (λ m. rw m refl))))

    stop_later : Later (energy_of d) g.late (energy_of (stopped s).device)
    stop_later = subst (λ (x : Account). Later (energy_of d) g.late x) (sym stop_keeps) f.later

  -- what was sent is the energy reply of the account at the second address byte
  ein_said : (h : List ℕ) (n : ℕ) → Fine s (asked h n) g d → ends_energy (asked h n) (stopped s).answer ≡ true
      → g.sent ≡ energy_reply 0x86 (energy_of d)
  unfolding step answers_data
  ein_said h n f e =
      let a = (and-eq-true_iff (eqb (code_of h) 0x86 && eqb n 8) (eqb (stopped s).answer 0)).0 e in
      let b = (and-eq-true_iff (eqb (code_of h) 0x86) (eqb n 8)).0 a.0 in
      let eight = eqb-true n 8 b.1 in
      let t = talked s h (read_sent d h 8) n f.matches in
      let z : answer s.device (read h n) ≡ 0 = ap (λ (r : Done). r.answer) (sym t) ∙ eqb-true (stopped s).answer 0 a.1 in
      let is = eqb-true (code_of h) 0x86 b.0 in
      let ein : h ≡ ein_header = (sends_code s.device h n (ap answers_data z) (λ e. omega arith)).spelled ∙ rw is in
      f.said
      ∙ ap₂ (λ (x : List ℕ) (k : ℕ). reply_of (read_sent d x 8) k) ein eight
      ∙ the_reply d ein_header 8 (ein_known d f.made)

  energy_said : (u : Underway) → Fine s u g d → ends_energy u (stopped s).answer ≡ true → g.sent ≡ energy_reply 0x86 (energy_of d)
  energy_said nothing f e = absurd (false≢true e)
  energy_said (bytes bs) f e = absurd (false≢true e)
  energy_said (turned bs) f e = absurd (false≢true e)
  energy_said (asked h n) f e = ein_said h n f e

  stop_fine : (u : Underway) (cs : List Copy) → Fine s u g d → CopiesSent s u g (on stop) cs
      → Fine (after s (on stop)) nothing (pending_after s u g (on stop) cs) d
  unfolding after device_next pending_after CopiesSent
  stop_fine u cs f m =
      let k = moves s u d (on stop) f.matches in
      either (ends_energy u (stopped s).answer)
      (λ e. let r = energy_said u f e in
      rw e (record {
        matches = k;
        made = f.made;
        good = subst (λ (x : List ℕ). Good (energy_of d) (log_copies 0x86 x g.log cs)) (sym r)
            (after-copies 0x86 (energy_of d) g.log cs (subst (λ (x : List ℕ). AreCopies x cs) r (m e)) f.good);
        later = stop_later u f;
        said = tt;
      }))
      (λ n. rw n (record { matches = k; made = f.made; good = f.good; later = stop_later u f; said = tt }))

  -- ---- other calls

  module _ (u : Underway) (f : Fine s u g d) where
    part-kept : part_valid s.part ≡ true
    part-kept = (valid_both s (matched_valid s u d f.matches)).0

    kept : (c : Call) → energy_of (next s.device c) ≡ energy_of s.device → Fine (after s (call c)) u g d
    kept c e = record {
      matches = moves s u d (call c) f.matches;
      made = f.made;
      good = f.good;
      later = subst (λ (x : Account). Later (energy_of d) g.late x) (sym (ap energy_of (call_device s part-kept c) ∙ e)) f.later;
      said = f.said;
    }

    taken : (n : ℕ) → answer s.device (sample n) ≡ 0 → Fine (after s (call (sample n))) u (pending g.log (n ∷ g.late) g.sent) d
    unfolding effect answer_of answered step
    taken n z =
        let a : (sampled (energy_of s.device) n).answer ≡ 0 = answer-zero s.device (sample n) z in
        record {
          matches = moves s u d (call (sample n)) f.matches;
          made = f.made;
          good = f.good;
          later = (
            energy_of s.device,
            (f.later, (a, sym (ap energy_of (call_device s part-kept (sample n) ∙ done_next s.device (sample n) z)))),
          );
          said = f.said;
        }

    sample_fine : (n : ℕ) → Fine (after s (call (sample n))) u (call_pending g (sample n) (answer s.device (sample n))) d
    unfolding call_pending
    sample_fine n =
        by_answer s.device (sample n)
        (λ z. rw z (taken n z))
        (λ r. rw (ne_eqb (answer s.device (sample n)) 0 r) (kept (sample n) (refused-keeps s.device (sample n) r)))

    by_call : (c : Call) → Fine (after s (call c)) u (call_pending g c (answer s.device c)) d
    unfolding call_pending
    by_call (write x) = kept (write x) (write_keeps s.device x)
    by_call (read h n) = kept (read h n) (read_keeps s.device h n)
    by_call (measure p q w) = kept (measure p q w) (measure_keeps s.device p q w)
    by_call (sample n) = sample_fine n
    by_call (alert_response n) = kept (alert_response n) (alert_keeps s.device n)
    by_call tick = kept tick (tick_keeps s.device)

    call_answer : (c : Call) → (called s c).done.answer ≡ answer s.device c
    unfolding called
    call_answer c = rw part-kept

    call_fine : (c : Call) → Fine (after s (call c)) u (call_pending g c (called s c).done.answer) d
    call_fine c = rw (call_answer c) (by_call c)

  -- ---- a turn

  fine_on : (u : Underway) (t : Turn) (cs : List Copy) → Fine s u g d → CopiesSent s u g t cs
      → Fine (after s t) (goes_on u t) (pending_after s u g t cs) (maker s u d t)
  unfolding after device_next pending_after
  fine_on u (on start) cs f m =
      record { matches = moves s u d (on start) f.matches; made = f.made; good = f.good; later = f.later; said = tt }
  fine_on u (on (byte b)) cs f m = byte-fine b u cs f
  fine_on u (on again) cs f m =
      record { matches = moves s u d (on again) f.matches; made = f.made; good = f.good; later = f.later; said = again_said u }
  fine_on u (on clock) cs f m = record {
    matches = moves s u d (on clock) f.matches;
    made = f.made;
    good = f.good;
    later = f.later;
    said = clock_said u f.matches f.said;
  }
  fine_on u (on stop) cs f m = stop_fine u cs f m
  fine_on u (call c) cs f m = call_fine u f c

along : (ts : List Told) (s : State) (u : Underway) (g : Pending) (d : Device) → Fine s u g d → TrueTold s u g ts
    → AtEachCopy (stream_log s u g ts).history
unfolding stream_log TrueTold
along [] s u g d f m = (noted-good (energy_of d) g.log g.late (energy_of s.device) f.good f.later).claims
along (t ∷ ts) s u g d f m =
    along ts (after s t.turn) (goes_on u t.turn) (pending_after s u g t.turn t.copies) (maker s u d t.turn)
    (fine_on s g d u t.turn t.copies f m.0) m.1

-- ---- a device that is not valid takes no sample and ends no energy reply

record Mute (s : State) (g : Pending) : Type 0 where
  deaf : Silent s
  log_is : g.log ≡ fresh_log
  none-late : g.late ≡ []

mute_noted : (s : State) (g : Pending) → Mute s g → noted g.log g.late ≡ fresh_log
mute_noted s g k = rw k.none-late k.log_is

no_energy : (u : Underway) → ends_energy u 15 ≡ false
no_energy nothing = refl
no_energy (bytes bs) = refl
no_energy (turned bs) = refl
no_energy (asked h n) = and-false (eqb (code_of h) 0x86 && eqb n 8)

call_deaf : (s : State) (c : Call) → Silent s → (called s c).done.answer ≡ 15
unfolding called
call_deaf s c w = rw w.kept (ap (λ (r : Done). r.answer) (fifteen-left s.device c w.invalid))

mute_call : (g : Pending) (c : Call) → call_pending g c 15 ≡ g
unfolding call_pending
mute_call g (write x) = refl
mute_call g (read h n) = refl
mute_call g (measure p q w) = refl
mute_call g (sample n) = refl
mute_call g (alert_response n) = refl
mute_call g tick = refl

mute_on : (s : State) (u : Underway) (g : Pending) (t : Turn) (cs : List Copy) → Mute s g → Mute (after s t) (pending_after s u g t cs)
unfolding pending_after
mute_on s u g (on start) cs k =
    record { deaf = silent-on s (on start) k.deaf; log_is = k.log_is; none-late = k.none-late }
mute_on s u g (on (byte b)) cs k =
    let w = silent-on s (on (byte b)) k.deaf in
    either (at_second u)
    (λ y. rw y (record { deaf = w; log_is = mute_noted s g k; none-late = refl }))
    (λ n. rw n (record { deaf = w; log_is = k.log_is; none-late = k.none-late }))
mute_on s u g (on again) cs k =
    record { deaf = silent-on s (on again) k.deaf; log_is = k.log_is; none-late = k.none-late }
mute_on s u g (on clock) cs k =
    record { deaf = silent-on s (on clock) k.deaf; log_is = k.log_is; none-late = k.none-late }
mute_on s u g (on stop) cs k =
    rw (stop_deaf s k.deaf, no_energy u)
    (record { deaf = silent-on s (on stop) k.deaf; log_is = k.log_is; none-late = k.none-late })
mute_on s u g (call c) cs k =
    rw (call_deaf s c k.deaf, mute_call g c)
    (record { deaf = silent-on s (call c) k.deaf; log_is = k.log_is; none-late = k.none-late })

mute_along : (ts : List Told) (s : State) (u : Underway) (g : Pending) → Mute s g → AtEachCopy (stream_log s u g ts).history
unfolding stream_log AtEachCopy
mute_along [] s u g k = rw (mute_noted s g k) tt
mute_along (t ∷ ts) s u g k =
    mute_along ts (after s t.turn) (goes_on u t.turn) (pending_after s u g t.turn t.copies)
    (mute_on s u g t.turn t.copies k)

pub stream-energy : StreamEnergy
unfolding StreamEnergy
stream-energy x ts m = from (begins x)
  where
    from : Stands (begun x) nothing (power_on x) → AtEachCopy (stream_log (begun x) nothing fresh ts).history
    from (matched k) =
        along ts (begun x) nothing fresh (power_on x)
        (record {
          matches = k;
          made = (valid_both (begun x) (matched_valid (begun x) nothing (power_on x) k)).1;
          good = rw (powered x).energy at_start;
          later = refl;
          said = tt;
        }) m
    from (silent w) = mute_along ts (begun x) nothing fresh (record { deaf = w; log_is = refl; none-late = refl })
