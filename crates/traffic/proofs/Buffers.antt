-- The streaming device over a lent buffer is the streaming device.
-- Assumes nothing.
use Prim.Native.Nat.{ℕ, ◌*◌}
use mathlib.Core.Path.{◌≡◌, refl, sym, ap, ap₂, ◌∙◌, subst}
use mathlib.Core.Bool.{true, false, and-eq-true_iff}
use mathlib.Core.List.{List, [], ◌∷◌, append-nil}
use lib.ListN.{length}
use borrow.Author.Tests.{eq-eqb, ne_eqb}
use Rattle.laws.proofs.Branches.{either}
use Rattle.bus.specs.Part.{part_valid, idle}
use Rattle.bus.specs.Automaton.{Event, start, byte, again, clock, stop, part_after}
use Rattle.reads.specs.Answers.{answers_data}
use Rattle.reads.specs.Data.{read_stream}
use Rattle.reads.specs.Reply.{reply_of, alert_stream}
use Rattle.device.specs.declared.Device.{Device}
use Rattle.device.specs.declared.Done.{Done}
use Rattle.device.specs.Device.{usual, supported, power_on, device_valid}
use Rattle.device.specs.Step.{Call, write, read, measure, sample, alert_response, tick, answered, sent, clocked, done, Result, step}
use Rattle.device.proofs.PowerOn.{usual-granted}
use Rattle.stream.specs.Stream.{State, state, state_valid, part_next, ended, begin_answer, byte_ack, byte_sent, stopped, called, Turn, on, call, device_next, after, feed}
use Rattle.stream.proofs.Fold.{fifteen-left}
use Rattle.layout.specs.Form.{array}
use Rattle.layout.specs.Layout.{part_form, state_form, choice_form, choices_in, size}
use Rattle.layout.specs.State.{decode, encode, ready, part_of, device_of}
use Rattle.layout.proofs.Laws.{array_back, state-back, choice-back}
use Rattle.layout.proofs.StoredPart.{idle-sized, part_length, part-decodes}
use Rattle.layout.proofs.EightPages.{whole_wide, choice-wide}
use Rattle.buffer.specs.Buffer.{stores, store_device, call_fed, end_stores, stop_fed, part_fed, taken_of, event_fed, power_fed, powered_by, power_by_fed, gives, refuses, event_gives, call_gives, call_sends, power_gives, power_by_gives}
use Rattle.buffer.proofs.Powering.{power_fits, by_choice}
use Rattle.traffic.specs.Runs.{NoFifteen}
use Rattle.traffic.specs.Buffers.{Decodes, EventsDecode, CallsDecode, PowerDecodes, ChoicesDecode, PowerByDecodes, LengthStays, Given, GivesSame, LeftAlone, WrongLength, WrongLengthBy, fed_all, BufferRuns, AlwaysReady, AlwaysReadyBy}
use Rattle.traffic.proofs.Runs.{no_fifteen}
use Rattle.traffic.proofs.StoredDevice.{Storable, device-length, device-decodes}
use Rattle.traffic.proofs.Fitting.{held-sized, next-sized, held-fitting, call_storable, ended-storable}

-- ---- power-on

pub decodes : Decodes
unfolding Decodes decode encode
decodes x h = (
  state-back.sized x h ∙ whole_wide,
  ap (λ (l : List ℕ). state_form.get l 0) (sym (append-nil (state_form.put x))) ∙ state-back.back x h [] [],
)

power_is : (s : List ℕ) → length s ≡ size → power_fed s ≡ encode (state idle (power_on (usual 8)))
unfolding power_fed
power_is s long = rw (eq-eqb (length s) size long)

pub power_decodes : PowerDecodes
unfolding PowerDecodes Decodes
power_decodes s long = ap decode (power_is s long) ∙ (decodes (state idle (power_on (usual 8))) power_fits).1

power_length : (s : List ℕ) → length s ≡ size → length (power_fed s) ≡ size
unfolding Decodes
power_length s long = ap length (power_is s long) ∙ (decodes (state idle (power_on (usual 8))) power_fits).0

pub choices_decode : ChoicesDecode
unfolding ChoicesDecode
choices_decode cs fits =
    let b = array_back choice_form choice-back 8 in
    (b.sized cs fits ∙ ap (λ (w : ℕ). 8 * w) choice-wide, ap (λ (t : List ℕ). choices_in t) (sym (append-nil ((array 8 choice_form).put cs))) ∙ b.back cs fits [] [])

power_by_is : (s cs : List ℕ) → length s ≡ size → power_by_fed s cs ≡ encode (state idle (powered_by cs).device)
unfolding power_by_fed
power_by_is s cs long = rw (eq-eqb (length s) size long)

pub power_by_decodes : PowerByDecodes
unfolding PowerByDecodes Decodes
power_by_decodes s cs long =
    let b = by_choice cs in
    let fits : state_form.Fits (state idle (powered_by cs).device) = rw b.same b.fits in
    let e = decodes (state idle (powered_by cs).device) fits in
    (ap length (power_by_is s cs long) ∙ e.0, ap decode (power_by_is s cs long) ∙ e.1)

-- ---- STOP, by the test for 15

stopped-valid : (x : State) → state_valid x ≡ true → stopped x ≡ ended x.device x.part
unfolding stopped
stopped-valid x v = rw v

stopped-not : (x : State) → state_valid x ≡ false → stopped x ≡ done x.device 15
unfolding stopped
stopped-not x n = rw n

-- ---- a buffer that is ready

module _ (s : List ℕ) (long : length s ≡ size) where
  ready-is : ready s ≡ state_valid (decode s)
  unfolding ready
  ready-is = rw (eq-eqb (length s) size long)

  part-taken : (e : Event) → decode (part_fed s e) ≡ state (part_next (device_of s) (part_of s) e) (device_of s)
  unfolding part_fed
  part-taken e = part-decodes s long (part_next (device_of s) (part_of s) e) (next-sized (part_of s) (held-sized s) (device_of s) e)

  part-long : (e : Event) → length (part_fed s e) ≡ size
  unfolding part_fed
  part-long e = part_length s long (part_next (device_of s) (part_of s) e) (next-sized (part_of s) (held-sized s) (device_of s) e)

  -- STOP stores the device behind a part that is at rest again
  emptied : List ℕ
  emptied = part_form.store s 0 idle

  emptied_is : decode emptied ≡ state idle (device_of s)
  unfolding emptied
  emptied_is = part-decodes s long idle idle-sized

  emptied_long : length emptied ≡ size
  unfolding emptied
  emptied_long = part_length s long idle idle-sized

  stop_storable : Storable (end_stores (device_of s) (part_of s)) (device_of emptied) (ended (device_of s) (part_of s)).device
  stop_storable =
      subst (λ (x : State). Storable (end_stores (device_of s) (part_of s)) x.device (ended (device_of s) (part_of s)).device)
      (sym emptied_is) (ended-storable (device_of s) (held-fitting s) (part_of s))

  stop_taken : decode (stop_fed s) ≡ state idle (ended (device_of s) (part_of s)).device
  unfolding stop_fed emptied
  stop_taken =
      device-decodes (end_stores (device_of s) (part_of s)) emptied emptied_long (ended (device_of s) (part_of s)).device stop_storable
      ∙ ap (λ (x : State). state x.part (ended (device_of s) (part_of s)).device) emptied_is

  stop_long : length (stop_fed s) ≡ size
  unfolding stop_fed emptied
  stop_long =
      device-length (end_stores (device_of s) (part_of s)) emptied emptied_long (ended (device_of s) (part_of s)).device stop_storable

  taken : state_valid (decode s) ≡ true → (e : Event) → decode (taken_of s e) ≡ after (decode s) (on e)
  unfolding taken_of after device_next part_next part_after
  taken v start = rw v (part-taken start)
  taken v (byte b) = rw v (part-taken (byte b))
  taken v again = rw v (part-taken again)
  taken v clock = rw v (part-taken clock)
  taken v stop = rw v (stop_taken ∙ ap (λ (r : Done). state idle r.device) (sym (stopped-valid (decode s) v)))

  taken-long : (e : Event) → length (taken_of s e) ≡ size
  unfolding taken_of
  taken-long start = part-long start
  taken-long (byte b) = part-long (byte b)
  taken-long again = part-long again
  taken-long clock = part-long clock
  taken-long stop = stop_long

  call_made : (c : Call) → decode (store_device (stores (device_of s) c) s (step (device_of s) c).done.device) ≡ state (part_of s) (step (device_of s) c).done.device
  call_made c =
      device-decodes (stores (device_of s) c) s long (step (device_of s) c).done.device (call_storable (device_of s) (held-fitting s) c)

  call_long : (c : Call) → length (store_device (stores (device_of s) c) s (step (device_of s) c).done.device) ≡ size
  call_long c =
      device-length (stores (device_of s) c) s long (step (device_of s) c).done.device (call_storable (device_of s) (held-fitting s) c)

-- ---- a state that is not valid stays, and gets 15

event_stays : (x : State) → state_valid x ≡ false → (e : Event) → x ≡ after x (on e)
unfolding after device_next
event_stays x n start = rw n
event_stays x n (byte b) = rw n
event_stays x n again = rw n
event_stays x n clock = rw n
event_stays x n stop = rw n (ap (λ (r : Done). state x.part r.device) (sym (stopped-not x n)))

none-sent : (d : Device) (c : Call) → sent d c 15 ≡ []
unfolding sent read_stream answers_data alert_stream
none-sent d (write s) = refl
none-sent d (read header n) = refl
none-sent d (measure page quantity word) = refl
none-sent d (sample n) = refl
none-sent d (alert_response n) = refl
none-sent d tick = refl

abbrev turned_away : Device → Call → Result
turned_away d c = record { done = done d 15; reply = reply_of [] (clocked c) }

silent : (d : Device) (c : Call) → device_valid d ≡ false → (step d c).reply ≡ reply_of [] (clocked c)
unfolding step answered
silent d c n = rw (n, none-sent d c)

call_stays : (x : State) (c : Call) → state_valid x ≡ false → called x c ≡ turned_away x.device c
unfolding called state_valid
call_stays x c n =
    either (part_valid x.part)
    (λ y. let m : device_valid x.device ≡ false = rw y at n in
    rw y (ap₂ made (fifteen-left x.device c m) (silent x.device c m)))
    (λ o. rw o)
  where
    made : Done → List ℕ → Result
    made r reply = record { done = r; reply = reply }

called-step : (x : State) (c : Call) → state_valid x ≡ true → called x c ≡ step x.device c
unfolding called state_valid
called-step x c v = rw ((and-eq-true_iff (part_valid x.part) (device_valid x.device)).0 v).0

-- ---- the claims

pub events-decode : EventsDecode
unfolding EventsDecode event_fed
events-decode s e long =
    either (state_valid (decode s))
    (λ v. rw (ready-is s long, v) (taken s long v e))
    (λ n. rw (ready-is s long, n) (event_stays (decode s) n e))

pub calls_decode : CallsDecode
unfolding CallsDecode call_fed after
calls_decode s c long =
    let x = decode s in
    either (state_valid x)
    (λ v. rw (ready-is s long, v) (call_made s long c ∙ ap (λ (r : Result). state x.part r.done.device) (sym (called-step x c v))))
    (λ n. rw (ready-is s long, n) (ap (λ (r : Result). state x.part r.done.device) (sym (call_stays x c n))))

pub event_length : (s : List ℕ) (e : Event) → length s ≡ size → length (event_fed s e) ≡ size
unfolding event_fed
event_length s e long = either (ready s) (λ y. rw y (taken-long s long e)) (λ n. rw n long)

call_length : (s : List ℕ) (c : Call) → length s ≡ size → length (call_fed s c) ≡ size
unfolding call_fed
call_length s c long = either (ready s) (λ y. rw y (call_long s long c)) (λ n. rw n long)

pub length-stays : LengthStays
unfolding LengthStays
length-stays s e c long = (event_length s e long, (call_length s c long, power_length s long))

-- ---- what is given

given-ready : (s : List ℕ) → length s ≡ size → state_valid (decode s) ≡ true → Given s
unfolding event_gives gives refuses call_gives call_sends begin_answer byte_ack byte_sent
given-ready s long v =
    let x = decode s in
    let r : ready s ≡ true = ready-is s long ∙ v in
    record {
      start = rw (r, v);
      again = rw (r, v);
      byte = λ b. rw (r, v);
      clock = rw (r, v);
      stop = rw r (ap (λ (q : Done). q.answer) (sym (stopped-valid x v)));
      call = λ c. let e = called-step x c v in (
        rw r (ap (λ (q : Result). q.done.answer) (sym e)),
        rw r (ap (λ (q : Result). q.reply) (sym e)),
      );
    }

given-not : (s : List ℕ) → length s ≡ size → state_valid (decode s) ≡ false → Given s
unfolding event_gives gives refuses call_gives call_sends begin_answer byte_ack byte_sent
given-not s long n =
    let x = decode s in
    let r : ready s ≡ false = ready-is s long ∙ n in
    record {
      start = rw (r, n);
      again = rw (r, n);
      byte = λ b. rw (r, n);
      clock = rw (r, n);
      stop = rw r (ap (λ (q : Done). q.answer) (sym (stopped-not x n)));
      call = λ c. let e = call_stays x c n in (
        rw r (ap (λ (q : Result). q.done.answer) (sym e)),
        rw r (ap (λ (q : Result). q.reply) (sym e)),
      );
    }

pub gives_same : GivesSame
unfolding GivesSame
gives_same s long = either (state_valid (decode s)) (given-ready s long) (given-not s long)

-- ---- a buffer that is not ready

pub left_alone : LeftAlone
unfolding LeftAlone event_fed call_fed event_gives call_gives
left_alone s e c n = (rw n, (rw n, (rw n, rw n)))

pub wrong_length : WrongLength
unfolding WrongLength ready power_fed power_gives
wrong_length s h = let n = ne_eqb (length s) size h in (rw n, (rw n, rw n))

pub wrong_length_by : WrongLengthBy
unfolding WrongLengthBy power_by_fed power_by_gives
wrong_length_by s cs h = let n = ne_eqb (length s) size h in (rw n, rw n)

-- ---- runs

pub buffer_runs : BufferRuns
unfolding BufferRuns fed_all feed EventsDecode CallsDecode
buffer_runs s [] long = refl
buffer_runs s (on e ∷ ts) long =
    buffer_runs (event_fed s e) ts (event_length s e long) ∙ ap (λ (x : State). feed x ts) (events-decode s e long)
buffer_runs s (call c ∷ ts) long =
    buffer_runs (call_fed s c) ts (call_length s c long) ∙ ap (λ (x : State). feed x ts) (calls_decode s c long)

run_length : (s : List ℕ) (ts : List Turn) → length s ≡ size → length (fed_all s ts) ≡ size
unfolding fed_all
run_length s [] long = long
run_length s (on e ∷ ts) long = run_length (event_fed s e) ts (event_length s e long)
run_length s (call c ∷ ts) long = run_length (call_fed s c) ts (call_length s c long)

pub always_ready : AlwaysReady
unfolding AlwaysReady BufferRuns PowerDecodes NoFifteen supported
always_ready s ts long =
    let m = power_length s long in
    ready-is (fed_all (power_fed s) ts) (run_length (power_fed s) ts m)
    ∙ ap state_valid (buffer_runs (power_fed s) ts m ∙ ap (λ (x : State). feed x ts) (power_decodes s long))
    ∙ no_fifteen (usual 8) ts (usual-granted 8)

pub always_ready_by : AlwaysReadyBy
unfolding AlwaysReadyBy BufferRuns PowerByDecodes NoFifteen
always_ready_by s cs ts long =
    let b = by_choice cs in
    let p = power_by_decodes s cs long in
    ready-is (fed_all (power_by_fed s cs) ts) (run_length (power_by_fed s cs) ts p.0)
    ∙ ap state_valid (buffer_runs (power_by_fed s cs) ts p.0 ∙ ap (λ (x : State). feed x ts) (p.1 ∙ ap (λ (d : Device). state idle d) b.same))
    ∙ no_fifteen b.x ts b.is_granted
