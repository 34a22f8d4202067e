-- A transaction over a lent buffer is the whole device's call.
-- Assumes nothing.
use Prim.Native.Nat.{ℕ}
use mathlib.Core.Path.{◌≡◌, refl, ap, ap₂, ◌∙◌}
use mathlib.Core.List.{List, [], ◌∷◌, ◌++◌}
use lib.ListN.{length}
use Rattle.bus.specs.Automaton.{Event, start, byte, again, clock, stop}
use Rattle.bus.specs.Orders.{write_order, read_order}
use Rattle.device.specs.declared.Done.{Done}
use Rattle.device.specs.Step.{write, read, sent, Result, step}
use Rattle.stream.specs.Stream.{State, stopped, on, device_next, after, feed, sent_in, events}
use Rattle.stream.specs.Claims.{Written, Read}
use Rattle.stream.proofs.Claims.{written, read_claim}
use Rattle.layout.specs.Layout.{size}
use Rattle.layout.specs.State.{decode, device_of}
use Rattle.buffer.specs.Buffer.{event_fed}
use Rattle.traffic.specs.Buffers.{EventsDecode, GivesSame}
use Rattle.traffic.specs.Transactions.{fed_events, sent_bytes, Ended, OverBuffer}
use Rattle.traffic.proofs.Runs.{write_sends}
use Rattle.traffic.proofs.Buffers.{event_length, events-decode, gives_same}

fed-length : (es : List Event) (s : List ℕ) → length s ≡ size → length (fed_events s es) ≡ size
fed-length [] s long = long
fed-length (e ∷ es) s long = fed-length es (event_fed s e) (event_length s e long)

fed-decode : (es : List Event) (s : List ℕ) → length s ≡ size → decode (fed_events s es) ≡ feed (decode s) (events es)
unfolding feed EventsDecode
fed-decode [] s long = refl
fed-decode (e ∷ es) s long =
    fed-decode es (event_fed s e) (event_length s e long) ∙ ap (λ (x : State). feed x (events es)) (events-decode s e long)

-- one event on
sent-on : (e : Event) (es : List Event) (s : List ℕ) → length s ≡ size
    → sent_bytes (event_fed s e) es ≡ sent_in (decode (event_fed s e)) (events es)
    → sent_bytes (event_fed s e) es ≡ sent_in (after (decode s) (on e)) (events es)
unfolding EventsDecode
sent-on e es s long h = h ∙ ap (λ (x : State). sent_in x (events es)) (events-decode s e long)

sent-decode : (es : List Event) (s : List ℕ) → length s ≡ size → sent_bytes s es ≡ sent_in (decode s) (events es)
unfolding sent_in GivesSame
sent-decode [] s long = refl
sent-decode (start ∷ es) s long = sent-on start es s long (sent-decode es (event_fed s start) (event_length s start long))
sent-decode (byte b ∷ es) s long = sent-on (byte b) es s long (sent-decode es (event_fed s (byte b)) (event_length s (byte b) long))
sent-decode (again ∷ es) s long = sent-on again es s long (sent-decode es (event_fed s again) (event_length s again long))
sent-decode (clock ∷ es) s long =
    ap₂ (λ (b : ℕ) (l : List ℕ). b ∷ l) (gives_same s long).clock
    (sent-on clock es s long (sent-decode es (event_fed s clock) (event_length s clock long)))
sent-decode (stop ∷ es) s long = sent-on stop es s long (sent-decode es (event_fed s stop) (event_length s stop long))

stop_device : (x : State) → (after x (on stop)).device ≡ (stopped x).device
unfolding after device_next
stop_device x = refl

-- what the rules say of the state that the buffer holds, said of the buffer
ended_so : (s : List ℕ) (es : List Event) (r : Result) → length s ≡ size → stopped (feed (decode s) (events (start ∷ es))) ≡ r.done
    → sent_in (decode s) (events (start ∷ es)) ≡ r.reply → Ended s es r
unfolding EventsDecode GivesSame
ended_so s es r long same said =
    let t = fed_events s (start ∷ es) in
    let n = fed-length (start ∷ es) s long in
    let done : stopped (decode t) ≡ r.done = ap stopped (fed-decode (start ∷ es) s long) ∙ same in
    record {
      left = ap (λ (x : State). x.device) (events-decode t stop n) ∙ stop_device (decode t) ∙ ap (λ (q : Done). q.device) done;
      answer = (gives_same t n).stop ∙ ap (λ (q : Done). q.answer) done;
      sent = sent-decode (start ∷ es) s long ∙ said;
    }

write_said : (x : State) (bs : List ℕ) → sent_in x (events (start ∷ write_order bs)) ≡ (step x.device (write bs)).reply
unfolding sent_in step sent
write_said x bs = write_sends bs (after x (on start))

pub over-buffer : OverBuffer
unfolding OverBuffer Written Read
over-buffer s long v = (
  λ bs. ended_so s (write_order bs) (step (device_of s) (write bs)) long (written (decode s) bs v) (write_said (decode s) bs),
  λ bs b n.
      let e = read_claim (decode s) bs b n v in
      ended_so s (read_order bs b n) (step (device_of s) (read (bs ++ b ∷ []) n)) long e.0 e.1,
)
