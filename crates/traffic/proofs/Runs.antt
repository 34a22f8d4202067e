-- Runs of the streaming device.
-- Assumes nothing.
use Prim.Native.Nat.{ℕ}
use mathlib.Core.Path.{◌≡◌, refl, ap, ap₂, ◌∙◌}
use mathlib.Core.Bool.{true, and-eq-true_iff}
use mathlib.Core.List.{List, [], ◌∷◌, ◌++◌}
use lib.Dec.{eqb}
use Rattle.laws.proofs.Branches.{either}
use Rattle.bus.specs.declared.Part.{Part}
use Rattle.bus.specs.Part.{part_valid, heard, started, idle}
use Rattle.bus.specs.Automaton.{Event, start, byte, again, clock, stop, part_after}
use Rattle.bus.specs.Orders.{write_order, read_order, Inner}
use Rattle.device.specs.declared.Device.{Device}
use Rattle.device.specs.declared.Done.{Done}
use Rattle.device.specs.Device.{power_on, device_valid}
use Rattle.device.specs.Step.{Call, write, read, step}
use Rattle.history.specs.Run.{next, run}
use Rattle.history.specs.Valid.{ReachedValid}
use Rattle.history.proofs.Valid.{valid_after, reached-valid}
use Rattle.stream.specs.Stream.{State, state, state_valid, ended, stopped, called, Turn, on, call, part_next, device_next, after, feed, sent_in, events}
use Rattle.stream.specs.Claims.{Written, Read}
use Rattle.stream.proofs.Fold.{whole, stays, feed-append, feed-kept}
use Rattle.stream.proofs.Claims.{written, read_claim, events-append}
use Rattle.traffic.specs.Runs.{NoFifteen, Item, a_write, a_read, a_call, turns_of, calls_of, AsRun, Outcome, given_along, whole_along, SameOutcomes, NoStop, calls_in, UntilStop, Within, events_in}

-- ---- no 15

ended-valid : (d : Device) (p : Part) → device_valid d ≡ true → device_valid (ended d p).device ≡ true
unfolding ended
ended-valid d p v =
    either (eqb p.phase 1)
    (λ y. rw y (valid_after d (write (heard p)) v))
    (λ n. rw n
    (either (eqb p.phase 3)
    (λ y. rw y (valid_after d (read (heard p) p.clocked) v))
    (λ m. rw m v)))

device-stays : (s : State) (t : Turn) → state_valid s ≡ true → device_valid (after s t).device ≡ true
unfolding after device_next stopped called state_valid
device-stays s (on start) v = ((and-eq-true_iff (part_valid s.part) (device_valid s.device)).0 v).1
device-stays s (on (byte b)) v = ((and-eq-true_iff (part_valid s.part) (device_valid s.device)).0 v).1
device-stays s (on again) v = ((and-eq-true_iff (part_valid s.part) (device_valid s.device)).0 v).1
device-stays s (on clock) v = ((and-eq-true_iff (part_valid s.part) (device_valid s.device)).0 v).1
device-stays s (on stop) v =
    rw v (ended-valid s.device s.part ((and-eq-true_iff (part_valid s.part) (device_valid s.device)).0 v).1)
device-stays s (call c) v =
    let both = (and-eq-true_iff (part_valid s.part) (device_valid s.device)).0 v in
    rw both.0 (valid_after s.device c both.1)

pub part-of : (s : State) → state_valid s ≡ true → part_valid s.part ≡ true
unfolding state_valid
part-of s v = ((and-eq-true_iff (part_valid s.part) (device_valid s.device)).0 v).0

pub feed-valid : (ts : List Turn) (s : State) → state_valid s ≡ true → state_valid (feed s ts) ≡ true
unfolding feed
feed-valid [] s v = v
feed-valid (t ∷ ts) s v = feed-valid ts (after s t) (whole (after s t) (stays s t (part-of s v)) (device-stays s t v))

pub idle-valid : part_valid idle ≡ true
unfolding part_valid idle
idle-valid = refl

pub no_fifteen : NoFifteen
unfolding NoFifteen ReachedValid run
no_fifteen x ts h = feed-valid ts (state idle (power_on x)) (whole (state idle (power_on x)) idle-valid (reached-valid x [] h))

-- ---- runs of transactions

-- the state after STOP, of which the part is valid and the device what STOP leaves
stop_device : (s : State) → (after s (on stop)).device ≡ (stopped s).device
unfolding after device_next
stop_device s = refl

module _ (s : State) (v : part_valid s.part ≡ true) where
  after_stop : (es : List Event) → feed s (events (start ∷ (es ++ (stop ∷ [])))) ≡ after (feed s (events (start ∷ es))) (on stop)
  unfolding feed
  after_stop es =
      ap (feed (after s (on start))) (events-append es (stop ∷ [])) ∙ feed-append (after s (on start)) (events es) (events (stop ∷ []))

  write_device : (bs : List ℕ) → (feed s (events (start ∷ (write_order bs ++ (stop ∷ []))))).device ≡ next s.device (write bs)
  unfolding Written
  write_device bs =
      ap (λ (t : State). t.device) (after_stop (write_order bs))
      ∙ stop_device (feed s (events (start ∷ write_order bs)))
      ∙ ap (λ (r : Done). r.device) (written s bs v)

  read_device : (bs : List ℕ) (b n : ℕ) → (feed s (events (start ∷ (read_order bs b n ++ (stop ∷ []))))).device ≡ next s.device (read (bs ++ b ∷ []) n)
  unfolding Read
  read_device bs b n =
      ap (λ (t : State). t.device) (after_stop (read_order bs b n))
      ∙ stop_device (feed s (events (start ∷ read_order bs b n)))
      ∙ ap (λ (r : Done). r.device) (read_claim s bs b n v).0

  pub call_device : (c : Call) → (after s (call c)).device ≡ next s.device c
  unfolding after called
  call_device c = rw v

items : (l : List Item) (s : State) → part_valid s.part ≡ true → (feed s (turns_of l)).device ≡ run s.device (calls_of l)
unfolding feed run
items [] s v = refl
items (a_write bs ∷ l) s v =
    let ts = events (start ∷ (write_order bs ++ (stop ∷ []))) in
    ap (λ (t : State). t.device) (feed-append s ts (turns_of l))
    ∙ items l (feed s ts) (feed-kept ts s v)
    ∙ ap (λ (d : Device). run d (calls_of l)) (write_device s v bs)
items (a_read bs b n ∷ l) s v =
    let ts = events (start ∷ (read_order bs b n ++ (stop ∷ []))) in
    ap (λ (t : State). t.device) (feed-append s ts (turns_of l))
    ∙ items l (feed s ts) (feed-kept ts s v)
    ∙ ap (λ (d : Device). run d (calls_of l)) (read_device s v bs b n)
items (a_call c ∷ l) s v =
    items l (after s (call c)) (stays s (call c) v) ∙ ap (λ (d : Device). run d (calls_of l)) (call_device s v c)

pub as_run : AsRun
unfolding AsRun
as_run d l = items l (state idle d) idle-valid

-- ---- what each item gives

-- a write sends nothing
pub write_sends : (bs : List ℕ) (s : State) → sent_in s (events (write_order bs)) ≡ []
unfolding sent_in
write_sends [] s = refl
write_sends (b ∷ bs) s = write_sends bs (after s (on (byte b)))

outcome : ℕ → List ℕ → Outcome
outcome a r = record { answer = a; sent = r }

alike : (l : List Item) (s : State) → part_valid s.part ≡ true → given_along s l ≡ whole_along s.device (calls_of l)
unfolding outcome feed sent_in step Written Read called after
alike [] s v = refl
alike (a_write bs ∷ l) s v =
    let ts = events (start ∷ (write_order bs ++ (stop ∷ []))) in
    let same = feed-append s ts [] in
    ap₂ (λ (x : Outcome) (r : List Outcome). x ∷ r)
    (ap₂ outcome (ap (λ (r : Done). r.answer) (written s bs v)) (write_sends bs (after s (on start))))
    (ap (λ (t : State). given_along t l) same ∙ alike l (feed s ts) (feed-kept ts s v) ∙ ap (λ (d : Device). whole_along d (calls_of l)) (write_device s v bs))
alike (a_read bs b n ∷ l) s v =
    let ts = events (start ∷ (read_order bs b n ++ (stop ∷ []))) in
    let same = feed-append s ts [] in
    ap₂ (λ (x : Outcome) (r : List Outcome). x ∷ r)
    (ap₂ outcome (ap (λ (r : Done). r.answer) (read_claim s bs b n v).0) (read_claim s bs b n v).1)
    (ap (λ (t : State). given_along t l) same ∙ alike l (feed s ts) (feed-kept ts s v) ∙ ap (λ (d : Device). whole_along d (calls_of l)) (read_device s v bs b n))
alike (a_call c ∷ l) s v =
    ap₂ (λ (x : Outcome) (r : List Outcome). x ∷ r)
    (rw v)
    (alike l (after s (call c)) (stays s (call c) v) ∙ ap (λ (d : Device). whole_along d (calls_of l)) (call_device s v c))

pub same_outcomes : SameOutcomes
unfolding SameOutcomes
same_outcomes d l = alike l (state idle d) idle-valid

-- ---- until STOP

by_calls : (ts : List Turn) (s : State) → part_valid s.part ≡ true → NoStop ts → (feed s ts).device ≡ run s.device (calls_in ts)
unfolding feed run after device_next
by_calls [] s v h = refl
by_calls (on start ∷ ts) s v h = by_calls ts (after s (on start)) (stays s (on start) v) h
by_calls (on (byte b) ∷ ts) s v h = by_calls ts (after s (on (byte b))) (stays s (on (byte b)) v) h
by_calls (on again ∷ ts) s v h = by_calls ts (after s (on again)) (stays s (on again) v) h
by_calls (on clock ∷ ts) s v h = by_calls ts (after s (on clock)) (stays s (on clock) v) h
by_calls (on stop ∷ ts) s v h = absurd h
by_calls (call c ∷ ts) s v h =
    by_calls ts (after s (call c)) (stays s (call c) v) h ∙ ap (λ (d : Device). run d (calls_in ts)) (call_device s v c)

start-drops : (s : State) → state_valid s ≡ true → after s (on start) ≡ state started s.device
unfolding after device_next part_next part_after
start-drops s v = rw v

pub until_stop : UntilStop
unfolding UntilStop
until_stop s ts v h = (by_calls ts s (part-of s v) h, start-drops (feed s ts) (feed-valid ts s v))

-- ---- between START and STOP

pub within-inner : (ts : List Turn) → Within ts → Inner (events_in ts)
within-inner [] h = tt
within-inner (on start ∷ ts) h = absurd h
within-inner (on (byte b) ∷ ts) h = within-inner ts h
within-inner (on again ∷ ts) h = within-inner ts h
within-inner (on clock ∷ ts) h = within-inner ts h
within-inner (on stop ∷ ts) h = absurd h
within-inner (call c ∷ ts) h = within-inner ts h
