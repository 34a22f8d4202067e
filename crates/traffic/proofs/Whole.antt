-- Every run of the streaming device is a run of whole calls.
-- Assumes nothing.
use Prim.Native.Nat.{ℕ}
use mathlib.Core.Path.{◌≡◌, refl, sym, ap, ap₂, ◌∙◌}
use mathlib.Core.Bool.{true}
use mathlib.Core.List.{List, [], ◌∷◌, ◌++◌}
use Rattle.bus.specs.Part.{part_valid}
use Rattle.bus.specs.Automaton.{start, byte, again, clock, stop}
use Rattle.device.specs.declared.Device.{Device}
use Rattle.device.specs.declared.Done.{Done}
use Rattle.device.specs.Device.{power_on}
use Rattle.device.specs.Step.{Call, write, read, step}
use Rattle.stream.specs.Stream.{State, stopped, called, Turn, on, call, device_next, after, feed}
use Rattle.stream.specs.Claims.{Written, Read}
use Rattle.stream.proofs.Prefix.{read_sent}
use Rattle.stream.proofs.Fold.{heard-write, heard-turn, talked, Silent, deaf_stop, feed-kept}
use Rattle.stream.proofs.Claims.{written, read_claim}
use Rattle.history.specs.Run.{next, answer, run}
use Rattle.traffic.specs.Runs.{Reaches}
use Rattle.traffic.specs.Underway.{Underway, nothing, bytes, turned, asked, goes_on}
use Rattle.traffic.specs.Whole.{ended_by, call_of, whole_calls, ended_with, answer_at, answers_in, answers_of, begun, AsCalls, TransactionsAlike}
use Rattle.traffic.proofs.Runs.{idle-valid}
use Rattle.traffic.proofs.Follow.{quiet-stop, Matches, maker, stop_deaf, Stands, matched, silent, stands_on, begins}

-- ---- one call after the other

run-append : (d : Device) (xs ys : List Call) → run d (xs ++ ys) ≡ run (run d xs) ys
unfolding run
run-append d [] ys = refl
run-append d (c ∷ xs) ys = run-append (next d c) xs ys

answers_append : (d : Device) (xs ys : List Call) → answers_of d (xs ++ ys) ≡ answers_of d xs ++ answers_of (run d xs) ys
unfolding run
answers_append d [] ys = refl
answers_append d (c ∷ xs) ys = ap (λ (l : List ℕ). answer d c ∷ l) (answers_append (next d c) xs ys)

-- ---- a turn

-- what a STOP gives, d being the device and c what STOP ends
record Made (r : Done) (d : Device) (u : Underway) : Type 0 where
  device : r.device ≡ run d (ended_by u)
  answers : ended_with u r.answer ≡ answers_of d (ended_by u)

stop_made : (s : State) (u : Underway) (d : Device) → Matches s u d → Made (stopped s) s.device u
unfolding run
stop_made s nothing d k = record { device = ap (λ (r : Done). r.device) (quiet-stop s k); answers = refl }
stop_made s (bytes bs) d k =
    let e = heard-write s bs k in
    record { device = ap (λ (r : Done). r.device) e; answers = ap (λ (r : Done). r.answer ∷ []) e }
stop_made s (turned bs) d k = record { device = ap (λ (r : Done). r.device) (heard-turn s bs k); answers = refl }
stop_made s (asked h n) d k =
    let e = talked s h (read_sent d h 8) n k in
    record { device = ap (λ (r : Done). r.device) e; answers = ap (λ (r : Done). r.answer ∷ []) e }

stop_silent : (s : State) (u : Underway) → Silent s → Made (stopped s) s.device u
unfolding run
stop_silent s nothing w = record { device = ap (λ (r : Done). r.device) (stop_deaf s w); answers = refl }
stop_silent s (bytes bs) w =
    let e = deaf_stop s w (write bs) in
    record { device = ap (λ (r : Done). r.device) e; answers = ap (λ (r : Done). r.answer ∷ []) e }
stop_silent s (turned bs) w = record { device = ap (λ (r : Done). r.device) (stop_deaf s w); answers = refl }
stop_silent s (asked h n) w =
    let e = deaf_stop s w (read h n) in
    record { device = ap (λ (r : Done). r.device) e; answers = ap (λ (r : Done). r.answer ∷ []) e }

stop_stands : (s : State) (u : Underway) (d : Device) → Stands s u d → Made (stopped s) s.device u
stop_stands s u d (matched k) = stop_made s u d k
stop_stands s u d (silent w) = stop_silent s u w

record Turned (s : State) (u : Underway) (t : Turn) : Type 0 where
  device : (after s t).device ≡ run s.device (call_of u t)
  answers : answer_at s u t ≡ answers_of s.device (call_of u t)

call_turned : (s : State) (u : Underway) (c : Call) → part_valid s.part ≡ true → Turned s u (call c)
unfolding after called run
call_turned s u c v = record { device = rw v; answers = rw v }

one_turn : (s : State) (u : Underway) (d : Device) (t : Turn) → part_valid s.part ≡ true → Stands s u d → Turned s u t
unfolding after device_next run
one_turn s u d (on start) v k = record { device = refl; answers = refl }
one_turn s u d (on (byte b)) v k = record { device = refl; answers = refl }
one_turn s u d (on again) v k = record { device = refl; answers = refl }
one_turn s u d (on clock) v k = record { device = refl; answers = refl }
one_turn s u d (on stop) v k = let m = stop_stands s u d k in record { device = m.device; answers = m.answers }
one_turn s u d (call c) v k = call_turned s u c v

-- ---- all turns

record Run (s : State) (u : Underway) (ts : List Turn) : Type 0 where
  device : (feed s ts).device ≡ run s.device (whole_calls u ts)
  answers : answers_in s u ts ≡ answers_of s.device (whole_calls u ts)

kept_on : (s : State) (t : Turn) → part_valid s.part ≡ true → part_valid (after s t).part ≡ true
unfolding feed
kept_on s t v = feed-kept (t ∷ []) s v

along : (ts : List Turn) (s : State) (u : Underway) (d : Device) → part_valid s.part ≡ true → Stands s u d → Run s u ts
unfolding feed run
along [] s u d v k = record { device = refl; answers = refl }
along (t ∷ ts) s u d v k =
    let one = one_turn s u d t v k in
    let rest = along ts (after s t) (goes_on u t) (maker s u d t) (kept_on s t v) (stands_on s u d t k) in
    let cs = whole_calls (goes_on u t) ts in
    record {
      device = rest.device ∙ ap (λ (x : Device). run x cs) one.device ∙ sym (run-append s.device (call_of u t) cs);
      answers = ap₂ (λ (x y : List ℕ). x ++ y) one.answers (rest.answers ∙ ap (λ (x : Device). answers_of x cs) one.device)
          ∙ sym (answers_append s.device (call_of u t) cs);
    }

pub as_calls : AsCalls
unfolding AsCalls
as_calls x ts = let r = along ts (begun x) nothing (power_on x) idle-valid (begins x) in (r.device, r.answers)

-- every device of a run is so one that whole calls reach
pub reaches : Reaches
unfolding Reaches AsCalls
reaches x ts = (whole_calls nothing ts, (as_calls x ts).0)

-- ---- a transaction behind any run

pub transactions_alike : TransactionsAlike
unfolding TransactionsAlike AsCalls Written Read
transactions_alike x ts =
    let s = feed (begun x) ts in
    let v = feed-kept ts (begun x) idle-valid in
    let e = (as_calls x ts).0 in
    record {
      writes = λ bs. written s bs v ∙ ap (λ (d : Device). (step d (write bs)).done) e;
      reads = λ bs b n. (
        (read_claim s bs b n v).0 ∙ ap (λ (d : Device). (step d (read (bs ++ b ∷ []) n)).done) e,
        (read_claim s bs b n v).1 ∙ ap (λ (d : Device). (step d (read (bs ++ b ∷ []) n)).reply) e,
      );
    }
