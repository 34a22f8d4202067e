-- Which whole calls a run of the streaming device is, turn by turn (data sheet 17.13): a transaction is one call, at its STOP, another call
-- is itself where it comes, and a breach of order is none. The turns alone tell which calls these are (Underway.antt).
-- Assumes nothing.
use Rattle.std.specs.Prelude.{ℕ, ◌≡◌, List, [], ◌∷◌, ◌++◌}
use Rattle.bus.specs.Part.{idle}
use Rattle.bus.specs.Automaton.{start, byte, again, clock, stop}
use Rattle.bus.specs.Orders.{write_order, read_order}
use Rattle.device.specs.declared.Device.{Device}
use Rattle.device.specs.Device.{Choice, power_on}
use Rattle.device.specs.Step.{Call, write, read, step}
use Rattle.stream.specs.Stream.{State, state, stopped, called, Turn, on, call, after, feed, sent_in, events}
use Rattle.history.specs.Run.{next, answer, reached}
use Rattle.traffic.specs.Underway.{Underway, nothing, bytes, turned, asked, goes_on}

-- ---- the calls

-- the call that a STOP ends: a write, a read, or none
abbrev pub ended_by : Underway → List Call
ended_by nothing = []
ended_by (bytes bs) = write bs ∷ []
ended_by (turned bs) = []
ended_by (asked h n) = read h n ∷ []

abbrev pub call_of : Underway → Turn → List Call
call_of u (on start) = []
call_of u (on (byte b)) = []
call_of u (on again) = []
call_of u (on clock) = []
call_of u (on stop) = ended_by u
call_of u (call c) = c ∷ []

abbrev pub whole_calls : Underway → List Turn → List Call
whole_calls u [] = []
whole_calls u (t ∷ ts) = call_of u t ++ whole_calls (goes_on u t) ts

-- ---- their answers

-- the answer a given at a STOP, where it ends a call
abbrev pub ended_with : Underway → ℕ → List ℕ
ended_with nothing a = []
ended_with (bytes bs) a = a ∷ []
ended_with (turned bs) a = []
ended_with (asked h n) a = a ∷ []

abbrev pub answer_at : State → Underway → Turn → List ℕ
answer_at s u (on start) = []
answer_at s u (on (byte b)) = []
answer_at s u (on again) = []
answer_at s u (on clock) = []
answer_at s u (on stop) = ended_with u (stopped s).answer
answer_at s u (call c) = (called s c).done.answer ∷ []

abbrev pub answers_in : State → Underway → List Turn → List ℕ
answers_in s u [] = []
answers_in s u (t ∷ ts) = answer_at s u t ++ answers_in (after s t) (goes_on u t) ts

abbrev pub answers_of : Device → List Call → List ℕ
answers_of d [] = []
answers_of d (c ∷ cs) = answer d c ∷ answers_of (next d c) cs

-- ---- the claims

abbrev pub begun : Choice → State
begun x = state idle (power_on x)

-- Every run, orderly or not, with anything between: the device is the one that these calls reach, and their answers are those given at the
-- STOPs and the calls. What holds of runs of whole calls (crate history) so holds of every run of the streaming device.
unfoldable pub AsCalls : Type 0
AsCalls =
    (x : Choice) (ts : List Turn)
    → ((feed (begun x) ts).device ≡ reached x (whole_calls nothing ts))
    × (answers_in (begun x) nothing ts ≡ answers_of (power_on x) (whole_calls nothing ts))

-- After every run a transaction with nothing between gives and sends what the whole call does where these calls have led.
pub record Alike (s : State) (d : Device) : Type 0 where
  pub writes : (bs : List ℕ) → stopped (feed s (events (start ∷ write_order bs))) ≡ (step d (write bs)).done
  pub reads : (bs : List ℕ) (b n : ℕ)
      → (stopped (feed s (events (start ∷ read_order bs b n))) ≡ (step d (read (bs ++ b ∷ []) n)).done)
      × (sent_in s (events (start ∷ read_order bs b n)) ≡ (step d (read (bs ++ b ∷ []) n)).reply)

unfoldable pub TransactionsAlike : Type 0
TransactionsAlike = (x : Choice) (ts : List Turn) → Alike (feed (begun x) ts) (reached x (whole_calls nothing ts))
