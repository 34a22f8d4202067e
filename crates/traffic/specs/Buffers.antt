-- The streaming device over a lent buffer (crate buffer) is the streaming device of crate stream: what the bytes hold after an event or a call is
-- what the rules leave of what they held before, and the same answers, bytes and ACKs are given.
-- Assumes nothing.
use Rattle.std.specs.Prelude.{ℕ, ◌≡◌, true, false, cond, List, [], ◌∷◌, length}
use Rattle.bus.specs.Part.{idle}
use Rattle.bus.specs.Automaton.{Event, start, byte, again, clock, stop}
use Rattle.page.specs.declared.PageChoice.{PageChoice}
use Rattle.device.specs.Device.{usual, power_on}
use Rattle.device.specs.Step.{Call}
use Rattle.stream.specs.Stream.{State, state, begin_answer, byte_ack, byte_sent, stopped, called, Turn, on, call, after, feed}
use Rattle.layout.specs.Form.{array}
use Rattle.layout.specs.Layout.{state_form, choice_form, choices_in, choices_size, size}
use Rattle.layout.specs.State.{decode, encode, ready}
use Rattle.buffer.specs.Buffer.{call_fed, event_fed, power_fed, powered_by, power_by_fed, refuses, event_gives, call_gives, call_sends, power_gives, power_by_gives}

-- ---- what is left of a buffer of the right length

-- the bytes of a state hold it
unfoldable pub Decodes : Type 0
Decodes = (x : State) → state_form.Fits x → (length (encode x) ≡ size) × (decode (encode x) ≡ x)

-- every event, STOP among them, whatever the bytes are
unfoldable pub EventsDecode : Type 0
EventsDecode = (s : List ℕ) (e : Event) → length s ≡ size → decode (event_fed s e) ≡ after (decode s) (on e)

unfoldable pub CallsDecode : Type 0
CallsDecode = (s : List ℕ) (c : Call) → length s ≡ size → decode (call_fed s c) ≡ after (decode s) (call c)

unfoldable pub PowerDecodes : Type 0
PowerDecodes = (s : List ℕ) → length s ≡ size → decode (power_fed s) ≡ state idle (power_on (usual 8))

-- the bytes of eight choices hold them
unfoldable pub ChoicesDecode : Type 0
ChoicesDecode =
    (cs : List PageChoice) → (array 8 choice_form).Fits cs
    → (length ((array 8 choice_form).put cs) ≡ choices_size) × (choices_in ((array 8 choice_form).put cs) ≡ cs)

-- power-on by choices, whatever bytes these are
unfoldable pub PowerByDecodes : Type 0
PowerByDecodes =
    (s cs : List ℕ) → length s ≡ size
    → (length (power_by_fed s cs) ≡ size) × (decode (power_by_fed s cs) ≡ state idle (powered_by cs).device)

unfoldable pub LengthStays : Type 0
LengthStays =
    (s : List ℕ) (e : Event) (c : Call) → length s ≡ size
    → (length (event_fed s e) ≡ size) × ((length (call_fed s c) ≡ size) × (length (power_fed s) ≡ size))

-- ---- what is given

pub record Given (s : List ℕ) : Type 0 where
  pub start : event_gives s start ≡ begin_answer (decode s)
  pub again : event_gives s again ≡ begin_answer (decode s)
  pub byte : (b : ℕ) → event_gives s (byte b) ≡ cond (byte_ack (decode s) b) 1 0
  pub clock : event_gives s clock ≡ byte_sent (decode s)
  pub stop : event_gives s stop ≡ (stopped (decode s)).answer
  pub call : (c : Call) → (call_gives s c ≡ (called (decode s) c).done.answer) × (call_sends s c ≡ (called (decode s) c).reply)

unfoldable pub GivesSame : Type 0
GivesSame = (s : List ℕ) → length s ≡ size → Given s

-- ---- a buffer that is not ready

-- nothing of it changes, and it gets 15, NACK and FFh
unfoldable pub LeftAlone : Type 0
LeftAlone =
    (s : List ℕ) (e : Event) (c : Call) → ready s ≡ false
    → (event_fed s e ≡ s) × ((call_fed s c ≡ s) × ((event_gives s e ≡ refuses e) × (call_gives s c ≡ 15)))

-- power-on too leaves a buffer of another length
unfoldable pub WrongLength : Type 0
WrongLength = (s : List ℕ) → (length s ≡ size → ⊥) → (ready s ≡ false) × ((power_fed s ≡ s) × (power_gives s ≡ 15))

unfoldable pub WrongLengthBy : Type 0
WrongLengthBy = (s cs : List ℕ) → (length s ≡ size → ⊥) → (power_by_fed s cs ≡ s) × (power_by_gives s cs ≡ 15)

-- ---- runs

unfoldable pub fed_all : List ℕ → List Turn → List ℕ
fed_all s [] = s
fed_all s (on e ∷ ts) = fed_all (event_fed s e) ts
fed_all s (call c ∷ ts) = fed_all (call_fed s c) ts

unfoldable pub BufferRuns : Type 0
BufferRuns = (s : List ℕ) (ts : List Turn) → length s ≡ size → decode (fed_all s ts) ≡ feed (decode s) ts

-- no event and no call of a run from power-on gets 15
unfoldable pub AlwaysReady : Type 0
AlwaysReady = (s : List ℕ) (ts : List Turn) → length s ≡ size → ready (fed_all (power_fed s) ts) ≡ true

-- nor from power-on by choices, granted or not
unfoldable pub AlwaysReadyBy : Type 0
AlwaysReadyBy = (s cs : List ℕ) (ts : List Turn) → length s ≡ size → ready (fed_all (power_by_fed s cs) ts) ≡ true
