-- A machine within a larger state, as that of one cause on a page of a device: claims of Claim.antt over the calls of that state. The state
-- keeps the machine's byte; other machines and pages are no concern of it.
-- Assumes nothing.
use Rattle.std.specs.Prelude.{ℕ, suc, ◌≤◌, ◌≡◌, ◌↔◌, Bool, true, false, cond, not, ◌&&◌, List, [], ◌∷◌}
use Rattle.laws.specs.Lists.{all_of}
use Rattle.retry.specs.Response.{retries}
use Rattle.retry.specs.Machine.{at_rest, trips, lets_on}
use Rattle.retry.specs.Byte.{machine_of, byte_at_call, byte_at_tick}
use Rattle.retry.specs.Steps.{Step, tick, call, rests, starts, lasts, ticks_in}
use Rattle.retry.specs.Claim.{look_tick, on_tick, allows}

-- the byte after a step; 0 is a machine at rest
unfoldable pub byte_after : ℕ → ℕ → Step → ℕ
byte_after response b (tick present) = byte_at_tick response present b
byte_after response b (call rested present) = byte_at_call response present (cond rested 0 b)

-- states S and calls E; a machine's byte and its response byte in a state; the step that it meets in a call
module _ {S E : Type 0} (next : S → E → S) (byte : S → ℕ) (response : S → ℕ) (met : S → E → Step) where
  -- the steps that it meets in a list of calls
  unfoldable pub steps_in : S → List E → List Step
  steps_in s [] = []
  steps_in s (e ∷ es) = met s e ∷ steps_in (next s e) es

  -- the times that it lets its page on
  unfoldable pub times_on_in : S → List E → ℕ
  times_on_in s [] = 0
  times_on_in s (e ∷ es) =
      cond (lets_on (machine_of (byte s)) (machine_of (byte (next s e)))) (suc (times_on_in (next s e) es)) (times_on_in (next s e) es)

  -- the state after a list of calls
  unfoldable pub state_after : S → List E → S
  state_after s [] = s
  state_after s (e ∷ es) = state_after (next s e) es

  -- the machine is under way through a list of calls: none puts it to rest, and after none is it at rest
  unfoldable pub under_way_in : S → List E → Bool
  under_way_in s [] = true
  under_way_in s (e ∷ es) = (not (rests (met s e)) && not (at_rest (machine_of (byte (next s e))))) && under_way_in (next s e) es

  -- In every good state a call moves the byte by the step that it meets, and leaves the response byte unless it puts the machine to rest.
  pub record Within (Good : S → Type 0) : Type 0 where
    pub moves : (s : S) (e : E) → Good s → byte (next s e) ≡ byte_after (response (next s e)) (byte s) (met s e)
    pub keeps : (s : S) (e : E) → Good s → rests (met s e) ≡ false → response (next s e) ≡ response s
    pub stays : (s : S) (e : E) → Good s → Good (next s e)

  -- `LetsOn` over the calls of S: e starts the machine, and through the calls es its cause lasts
  unfoldable pub LetsOnIn : (S → Type 0) → Type 0
  LetsOnIn Good =
      (s : S) (e : E) (es : List E) → Good s → 1 ≤ retries (response (next s e)) → retries (response (next s e)) ≤ 6
      → starts (response (next s e)) (machine_of (byte s)) (met s e) ≡ true → all_of lasts (steps_in (next s e) es) ≡ true
      → (times_on_in (next s e) es ≤ retries (response (next s e)))
      × (56 ≤ ticks_in (steps_in (next s e) es) → times_on_in (next s e) es ≡ retries (response (next s e)))

  -- `LetsOnAt` over the calls of S
  unfoldable pub LetsOnAtIn : (S → Type 0) → Type 0
  LetsOnAtIn Good =
      (s : S) (e : E) (es : List E) → Good s → starts (response (next s e)) (machine_of (byte s)) (met s e) ≡ true
      → all_of lasts (steps_in (next s e) es) ≡ true → (i : ℕ) → 1 ≤ i
      → (i ≤ times_on_in (next s e) es)
      ↔ ((allows (response (next s e)) i ≡ true) × (on_tick (response (next s e)) i ≤ ticks_in (steps_in (next s e) es)))

  -- `TripsAt` over the calls of S
  unfoldable pub TripsAtIn : (S → Type 0) → Type 0
  TripsAtIn Good =
      (s : S) (e : E) (es : List E) → Good s → starts (response (next s e)) (machine_of (byte s)) (met s e) ≡ true
      → all_of lasts (steps_in (next s e) es) ≡ true
      → (trips (machine_of (byte (state_after (next s e) es))) ≡ true)
      ↔ ((retries (response (next s e)) ≤ 6)
      × (look_tick (response (next s e)) (retries (response (next s e))) ≤ ticks_in (steps_in (next s e) es)))

  -- `AtMost` over the calls of S, from a state in which the machine is at rest
  unfoldable pub AtMostIn : (S → Type 0) → Type 0
  AtMostIn Good =
      (s : S) (before es : List E) → Good s → byte s ≡ 0 → retries (response (state_after s before)) ≤ 6
      → under_way_in (state_after s before) es ≡ true
      → times_on_in (state_after s before) es ≤ retries (response (state_after s before))
