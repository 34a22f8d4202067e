-- What a run has led to, by what is under way: the part holds what came since START, and the reply is that of the device at the second
-- address byte.
-- Assumes nothing.
use Prim.Native.Nat.{ℕ}
use mathlib.Core.Path.{◌≡◌, refl, ap}
use mathlib.Core.Bool.{true, false}
use mathlib.Core.List.{[], ◌∷◌}
use lib.Dec.{eqb}
use Rattle.laws.proofs.Branches.{either, other_eqb}
use Rattle.bus.specs.Part.{idle}
use Rattle.bus.specs.Automaton.{start, byte, again, clock, stop, after_byte, after_again, after_clock, byted, restarted, clocked, part_after}
use Rattle.device.specs.declared.Device.{Device}
use Rattle.device.specs.declared.Done.{Done}
use Rattle.device.specs.Device.{Choice, device_valid, power_on}
use Rattle.device.specs.Step.{Call, done}
use Rattle.stream.specs.Stream.{State, state_valid, byte_taken, part_next, ended, stopped, Turn, on, call, device_next, after, feed}
use Rattle.stream.proofs.Prefix.{read_sent}
use Rattle.stream.proofs.Fold.{Hears, hear_start, hear_byte, hear_again, hear_call, Talks, talk_start, talk_clock, talk_call, Silent, not_whole, deaf_event, deaf_call, whole}
use Rattle.stream.proofs.Claims.{valid_both}
use Rattle.traffic.specs.Underway.{Underway, nothing, bytes, turned, asked, goes_on}
use Rattle.traffic.specs.Whole.{begun}
use Rattle.traffic.proofs.Traffic.{all_stay}
use Rattle.traffic.proofs.Runs.{feed-valid, idle-valid}

-- ---- nothing orderly under way

pub record Quiet (s : State) : Type 0 where
  pub valid : state_valid s ≡ true
  pub one : eqb s.part.phase 1 ≡ false
  pub two : eqb s.part.phase 2 ≡ false
  pub three : eqb s.part.phase 3 ≡ false

quiet_at : (s : State) → state_valid s ≡ true → (k : ℕ) → s.part.phase ≡ k → eqb k 1 ≡ false → eqb k 2 ≡ false → eqb k 3 ≡ false → Quiet s
quiet_at s v k e one two three =
    record { valid = v; one = other_eqb _ 1 k e one; two = other_eqb _ 2 k e two; three = other_eqb _ 3 k e three }

pub after-valid : (s : State) (t : Turn) → state_valid s ≡ true → state_valid (after s t) ≡ true
unfolding feed
after-valid s t v = feed-valid (t ∷ []) s v

-- every event without an arrow
module _ (s : State) (v : state_valid s ≡ true) where
  byte-breaks : (b : ℕ) → eqb s.part.phase 1 ≡ false → eqb s.part.phase 2 ≡ false → Quiet (after s (on (byte b)))
  unfolding after part_next byte_taken byted after_byte
  byte-breaks b one two = quiet_at (after s (on (byte b))) (after-valid s (on (byte b)) v) 4 (rw (v, two, one)) refl refl refl

  again_breaks : eqb s.part.phase 1 ≡ false → Quiet (after s (on again))
  unfolding after part_next part_after restarted after_again
  again_breaks one = quiet_at (after s (on again)) (after-valid s (on again) v) 4 (rw (v, one)) refl refl refl

  clock_breaks : eqb s.part.phase 3 ≡ false → Quiet (after s (on clock))
  unfolding after part_next part_after clocked after_clock
  clock_breaks three = quiet_at (after s (on clock)) (after-valid s (on clock) v) 4 (rw (v, three)) refl refl refl

  pub stop_quiet : Quiet (after s (on stop))
  unfolding after part_next part_after idle
  stop_quiet = quiet_at (after s (on stop)) (after-valid s (on stop) v) 0 (rw v) refl refl refl

pub quiet-stop : (s : State) → Quiet s → stopped s ≡ done s.device 2
unfolding stopped ended
quiet-stop s k = rw (k.valid, k.one, k.three)

quiet-call : (s : State) (c : Call) → Quiet s → Quiet (after s (call c))
unfolding after
quiet-call s c k = record { valid = after-valid s (call c) k.valid; one = k.one; two = k.two; three = k.three }

-- ---- what the turns ask of the state; d is the device that the latest reply was made of

abbrev pub Matches : State → Underway → Device → Type 0
Matches s nothing d = Quiet s
Matches s (bytes bs) d = Hears 1 s bs
Matches s (turned bs) d = Hears 2 s bs
Matches s (asked h n) d = Talks s h (read_sent d h 8) n

-- a second address byte makes a reply
abbrev pub made_at : State → Underway → Device → Device
made_at s nothing d = d
made_at s (bytes bs) d = d
made_at s (turned bs) d = s.device
made_at s (asked h n) d = d

abbrev pub maker : State → Underway → Device → Turn → Device
maker s u d (on start) = d
maker s u d (on (byte b)) = made_at s u d
maker s u d (on again) = d
maker s u d (on clock) = d
maker s u d (on stop) = d
maker s u d (call c) = d

pub matched_valid : (s : State) (u : Underway) (d : Device) → Matches s u d → state_valid s ≡ true
matched_valid s nothing d k = k.valid
matched_valid s (bytes bs) d k = whole s k.kept k.valid
matched_valid s (turned bs) d k = whole s k.kept k.valid
matched_valid s (asked h n) d k = whole s k.kept k.valid

pub moves : (s : State) (u : Underway) (d : Device) (t : Turn) → Matches s u d → Matches (after s t) (goes_on u t) (maker s u d t)
moves s u d (on start) k =
    let both = valid_both s (matched_valid s u d k) in
    hear_start s both.0 both.1
moves s nothing d (on (byte b)) k = byte-breaks s k.valid b k.one k.two
moves s (bytes bs) d (on (byte b)) k = hear_byte s bs b k
moves s (turned bs) d (on (byte b)) k = talk_start s bs b k
moves s (asked h n) d (on (byte b)) k =
    byte-breaks s (whole s k.kept k.valid) b (other_eqb _ 1 3 k.phase_is refl) (other_eqb _ 2 3 k.phase_is refl)
moves s nothing d (on again) k = again_breaks s k.valid k.one
moves s (bytes bs) d (on again) k = hear_again s bs k
moves s (turned bs) d (on again) k = again_breaks s (whole s k.kept k.valid) (other_eqb _ 1 2 k.phase_is refl)
moves s (asked h n) d (on again) k = again_breaks s (whole s k.kept k.valid) (other_eqb _ 1 3 k.phase_is refl)
moves s nothing d (on clock) k = clock_breaks s k.valid k.three
moves s (bytes bs) d (on clock) k = clock_breaks s (whole s k.kept k.valid) (other_eqb _ 3 1 k.phase_is refl)
moves s (turned bs) d (on clock) k = clock_breaks s (whole s k.kept k.valid) (other_eqb _ 3 2 k.phase_is refl)
moves s (asked h n) d (on clock) k = talk_clock s h (read_sent d h 8) n k
moves s u d (on stop) k = stop_quiet s (matched_valid s u d k)
moves s nothing d (call c) k = quiet-call s c k
moves s (bytes bs) d (call c) k = hear_call s bs 1 c (all_stay c) k
moves s (turned bs) d (call c) k = hear_call s bs 2 c (all_stay c) k
moves s (asked h n) d (call c) k = talk_call s h (read_sent d h 8) n k c (all_stay c)

-- ---- or the device is not valid, and stays so

pub stop_deaf : (s : State) → Silent s → stopped s ≡ done s.device 15
unfolding stopped
stop_deaf s w = rw (not_whole s w.invalid)

pub silent-on : (s : State) (t : Turn) → Silent s → Silent (after s t)
unfolding device_next
silent-on s (on start) w = deaf_event s w start refl
silent-on s (on (byte b)) w = deaf_event s w (byte b) refl
silent-on s (on again) w = deaf_event s w again refl
silent-on s (on clock) w = deaf_event s w clock refl
silent-on s (on stop) w = deaf_event s w stop (ap (λ (r : Done). r.device) (stop_deaf s w))
silent-on s (call c) w = deaf_call s w c (all_stay c)

pub data Stands (s : State) (u : Underway) (d : Device) : Type 0 where
  matched : Matches s u d → Stands s u d
  silent : Silent s → Stands s u d

pub stands_on : (s : State) (u : Underway) (d : Device) (t : Turn) → Stands s u d → Stands (after s t) (goes_on u t) (maker s u d t)
stands_on s u d t (matched k) = matched (moves s u d t k)
stands_on s u d t (silent w) = silent (silent-on s t w)

pub begins : (x : Choice) → Stands (begun x) nothing (power_on x)
unfolding idle
begins x =
    either (device_valid (power_on x))
    (λ v. matched (quiet_at (begun x) (whole (begun x) idle-valid v) 0 refl refl refl refl))
    (λ v. silent (record { kept = idle-valid; invalid = v }))
