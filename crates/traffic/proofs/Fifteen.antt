-- Answer 15 exactly, by the fields.
-- Assumes nothing.
use Prim.Native.Nat.{ℕ}
use mathlib.Core.Path.{◌≡◌, ap, ◌∙◌}
use mathlib.Core.Logic.{◌↔◌}
use mathlib.Core.Bool.{true, false, not}
use native.Mathlib.Omega.{arith}
use lib.Dec.{eqb}
use borrow.Author.Tests.{eqb-false}
use Rattle.laws.proofs.Branches.{either}
use Rattle.bus.specs.Part.{heard}
use Rattle.bus.specs.Fields.{ValidFields}
use Rattle.bus.proofs.Fields.{valid_fields}
use Rattle.device.specs.declared.Device.{Device}
use Rattle.device.specs.declared.Done.{Done}
use Rattle.device.specs.Device.{device_valid}
use Rattle.device.specs.Step.{Call, write, read}
use Rattle.stream.specs.Stream.{State, state_valid, ended, begin_answer, stopped, called}
use Rattle.stream.specs.Claims.{Fifteen}
use Rattle.stream.proofs.Fold.{whole}
use Rattle.stream.proofs.Claims as streamed
use Rattle.history.specs.Run.{answer}
use Rattle.history.specs.Valid as runs
use Rattle.history.proofs.Valid as history
use Rattle.traffic.specs.Fifteen.{Held, FifteenExactly}

held-valid : (s : State) → Held s → state_valid s ≡ true
unfolding ValidFields
held-valid s h =
    whole s ((valid_fields s.part).1 (record { phase = h.phase; count = h.count; clocked = h.clocked })) h.device

valid_held : (s : State) → state_valid s ≡ true → Held s
unfolding ValidFields
valid_held s v =
    let both = streamed.valid_both s v in
    let f = (valid_fields s.part).0 both.0 in
    record { phase = f.phase; count = f.count; clocked = f.clocked; device = both.1 }

-- by the test for 15
exactly : (s : State) (a : ℕ) → (state_valid s ≡ true → a ≡ 15 → ⊥) → (state_valid s ≡ false → a ≡ 15) → (a ≡ 15) ↔ (Held s → ⊥)
exactly s a valid other = (
  λ e h. valid (held-valid s h) e,
  λ none. either (state_valid s) (λ v. absurd (none (valid_held s v))) other,
)

-- no call to a valid device gets 15
not_fifteen : (d : Device) (c : Call) → device_valid d ≡ true → answer d c ≡ 15 → ⊥
unfolding runs.Fifteen
not_fifteen d c v = eqb-false (answer d c) 15 (history.fifteen d c ∙ ap not v)

module _ (s : State) (v : state_valid s ≡ true) where
  begins-not : begin_answer s ≡ 15 → ⊥
  unfolding begin_answer
  begins-not e = let z : ◌≡◌ {A = ℕ} 0 15 = rw v at e in omega arith

  stops_not : (stopped s).answer ≡ 15 → ⊥
  unfolding stopped ended
  stops_not e =
      let valid = (streamed.valid_both s v).1 in
      either (eqb s.part.phase 1)
      (λ y. not_fifteen s.device (write (heard s.part)) valid (rw (v, y) at e))
      (λ n. either (eqb s.part.phase 3)
      (λ y. not_fifteen s.device (read (heard s.part) s.part.clocked) valid (rw (v, n, y) at e))
      (λ m. let z : ◌≡◌ {A = ℕ} 2 15 = rw (v, n, m) at e in omega arith))

  calls_not : (c : Call) → (called s c).done.answer ≡ 15 → ⊥
  unfolding called
  calls_not c e =
      let both = streamed.valid_both s v in
      not_fifteen s.device c both.1 (rw both.0 at e)

pub fifteen-exactly : FifteenExactly
unfolding FifteenExactly Fifteen
fifteen-exactly s = record {
  begins = exactly s (begin_answer s) (begins-not s) (λ n. (streamed.fifteen s n).begins);
  stops = exactly s (stopped s).answer (stops_not s) (λ n. ap (λ (r : Done). r.answer) (streamed.fifteen s n).fifteen);
  calls = λ c. exactly s (called s c).done.answer (λ v. calls_not s v c)
      (λ n. ap (λ (r : Done). r.answer) ((streamed.fifteen s n).calls c));
}
