-- The claims for one machine, lifted to the calls of a state that keeps its byte.
-- Assumes nothing.
use Prim.Native.Nat.{ℕ}
use mathlib.Core.Path.{◌≡◌, refl, sym, ap, ◌∙◌}
use mathlib.Core.Bool.{true, false, not, ◌&&◌, and-eq-true_iff}
use mathlib.Core.List.{List, [], ◌∷◌}
use borrow.Author.Tests.{not-true}
use Rattle.laws.specs.Lists.{all_of}
use Rattle.retry.specs.Machine.{Machine, rest, at_rest}
use Rattle.retry.specs.Byte.{machine_of}
use Rattle.retry.specs.Steps.{Step, tick, call, cause_present, rests, lasts, after, run, times_on, under_way}
use Rattle.retry.specs.Claim.{LetsOn, LetsOnAt, TripsAt}
use Rattle.retry.specs.Within.{steps_in, times_on_in, state_after, under_way_in, Within, LetsOnIn, LetsOnAtIn, TripsAtIn, AtMostIn}
use Rattle.retry.proofs.AtMost.{Fits, fits_after, at_most-of}
use Rattle.retry.proofs.Claim.{lets_on_lem, lets_on-at, trips-at}
use Rattle.retry.proofs.Shapes.{Shape}
use Rattle.retry.proofs.Values.{machine_after}

module _ {S E : Type 0} (next : S → E → S) (byte : S → ℕ) (response : S → ℕ) (met : S → E → Step) (Good : S → Type 0)
    (within : Within next byte response met Good) where
  abbrev steps : S → List E → List Step
  steps s es = steps_in next byte response met s es

  machine_moves : (s : S) (e : E) → Good s → machine_of (byte (next s e)) ≡ after (response (next s e)) (machine_of (byte s)) (met s e)
  machine_moves s e g = ap machine_of (within.moves s e g) ∙ machine_after (response (next s e)) (byte s) (met s e)

  same_times : (r : ℕ) (s : S) (es : List E) → Good s → response s ≡ r → all_of lasts (steps s es) ≡ true
      → times_on_in next byte response met s es ≡ times_on r (machine_of (byte s)) (steps s es)
  unfolding steps_in times_on_in times_on
  same_times r s [] g e h = refl
  same_times r s (c ∷ cs) g e h =
      let p = (and-eq-true_iff (lasts (met s c)) (all_of lasts (steps (next s c) cs))).0 h in
      let q = (and-eq-true_iff (cause_present (met s c)) (not (rests (met s c)))).0 p.0 in
      let k = within.keeps s c g (not-true (rests (met s c)) q.1) ∙ e in
      let m = machine_moves s c g ∙ ap (λ (x : ℕ). after x (machine_of (byte s)) (met s c)) k in
      rw (sym m, same_times r (next s c) cs (within.stays s c g) k p.1)

  pub lets_on-in : LetsOnIn next byte response met Good
  unfolding LetsOnIn LetsOn
  lets_on-in s e es g low high first lasting =
      let r = response (next s e) in
      rw (same_times r (next s e) es (within.stays s e g) refl lasting, machine_moves s e g)
      (lets_on_lem r (machine_of (byte s)) (met s e) (steps (next s e) es) low high first lasting)

  pub lets_on-at_in : LetsOnAtIn next byte response met Good
  unfolding LetsOnAtIn LetsOnAt
  lets_on-at_in s e es g first lasting i low =
      let r = response (next s e) in
      rw (same_times r (next s e) es (within.stays s e g) refl lasting, machine_moves s e g)
      (lets_on-at r (machine_of (byte s)) (met s e) (steps (next s e) es) first lasting i low)

  -- ---- where the machine stands

  same_run : (r : ℕ) (s : S) (es : List E) → Good s → response s ≡ r → all_of lasts (steps s es) ≡ true
      → machine_of (byte (state_after next byte response met s es)) ≡ run r (machine_of (byte s)) (steps s es)
  unfolding steps_in state_after run
  same_run r s [] g e h = refl
  same_run r s (c ∷ cs) g e h =
      let p = (and-eq-true_iff (lasts (met s c)) (all_of lasts (steps (next s c) cs))).0 h in
      let q = (and-eq-true_iff (cause_present (met s c)) (not (rests (met s c)))).0 p.0 in
      let k = within.keeps s c g (not-true (rests (met s c)) q.1) ∙ e in
      let m = machine_moves s c g ∙ ap (λ (x : ℕ). after x (machine_of (byte s)) (met s c)) k in
      same_run r (next s c) cs (within.stays s c g) k p.1 ∙ ap (λ (x : Machine). run r x (steps (next s c) cs)) m

  pub trips-at-in : TripsAtIn next byte response met Good
  unfolding TripsAtIn TripsAt
  trips-at-in s e es g first lasting =
      let r = response (next s e) in
      rw (same_run r (next s e) es (within.stays s e g) refl lasting, machine_moves s e g)
      (trips-at r (machine_of (byte s)) (met s e) (steps (next s e) es) first lasting)

  -- ---- from one rest to the next

  abbrev FitsIn : S → Type 0
  FitsIn s = Fits (response s) (machine_of (byte s))

  fits_next : (s : S) (e : E) → Good s → FitsIn s → FitsIn (next s e)
  unfolding after Shape
  fits_next s e g f = rw (machine_moves s e g) (fit (met s e) (within.keeps s e g))
    where
      fit : (x : Step) → (rests x ≡ false → response (next s e) ≡ response s)
          → Fits (response (next s e)) (after (response (next s e)) (machine_of (byte s)) x)
      fit (tick c) k = fits_after (response (next s e)) (machine_of (byte s)) (tick c) (rw (k refl) f)
      fit (call true c) k = fits_after (response (next s e)) rest (call true c) tt
      fit (call false c) k = fits_after (response (next s e)) (machine_of (byte s)) (call false c) (rw (k refl) f)

  abbrev later : S → List E → S
  later s es = state_after next byte response met s es

  fits_later : (s : S) (es : List E) → Good s → FitsIn s → Good (later s es) × FitsIn (later s es)
  unfolding state_after
  fits_later s [] g f = (g, f)
  fits_later s (e ∷ es) g f = fits_later (next s e) es (within.stays s e g) (fits_next s e g f)

  same_way : (r : ℕ) (s : S) (es : List E) → Good s → response s ≡ r → under_way_in next byte response met s es ≡ true
      → (times_on_in next byte response met s es ≡ times_on r (machine_of (byte s)) (steps s es))
      × (under_way r (machine_of (byte s)) (steps s es) ≡ true)
  unfolding steps_in times_on_in times_on under_way_in under_way
  same_way r s [] g e h = (refl, refl)
  same_way r s (c ∷ cs) g e h =
      let a = not (rests (met s c)) in
      let b = not (at_rest (machine_of (byte (next s c)))) in
      let p = (and-eq-true_iff (a && b) (under_way_in next byte response met (next s c) cs)).0 h in
      let q = (and-eq-true_iff a b).0 p.0 in
      let k = within.keeps s c g (not-true (rests (met s c)) q.0) ∙ e in
      let m = machine_moves s c g ∙ ap (λ (x : ℕ). after x (machine_of (byte s)) (met s c)) k in
      let i = same_way r (next s c) cs (within.stays s c g) k p.1 in
      (rw (sym m, i.0), rw (sym m, p.0) i.1)

  pub at_most_in : AtMostIn next byte response met Good
  unfolding AtMostIn Shape machine_of
  at_most_in s before es g z few way =
      let t = later s before in
      let f = fits_later s before g (rw z tt) in
      let w = same_way (response t) t es f.0 refl way in
      rw w.0 (at_most-of (response t) few (machine_of (byte t)) (steps t es) f.1 w.1)
