-- The retry machines over runs: machine k of page i within the device, and the claims for one machine over the device's calls.
-- Assumes nothing.
use Prim.Native.Nat.{ℕ, zero, suc, ◌<◌, ◌≤◌}
use mathlib.Core.Path.{◌≡◌, refl, sym, ap, ◌∙◌, subst}
use mathlib.Core.Bool.{Bool, true, false, cond, or-true, false≢true}
use mathlib.Core.List.{List, [], ◌∷◌}
use native.Mathlib.Omega.{arith}
use lib.ListN.{get_or}
use borrow.Author.Tests.{eq-eqb}
use Rattle.laws.specs.Lists.{all_of}
use Rattle.laws.proofs.Branches.{either}
use Rattle.laws.proofs.Every.{agree}
use Rattle.retry.specs.Response.{retries}
use Rattle.retry.specs.Machine.{Machine, rest, waiting, held, trying, tripped, at_call, at_tick, trips}
use Rattle.retry.specs.Byte.{machine_of, byte_at_call, byte_at_tick, byte_trips}
use Rattle.retry.specs.Machines.{any_trips, EachAlone}
use Rattle.retry.specs.Steps as steps
use Rattle.retry.specs.Steps.{Step}
use Rattle.retry.specs.Within.{byte_after, steps_in, times_on_in, state_after, under_way_in, Within, LetsOnIn, LetsOnAtIn, TripsAtIn, AtMostIn}
use Rattle.retry.proofs.Alone.{each-alone}
use Rattle.retry.proofs.Side.{six_some}
use Rattle.retry.proofs.Values.{machine_after}
use Rattle.retry.proofs.Within.{lets_on-in, lets_on-at_in, trips-at-in, at_most_in}
use Rattle.cause.specs.Causes.{causes, warnings}
use Rattle.page.specs.declared.Page.{Page}
use Rattle.page.specs.Page.{power_on_page}
use Rattle.page.specs.declared.PageChoice.{PageChoice}
use Rattle.page.specs.Choice.{chosen_page}
use Rattle.page.specs.Causes.{present_causes, crossed, present, trips_at_once, moved, settled, ticked}
use Rattle.page.proofs.Settled.{UpToDate}
use Rattle.unpaged.specs.Unpaged.{cml_bits}
use Rattle.device.specs.declared.Device.{Device}
use Rattle.device.specs.Device.{number_of, choice_at, power_on, page_of, device_valid}
use Rattle.device.specs.Step.{Call, write, read, measure, sample, alert_response, tick, answer_of, answered, step}
use Rattle.device.proofs.PowerOn.{powered, powered-valid}
use Rattle.device.proofs.States.{answered-of}
use Rattle.device.proofs.Refused.{device-stays}
use Rattle.history.specs.Run.{next, answer, run, reached}
use Rattle.history.specs.Clearing.{accepted_write, clears}
use Rattle.history.specs.Tripping.{untrips}
use Rattle.history.specs.Valid.{ReachedValid}
use Rattle.history.specs.Effects.{Effects, Leaves}
use Rattle.history.specs.Retry.{rests, byte_at, response_at, present_at, starts_at, lasts_through, times_let_on, is_tick, ticks, under_way, TickQuiet, MachineMoves, StaysDown, LetsOnAgain, LetsOnByTicks, TripsByTicks, AtMost}
use Rattle.history.proofs.Effects.{effects}
use Rattle.history.proofs.Outcomes.{refused-next, by_answer}
use Rattle.history.proofs.PageLeft.{PageLeft, kept, touched, timed}
use Rattle.history.proofs.PageAfter.{time_of, page-after}
use Rattle.history.proofs.Runs.{Current, kept-in_runs, current, current-after}
use Rattle.history.proofs.Valid.{valid_after, reached-valid}

no_bit : cml_bits 0 ≡ 0
unfolding cml_bits
no_bit = refl

no_bit_15 : cml_bits 15 ≡ 0
unfolding cml_bits
no_bit_15 = refl

-- ---- on one page

present-cause : (p : Page) (k : ℕ) → k < 6 → present p k ≡ get_or (present_causes p) k false
unfolding present_causes causes warnings
present-cause p zero h = refl
present-cause p (suc zero) h = refl
present-cause p (suc (suc zero)) h = refl
present-cause p (suc (suc (suc zero))) h = refl
present-cause p (suc (suc (suc (suc zero)))) h = refl
present-cause p (suc (suc (suc (suc (suc zero))))) h = refl
present-cause p (suc (suc (suc (suc (suc (suc k)))))) h = absurd (omega arith)

module _ (k : ℕ) (h : k < 6) where
  abbrev byte : Page → ℕ
  byte p = get_or p.machines k 0

  abbrev response : Page → ℕ
  response p = get_or p.responses k 0

  settled-byte : (q : Page) → byte (settled q) ≡ byte_at_call (response (settled q)) (present (settled q) k) (byte q)
  unfolding settled moved EachAlone present_causes crossed causes
  settled-byte q =
      (each-alone q.responses (present_causes q) q.machines k h).0
      ∙ ap (λ (c : Bool). byte_at_call (response q) c (byte q)) (sym (present-cause (settled q) k h ∙ same))
    where
      same : get_or (present_causes (settled q)) k false ≡ get_or (present_causes q) k false
      same = refl

  ticked-byte : (p : Page) → byte (ticked p) ≡ byte_at_tick (response (ticked p)) (present (ticked p) k) (byte p)
  unfolding ticked moved EachAlone present_causes crossed causes
  ticked-byte p =
      (each-alone p.responses (present_causes p) p.machines k h).1
      ∙ ap (λ (c : Bool). byte_at_tick (response p) c (byte p)) (sym (present-cause (ticked p) k h ∙ same))
    where
      same : get_or (present_causes (ticked p)) k false ≡ get_or (present_causes p) k false
      same = refl

  still_byte : (p : Page) → UpToDate p → byte p ≡ byte_at_call (response p) (present p k) (byte p)
  unfolding EachAlone
  still_byte p g =
      sym (ap (λ (l : List ℕ). get_or l k 0) g.begun) ∙ (each-alone p.responses (present_causes p) p.machines k h).0
      ∙ ap (λ (c : Bool). byte_at_call (response p) c (byte p)) (sym (present-cause p k h))

  module _ (p r : Page) (clear : ℕ → ℕ → Bool) (off : Bool) (rest : ℕ → Bool) (time : Bool) where
    left-moves : PageLeft p r clear off rest time → UpToDate p
        → byte r ≡ byte_after (response r) (byte p) (cond time (steps.tick (present r k)) (steps.call (rest k) (present r k)))
    unfolding byte_after
    left-moves (kept e s t) g = rw (e, t, s.machines k h) (still_byte p g)
    left-moves (touched q e c t) g = rw (e, t, sym (c.machines k h)) (settled-byte q)
    left-moves (timed e s t) g = rw (e, t) (ticked-byte p)

    left-keeps : PageLeft p r clear off rest time → rest k ≡ false → response r ≡ response p
    unfolding settled ticked moved
    left-keeps (kept e s t) n = rw e
    left-keeps (touched q e c t) n = ap response e ∙ c.responses k h n
    left-keeps (timed e s t) n = ap response e

-- ---- in the device

-- the step that a machine meets in a call: does the call put it to rest, and is the cause present after it
step_of : Call → Bool → Bool → Step
step_of (write s) rested present = steps.call rested present
step_of (read header n) rested present = steps.call rested present
step_of (measure page quantity word) rested present = steps.call rested present
step_of (sample n) rested present = steps.call rested present
step_of (alert_response n) rested present = steps.call rested present
step_of tick rested present = steps.tick present

module _ (n i k : ℕ) (hi : i < n) (hk : k < 6) where
  abbrev met : Device → Call → Step
  met d c = step_of c (rests d c i k) (present_at i k (next d c))

  record Good (d : Device) : Type 0 where
    current : Current n d
    valid : device_valid d ≡ true

  tick_answered : (d : Device) → device_valid d ≡ true → answer d tick ≡ 0
  unfolding step answer_of
  tick_answered d v = answered-of d tick v

  met_is : (d : Device) (c : Call) → device_valid d ≡ true
      → met d c ≡ cond (time_of d c) (steps.tick (present_at i k (next d c))) (steps.call (rests d c i k) (present_at i k (next d c)))
  unfolding step_of
  met_is d (write s) v = refl
  met_is d (read header n) v = refl
  met_is d (measure page quantity word) v = refl
  met_is d (sample n) v = refl
  met_is d (alert_response n) v = refl
  met_is d tick v = rw (eq-eqb (answer d tick) 0 (tick_answered d v))

  met_rests : (d : Device) (c : Call) → steps.rests (met d c) ≡ rests d c i k
  unfolding step_of rests accepted_write
  met_rests d (write s) = refl
  met_rests d (read header n) = refl
  met_rests d (measure page quantity word) = refl
  met_rests d (sample n) = refl
  met_rests d (alert_response n) = refl
  met_rests d tick = refl

  met_present : (d : Device) (c : Call) → steps.cause_present (met d c) ≡ present_at i k (next d c)
  unfolding step_of
  met_present d (write s) = refl
  met_present d (read header n) = refl
  met_present d (measure page quantity word) = refl
  met_present d (sample n) = refl
  met_present d (alert_response n) = refl
  met_present d tick = refl

  met_tick : (d : Device) (c : Call) (m : ℕ) → cond (steps.is_tick (met d c)) (suc m) m ≡ cond (is_tick c) (suc m) m
  unfolding step_of
  met_tick d (write s) m = refl
  met_tick d (read header n) m = refl
  met_tick d (measure page quantity word) m = refl
  met_tick d (sample n) m = refl
  met_tick d (alert_response n) m = refl
  met_tick d tick m = refl

  within : Within next (byte_at i k) (response_at i k) met Good
  within = record {
    moves = λ d c g.
        left-moves k hk (page_of d i) (page_of (next d c) i) (clears d c i) (untrips d c i) (rests d c i) (time_of d c)
        (page-after d i (rw g.current.whole hi) c) (g.current.page i hi)
        ∙ ap (byte_after (response_at i k (next d c)) (byte_at i k d)) (sym (met_is d c g.valid));
    keeps = λ d c g e.
        left-keeps k hk (page_of d i) (page_of (next d c) i) (clears d c i) (untrips d c i) (rests d c i) (time_of d c)
        (page-after d i (rw g.current.whole hi) c) (sym (met_rests d c) ∙ e);
    stays = λ d c g. record { current = current-after n d c g.current; valid = valid_after d c g.valid };
  }

  -- ---- the same, said of the device
  abbrev met_steps : Device → List Call → List Step
  met_steps d cs = steps_in next (byte_at i k) (response_at i k) met d cs

  same_start : (d : Device) (c : Call) → steps.starts (response_at i k (next d c)) (machine_of (byte_at i k d)) (met d c) ≡ starts_at i k d c
  unfolding starts_at
  same_start d c = rw (met_present d c, met_rests d c)

  same_lasts : (d : Device) (cs : List Call) → all_of steps.lasts (met_steps d cs) ≡ lasts_through i k d cs
  unfolding steps_in lasts_through
  same_lasts d [] = refl
  same_lasts d (c ∷ cs) = rw (met_present d c, met_rests d c, same_lasts (next d c) cs)

  same_ticks : (d : Device) (cs : List Call) → steps.ticks_in (met_steps d cs) ≡ ticks cs
  unfolding steps_in steps.ticks_in ticks
  same_ticks d [] = refl
  same_ticks d (c ∷ cs) = rw (same_ticks (next d c) cs) (met_tick d c (ticks cs))

  same_times : (d : Device) (cs : List Call) → times_on_in next (byte_at i k) (response_at i k) met d cs ≡ times_let_on i k d cs
  unfolding times_on_in times_let_on
  same_times d [] = refl
  same_times d (c ∷ cs) = rw (same_times (next d c) cs)

  same_later : (d : Device) (cs : List Call) → state_after next (byte_at i k) (response_at i k) met d cs ≡ run d cs
  unfolding state_after run
  same_later d [] = refl
  same_later d (c ∷ cs) = same_later (next d c) cs

  same_way : (d : Device) (cs : List Call) → under_way_in next (byte_at i k) (response_at i k) met d cs ≡ under_way i k d cs
  unfolding under_way_in under_way
  same_way d [] = refl
  same_way d (c ∷ cs) = rw (met_rests d c, same_way (next d c) cs)

  stepped : (r : ℕ) (m : Machine) (d : Device) (c : Call)
      → steps.after r m (met d c)
      ≡ cond (is_tick c) (at_tick r (present_at i k (next d c)) m) (at_call r (present_at i k (next d c)) (cond (rests d c i k) rest m))
  unfolding step_of steps.after
  stepped r m d (write s) = refl
  stepped r m d (read header n) = refl
  stepped r m d (measure page quantity word) = refl
  stepped r m d (sample n) = refl
  stepped r m d (alert_response n) = refl
  stepped r m d tick = refl

-- ---- the claims

pub tick_quiet : TickQuiet
unfolding TickQuiet Effects Leaves step answered answer_of
tick_quiet d =
    by_answer d tick (λ z. let e = effects d tick z in (e.unpaged, λ i h. (e.pages i h).status))
    (λ r. let same = refused-next d tick r ∙ device-stays d (answer d tick) silent-tick in
    (ap (λ (e : Device). e.unpaged) same, λ i h. ap (λ (e : Device). (page_of e i).status) same))
  where
    silent-tick : cml_bits (answer d tick) ≡ 0
    silent-tick = either (device_valid d) (λ v. rw v no_bit) (λ v. rw v no_bit_15)

down_is : (m : Machine) → trips m ≡ true → m ≡ tripped
down_is rest h = absurd (false≢true h)
down_is (waiting t) h = absurd (false≢true h)
down_is (held j t) h = absurd (false≢true h)
down_is (trying j) h = absurd (false≢true h)
down_is tripped h = refl

down-stays : (r : ℕ) (s : Step) → steps.rests s ≡ false → steps.after r tripped s ≡ tripped
unfolding steps.after at_call at_tick
down-stays r (steps.tick c) h = refl
down-stays r (steps.call false c) h = refl
down-stays r (steps.call true c) h = absurd (false≢true (sym h))

pub stays-down : StaysDown
unfolding StaysDown ReachedValid
stays-down x cs c i k many hi hk down n-rest =
    let n = number_of x in
    let d = reached x cs in
    let g : Good n i k hi hk d = record { current = current x cs; valid = reached-valid x cs many } in
    let s = met n i k hi hk d c in
    let r = response_at i k (next d c) in
    let m : machine_of (byte_at i k (next d c)) ≡ tripped =
    ap machine_of ((within n i k hi hk).moves d c g) ∙ machine_after r (byte_at i k d) s
    ∙ ap (λ (x : Machine). steps.after r x s) (down_is (machine_of (byte_at i k d)) down) ∙ down-stays r s (met_rests n i k hi hk d c ∙ n-rest) in
    ap trips m

pub lets_on-again : LetsOnAgain
unfolding LetsOnAgain ReachedValid LetsOnIn
lets_on-again x cs c ds i k many hi hk low high first lasting =
    let n = number_of x in
    let d = reached x cs in
    let e = next d c in
    let g : Good n i k hi hk d = record { current = current x cs; valid = reached-valid x cs many } in
    rw (← same_times n i k hi hk e ds, ← same_ticks n i k hi hk e ds)
    (lets_on-in next (byte_at i k) (response_at i k) (met n i k hi hk) (Good n i k hi hk) (within n i k hi hk) d c ds g low high
    (same_start n i k hi hk d c ∙ first) (same_lasts n i k hi hk e ds ∙ lasting))

pub lets_on-by_ticks : LetsOnByTicks
unfolding LetsOnByTicks ReachedValid LetsOnAtIn
lets_on-by_ticks x cs c ds i k many hi hk first lasting =
    let n = number_of x in
    let d = reached x cs in
    let e = next d c in
    let g : Good n i k hi hk d = record { current = current x cs; valid = reached-valid x cs many } in
    rw (← same_times n i k hi hk e ds, ← same_ticks n i k hi hk e ds)
    (lets_on-at_in next (byte_at i k) (response_at i k) (met n i k hi hk) (Good n i k hi hk) (within n i k hi hk) d c ds g
    (same_start n i k hi hk d c ∙ first) (same_lasts n i k hi hk e ds ∙ lasting))

pub machine_moves : MachineMoves
unfolding MachineMoves ReachedValid
machine_moves x cs c i k many hi hk =
    let n = number_of x in
    let d = reached x cs in
    let g : Good n i k hi hk d = record { current = current x cs; valid = reached-valid x cs many } in
    let r = response_at i k (next d c) in
    ap machine_of ((within n i k hi hk).moves d c g) ∙ machine_after r (byte_at i k d) (met n i k hi hk d c)
    ∙ stepped n i k hi hk r (machine_of (byte_at i k d)) d c

-- a machine that has tripped its page, on a page that is up to date
down-trips : (p : Page) (k : ℕ) → k < 6 → UpToDate p → trips (machine_of (get_or p.machines k 0)) ≡ true → p.tripped ≡ true
unfolding any_trips byte_trips
down-trips p k h g e =
    g.tripped
    (rw (six_some (λ j. trips (machine_of (get_or p.machines j 0))) k h e) (or-true (trips_at_once (present_causes p) p.responses)))

pub trips-by_ticks : TripsByTicks
unfolding TripsByTicks ReachedValid TripsAtIn
trips-by_ticks x cs c ds i k many hi hk first lasting =
    let n = number_of x in
    let d = reached x cs in
    let e = next d c in
    let g : Good n i k hi hk d = record { current = current x cs; valid = reached-valid x cs many } in
    let w = within n i k hi hk in (
      rw (← same_later n i k hi hk e ds, ← same_ticks n i k hi hk e ds)
          (trips-at-in next (byte_at i k) (response_at i k) (met n i k hi hk) (Good n i k hi hk) w d c ds g
          (same_start n i k hi hk d c ∙ first) (same_lasts n i k hi hk e ds ∙ lasting)),
      down-trips (page_of (run e ds) i) k hk
          ((kept-in_runs (Current n) (current-after n) e ds (current-after n d c g.current)).page i hi),
    )

-- at power-on every machine is at rest
rested : (c : PageChoice) (k : ℕ) → k < 6 → get_or (chosen_page c).machines k 0 ≡ 0
unfolding chosen_page power_on_page
rested c k h = agree (λ k. get_or (chosen_page c).machines k 0) (λ k. 0) 6 tt k h

pub at_most : AtMost
unfolding AtMost AtMostIn run
at_most x cs ds i k many hi hk =
    let n = number_of x in
    let p = power_on x in
    let t = state_after next (byte_at i k) (response_at i k) (met n i k hi hk) p cs in
    let g : Good n i k hi hk p = record { current = current x []; valid = powered-valid x many } in
    let z : byte_at i k p ≡ 0 = ap (λ (q : Page). get_or q.machines k 0) ((powered x).page i hi) ∙ rested (choice_at x i) k hk in
    subst (λ (d : Device). retries (response_at i k d) ≤ 6 → under_way i k d ds ≡ true → times_let_on i k d ds ≤ retries (response_at i k d))
    (same_later n i k hi hk p cs)
    (λ few way. rw (← same_times n i k hi hk t ds)
    (at_most_in next (byte_at i k) (response_at i k) (met n i k hi hk) (Good n i k hi hk) (within n i k hi hk) p cs ds g z few
    (same_way n i k hi hk t ds ∙ way)))
