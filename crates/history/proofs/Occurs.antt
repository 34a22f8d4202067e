-- Each value of a machine's byte occurs: the four calls are followed on the page that they name, and the page is computed.
-- Assumes nothing.
use Prim.Native.Nat.{ℕ, zero, suc, ◌%◌, ◌<◌}
use mathlib.Core.Path.{◌≡◌, refl, ap, ◌∙◌}
use mathlib.Core.Logic.{inl}
use mathlib.Core.Bool.{Bool, true, false, cond}
use mathlib.Core.List.{List, [], ◌∷◌}
use native.Mathlib.Omega.{arith}
use lib.Dec.{eqb, ltb}
use lib.ListN.{length, get_or, get_or-replicate}
use borrow.Author.Tests.{eq-eqb, lt-ltb, lt-leb}
use Rattle.laws.proofs.Branches.{either}
use Rattle.laws.proofs.Every.{agree}
use Rattle.laws.proofs.Places.{get_or-map_at}
use Rattle.linear11.specs.Linear11.{signed_of, mantissa, exponent, order_of, word_order}
use Rattle.value.specs.Value.{ratio_order, linear_num, linear_den}
use Rattle.value.specs.Value as fraction
use Rattle.value.specs.Format.{value_of, value_order}
use Rattle.retry.specs.Response.{delay}
use Rattle.retry.specs.Machine.{hold, look, started, less_one, at_call, at_tick}
use Rattle.retry.specs.Byte.{byte_of, machine_of, byte_at_call, byte_at_tick}
use Rattle.retry.specs.Machines.{all_at_call, all_at_tick}
use Rattle.retry.proofs.Values.{response_to, response-byte}
use Rattle.cause.specs.Causes.{causes, warnings}
use Rattle.command.specs.Table.{table, entry_of, lookup}
use Rattle.command.specs.Meaning.{setting_of, fault_of, command_of}
use Rattle.page.specs.declared.Page.{Page}
use Rattle.page.specs.Page.{power_on_page, no_page}
use Rattle.page.specs.Causes.{order_by, on_side, crossed, present_causes, moved, settled, ticked}
use Rattle.page.specs.Settings.{valid_response, set_response, set_measurement}
use Rattle.unpaged.specs.Unpaged.{valid_page, acts_on}
use Rattle.unpaged.specs.Events.{measure_answer}
use Rattle.writes.specs.declared.asked.Setting.{Setting}
use Rattle.writes.specs.declared.asked.Write.{Write}
use Rattle.writes.specs.Asked.{write_of, asked, valid_setting, valid_write}
use Rattle.writes.specs.Answers.{permitted}
use Rattle.writes.specs.Left.{applied, changed, page_left, unpaged_left, clearing}
use Rattle.device.specs.declared.Device.{Device}
use Rattle.device.specs.Device.{usual, supported, power_on, page_of, device_valid, alert_risen, alert_standing}
use Rattle.device.specs.Step.{Call, write, measure, tick, answer_of, effect, step, written}
use Rattle.device.proofs.PowerOn.{usual-number, usual-granted, usual-device, powered}
use Rattle.device.proofs.States.{answered-of}
use Rattle.device.proofs.Touches.{written-pages, measured-pages}
use Rattle.history.specs.Run.{next, answer, run, reached}
use Rattle.history.specs.Accepted.{TakesEffect}
use Rattle.history.specs.Valid.{ReachedValid, ReachedWhole}
use Rattle.history.specs.Occurs.{response_codes, quantities, past_limits, calls_to, MachineOccurs}
use Rattle.history.proofs.Outcomes.{done_next, write_next, takes_effect, ticked-page_at}
use Rattle.history.proofs.Runs.{reached-whole}
use Rattle.history.proofs.Valid.{reached-valid}

-- ---- a call that is accepted, on page i

module _ (d : Device) (i : ℕ) (small : i < length d.pages) where
  written_at : (s : List ℕ) → answer d (write s) ≡ 0
      → page_of (next d (write s)) i ≡ cond (acts_on d.unpaged i) (page_left (asked s) (page_of d i)) (page_of d i)
  written_at s z =
      ap (λ (e : Device). page_of e i) (write_next d s z)
      ∙ rw (written-pages d (asked s)) (get_or-map_at no_page (acts_on d.unpaged) (page_left (asked s)) d.pages i small)

  measured-at : (q w : ℕ) → answer d (measure i q w) ≡ 0 → page_of (next d (measure i q w)) i ≡ settled (set_measurement (page_of d i) q w)
  unfolding effect
  measured-at q w z =
      ap (λ (e : Device). page_of e i) (done_next d (measure i q w) z)
      ∙ rw (measured-pages d i q w) (get_or-map_at no_page (eqb i) (λ p. settled (set_measurement p q w)) d.pages i small ∙ rw (eq-eqb i i refl))

written-selected : (d : Device) (w : Write) → (written d w).unpaged.page ≡ (unpaged_left w d.unpaged).page
unfolding written alert_standing alert_risen
written-selected d w = either (clearing w) (λ e. rw e) (λ e. rw e)

written-protect : (d : Device) (w : Write) → (written d w).unpaged.protect ≡ (unpaged_left w d.unpaged).protect
unfolding written alert_standing alert_risen
written-protect d w = either (clearing w) (λ e. rw e) (λ e. rw e)

-- ---- what the two writes ask for

abbrev selecting : ℕ → List ℕ
selecting i = 0xC0 ∷ 0x00 ∷ i ∷ []

selects : (i : ℕ) → asked (selecting i) ≡ Write.SelectPage i
unfolding asked write_of command_of setting_of
selects i = refl

abbrev responding : ℕ → ℕ → List ℕ
responding k r = 0xC0 ∷ get_or response_codes k 0 ∷ r ∷ []

-- cause k has a machine
record Machined (k : ℕ) : Type 0 where
  asks : (r : ℕ) → asked (responding k r) ≡ Write.Change (Setting.Response k r)
  valid : (r : ℕ) → valid_response k r ≡ true
  marked : (lookup (get_or response_codes k 0)).written ≡ true
  long : (lookup (get_or response_codes k 0)).length ≡ 1
  measures : ltb 3 (get_or quantities k 0) ≡ false

machined : (k : ℕ) → k < 6 → (k ≡ 1 → ⊥) → Machined k
unfolding asked write_of command_of fault_of valid_response causes table entry_of lookup
machined zero h m = record { asks = λ r. refl; valid = λ r. refl; marked = refl; long = refl; measures = refl }
machined (suc zero) h m = absurd (m refl)
machined (suc (suc zero)) h m = record { asks = λ r. refl; valid = λ r. refl; marked = refl; long = refl; measures = refl }
machined (suc (suc (suc zero))) h m = record { asks = λ r. refl; valid = λ r. refl; marked = refl; long = refl; measures = refl }
machined (suc (suc (suc (suc zero)))) h m =
    record { asks = λ r. refl; valid = λ r. refl; marked = refl; long = refl; measures = refl }
machined (suc (suc (suc (suc (suc zero))))) h m =
    record { asks = λ r. refl; valid = λ r. refl; marked = refl; long = refl; measures = refl }
machined (suc (suc (suc (suc (suc (suc k)))))) h m = absurd (omega arith)

-- ---- the page, computed

unfoldable page_to : ℕ → ℕ → Page
page_to k r = settled (set_measurement (changed (Setting.Response k r) power_on_page) (get_or quantities k 0) (get_or past_limits k 0))

unfoldable ticked_to : ℕ → Bool
ticked_to b = eqb (b % 8) 0

unfoldable byte_to : ℕ → ℕ → ℕ
byte_to k b = get_or (cond (ticked_to b) (ticked (page_to k (response_to b))) (page_to k (response_to b))).machines k 0

computed : (k : ℕ) → k < 6 → (k ≡ 1 → ⊥) → (b : ℕ) → b < 65 → byte_to k b ≡ b
unfolding
    byte_to page_to ticked_to response_to power_on_page changed applied set_response set_measurement settled ticked moved present_causes crossed
    order_by on_side causes warnings all_at_call all_at_tick byte_at_call byte_at_tick byte_of machine_of at_call at_tick started hold look less_one delay
    word_order value_order value_of ratio_order linear_num linear_den fraction.above fraction.under order_of exponent mantissa signed_of
computed zero h m = agree (byte_to 0) (λ b. b) 65 tt
computed (suc zero) h m = absurd (m refl)
computed (suc (suc zero)) h m = agree (byte_to 2) (λ b. b) 65 tt
computed (suc (suc (suc zero))) h m = agree (byte_to 3) (λ b. b) 65 tt
computed (suc (suc (suc (suc zero)))) h m = agree (byte_to 4) (λ b. b) 65 tt
computed (suc (suc (suc (suc (suc zero))))) h m = agree (byte_to 5) (λ b. b) 65 tt
computed (suc (suc (suc (suc (suc (suc k)))))) h m = absurd (omega arith)

-- ---- the calls are accepted, and what they leave of the page

module _ (d : Device) (i : ℕ) (v : device_valid d ≡ true) (small : i < length d.pages) where
  page-valid : valid_write (length d.pages) (Write.SelectPage i) ≡ true
  unfolding valid_write valid_page
  page-valid = rw (lt-ltb i (length d.pages) small)

  page-marked : (lookup 0x00).written ≡ true
  unfolding lookup entry_of table
  page-marked = refl

  page-long : (lookup 0x00).length ≡ 1
  unfolding lookup entry_of table
  page-long = refl

  permits : (code : ℕ) → d.unpaged.protect ≡ 0 → permitted d.unpaged.protect code ≡ true
  unfolding permitted
  permits code e = rw e

  page-accepted : d.unpaged.protect ≡ 0 → answer d (write (selecting i)) ≡ 0
  unfolding TakesEffect
  page-accepted e =
      (takes_effect d (selecting i) v).0.1
      (record {
        formed = record { two = omega arith; address = refl; marked = page-marked; data_bytes = inl (rw page-long) };
        allowed = permits 0x00 e;
        valid = rw (selects i) page-valid;
      })

  page-selected : answer d (write (selecting i)) ≡ 0
      → (page_of (next d (write (selecting i))) i ≡ page_of d i) × ((next d (write (selecting i))).unpaged.page ≡ i)
      × ((next d (write (selecting i))).unpaged.protect ≡ d.unpaged.protect)
  unfolding page_left unpaged_left
  page-selected z =
      let e = write_next d (selecting i) z in (
        written_at d i small (selecting i) z ∙ rw (selects i) (either (acts_on d.unpaged i) (λ y. rw y) (λ y. rw y)),
        ap (λ (x : Device). x.unpaged.page) e ∙ written-selected d (asked (selecting i)) ∙ rw (selects i),
        ap (λ (x : Device). x.unpaged.protect) e ∙ written-protect d (asked (selecting i)) ∙ rw (selects i),
      )

  module _ (k r : ℕ) (some : Machined k) where
    response-valid : valid_write (length d.pages) (Write.Change (Setting.Response k r)) ≡ true
    unfolding valid_write valid_setting
    response-valid = some.valid r

    response-accepted : d.unpaged.protect ≡ 0 → answer d (write (responding k r)) ≡ 0
    unfolding TakesEffect
    response-accepted e =
        (takes_effect d (responding k r) v).0.1
        (record {
          formed = record { two = omega arith; address = refl; marked = some.marked; data_bytes = inl (rw some.long) };
          allowed = permits (get_or response_codes k 0) e;
          valid = rw (some.asks r) response-valid;
        })

    response-left : d.unpaged.page ≡ i → answer d (write (responding k r)) ≡ 0
        → page_of (next d (write (responding k r))) i ≡ changed (Setting.Response k r) (page_of d i)
    unfolding page_left acts_on
    response-left e z = written_at d i small (responding k r) z ∙ rw (some.asks r, e, eq-eqb i i refl)

  measure_accepted : (q w : ℕ) → ltb 3 q ≡ false → answer d (measure i q w) ≡ 0
  unfolding step answer_of measure_answer
  measure_accepted q w few = answered-of d (measure i q w) v ∙ rw (lt-leb (length d.pages) i small, few)

  tick_accepted : answer d tick ≡ 0
  unfolding step answer_of
  tick_accepted = answered-of d tick v

-- ---- the run

module _ (n i k r : ℕ) (sup : supported n ≡ true) (hi : i < n) (some : Machined k) where
  valid : (cs : List Call) → device_valid (reached (usual n) cs) ≡ true
  unfolding ReachedValid
  valid cs = reached-valid (usual n) cs (usual-granted n ∙ sup)

  small : (cs : List Call) → i < length (reached (usual n) cs).pages
  unfolding ReachedWhole
  small cs = rw (reached-whole (usual n) cs, usual-number n) hi

  abbrev selected : List Call
  selected = write (selecting i) ∷ []

  abbrev responded : List Call
  responded = write (selecting i) ∷ write (responding k r) ∷ []

  abbrev measured : List Call
  measured = write (selecting i) ∷ write (responding k r) ∷ measure i (get_or quantities k 0) (get_or past_limits k 0) ∷ []

  after-page : (page_of (reached (usual n) selected) i ≡ power_on_page) × ((reached (usual n) selected).unpaged.page ≡ i)
      × ((reached (usual n) selected).unpaged.protect ≡ 0)
  unfolding run
  after-page =
      let d = power_on (usual n) in
      let e = (powered (usual n)).protect in
      let p = page-selected d i (valid []) (small []) (page-accepted d i (valid []) (small []) e) in (
        p.0 ∙ ap (λ (x : Device). page_of x i) (usual-device n) ∙ get_or-replicate n i power_on_page no_page hi,
        p.1,
        p.2 ∙ e,
      )

  after-response : page_of (reached (usual n) responded) i ≡ changed (Setting.Response k r) power_on_page
  unfolding run
  after-response =
      let d = reached (usual n) selected in
      response-left d i (valid selected) (small selected) k r some after-page.1
      (response-accepted d i (valid selected) (small selected) k r some after-page.2)
      ∙ ap (changed (Setting.Response k r)) after-page.0

  after-measurement : page_of (reached (usual n) measured) i ≡ page_to k r
  unfolding run page_to
  after-measurement =
      let d = reached (usual n) responded in
      let q = get_or quantities k 0 in
      let w = get_or past_limits k 0 in
      measured-at d i (small responded) q w (measure_accepted d i (valid responded) (small responded) q w some.measures)
      ∙ ap (λ (p : Page). settled (set_measurement p q w)) after-response

  after-all : (late : Bool) → page_of (reached (usual n) (calls_to i k r late)) i ≡ cond late (ticked (page_to k r)) (page_to k r)
  unfolding run calls_to
  after-all true =
      let d = reached (usual n) measured in
      ticked-page_at d (tick_accepted d i (valid measured) (small measured)) i (small measured) ∙ ap ticked after-measurement
  after-all false = after-measurement

pub machine_occurs : MachineOccurs
unfolding MachineOccurs byte_to
machine_occurs n i k b sup hi hk m hb =
    record {
      response = response_to b;
      is_byte = response-byte b (omega arith);
      ticked = ticked_to b;
      reaches = ap (λ (p : Page). get_or p.machines k 0) (after-all n i k (response_to b) sup hi (machined k hk m) (ticked_to b))
          ∙ computed k hk m b (omega arith);
    }
