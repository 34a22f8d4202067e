-- What one call leaves of a stored code and of a measured quantity.
-- Assumes nothing.
use Prim.Native.Nat.{ℕ, ◌<◌}
use mathlib.Core.Path.{◌≡◌, refl, ap, ap₂, ◌∙◌}
use mathlib.Core.Bool.{false, cond, ◌&&◌, and-true, and-false}
use mathlib.Core.List.{List}
use lib.Dec.{eqb}
use lib.ListN.{length, get_or}
use borrow.Author.Tests.{eq-eqb, ne_eqb}
use Rattle.laws.specs.Lists.{Bytes}
use Rattle.laws.proofs.Branches.{either}
use Rattle.laws.proofs.Lists.{byte-lt}
use Rattle.page.proofs.Chosen.{Sized}
use Rattle.unpaged.specs.declared.Unpaged.{Unpaged}
use Rattle.unpaged.specs.Unpaged.{acts_on, refused}
use Rattle.writes.specs.Asked.{word_of, asked}
use Rattle.writes.specs.Accepted.{code_of}
use Rattle.device.specs.declared.Device.{Device}
use Rattle.device.specs.Device.{page_of}
use Rattle.device.specs.Step.{Call, write, read, measure, sample, alert_response, tick, effect, refused_device}
use Rattle.history.specs.Run.{next, answer}
use Rattle.history.specs.Effects.{Effects, Leaves}
use Rattle.history.specs.ReadBack.{OnBus, stores, written_data, measures, measured_word}
use Rattle.history.proofs.Outcomes.{done_next, refused-next, by_answer, write_next, ticked-page_at}
use Rattle.history.proofs.Runs.{same_length}
use Rattle.history.proofs.Effects.{measure_named, measured-page-at, written-page-at, written-page, written-protect, effects}
use Rattle.history.proofs.Fields.{left-sized, measured-sized, ticked-sized}
use Rattle.history.proofs.Measured.{WordField}
use Rattle.history.proofs.Stored.{PageField, DeviceField}

module _ (d : Device) where
  refused-page : (c : Call) → (answer d c ≡ 0 → ⊥) → (i : ℕ) → page_of (next d c) i ≡ page_of d i
  unfolding refused_device
  refused-page c r i = ap (λ (e : Device). page_of e i) (refused-next d c r)

  refused-stores : (c : Call) → (answer d c ≡ 0 → ⊥) → (i code : ℕ) → stores i code d c ≡ false
  unfolding stores
  refused-stores (write s) r i code = rw (ne_eqb (answer d (write s)) 0 r)
  refused-stores (read header n) r i code = refl
  refused-stores (measure page quantity word) r i code = refl
  refused-stores (sample n) r i code = refl
  refused-stores (alert_response n) r i code = refl
  refused-stores tick r i code = refl

  refused-measures : (c : Call) → (answer d c ≡ 0 → ⊥) → (i q : ℕ) → measures i q d c ≡ false
  unfolding measures
  refused-measures (write s) r i q = refl
  refused-measures (read header n) r i q = refl
  refused-measures (measure page quantity word) r i q = rw (ne_eqb (answer d (measure page quantity word)) 0 r)
  refused-measures (sample n) r i q = refl
  refused-measures (alert_response n) r i q = refl
  refused-measures tick r i q = refl

-- a page of a run has lists of their lengths
pub record AllSized (d : Device) : Type 0 where
  pub at : (i : ℕ) → i < length d.pages → Sized (page_of d i)

module _ (d : Device) (g : AllSized d) (i : ℕ) (small : i < length d.pages) where
  done-sized : (c : Call) → answer d c ≡ 0 → Sized (page_of (next d c) i)
  unfolding effect
  done-sized (write s) z =
      rw (ap (λ (e : Device). page_of e i) (write_next d s z) ∙ written-page-at d (asked s) i small)
      (either (acts_on d.unpaged i) (λ y. rw y (left-sized (page_of d i) (g.at i small) (asked s))) (λ n. rw n (g.at i small)))
  done-sized (read header n) z = rw (done_next d (read header n) z) (g.at i small)
  done-sized (measure page quantity word) z =
      rw (measured-page-at d page quantity word z i small)
      (either (eqb page i) (λ y. rw y (measured-sized (page_of d i) (g.at i small) quantity word)) (λ n. rw n (g.at i small)))
  done-sized (sample n) z = rw (done_next d (sample n) z) (g.at i small)
  done-sized (alert_response n) z = rw (done_next d (alert_response n) z) (g.at i small)
  done-sized tick z = rw (ticked-page_at d z i small) (ticked-sized (page_of d i) (g.at i small))

  -- ---- a code of page i after a call
  module _ (code : ℕ) (f : PageField code) where
    write_steps : (s : List ℕ) → Bytes s → answer d (write s) ≡ 0
        → f.get (page_of (next d (write s)) i) ≡ cond (stores i code d (write s)) (written_data (write s)) (f.get (page_of d i))
    unfolding stores written_data asked
    write_steps s b z =
        let p = page_of d i in
        let x = get_or s 2 0 in
        let y = get_or s 3 0 in
        let sets = f.write_sets p (g.at i small) (code_of s) x y (byte-lt s b 1) (byte-lt s b 2) in
        ap (λ (e : Device). f.get (page_of e i)) (write_next d s z)
        ∙ ap f.get (written-page-at d (asked s) i small)
        ∙ either (acts_on d.unpaged i)
        (λ a. rw (a, eq-eqb (answer d (write s)) 0 z, f.paged, and-true (eqb (code_of s) code)) sets)
        (λ a. rw (a, f.paged, and-false (eqb (answer d (write s)) 0 && eqb (code_of s) code)))

    measure_steps : (page quantity word : ℕ) → answer d (measure page quantity word) ≡ 0
        → f.get (page_of (next d (measure page quantity word)) i) ≡ f.get (page_of d i)
    measure_steps page quantity word z =
        ap f.get (measured-page-at d page quantity word z i small)
        ∙ either (eqb page i) (λ y. rw y (f.measure_keeps (page_of d i) quantity word)) (λ n. rw n)

    done-steps : (c : Call) → OnBus c → answer d c ≡ 0
        → f.get (page_of (next d c) i) ≡ cond (stores i code d c) (written_data c) (f.get (page_of d i))
    unfolding stores effect
    done-steps (write s) b z = write_steps s b z
    done-steps (read header n) b z = ap (λ (e : Device). f.get (page_of e i)) (done_next d (read header n) z)
    done-steps (measure page quantity word) b z = measure_steps page quantity word z
    done-steps (sample n) b z = ap (λ (e : Device). f.get (page_of e i)) (done_next d (sample n) z)
    done-steps (alert_response n) b z = ap (λ (e : Device). f.get (page_of e i)) (done_next d (alert_response n) z)
    done-steps tick b z = ap f.get (ticked-page_at d z i small) ∙ f.tick_keeps (page_of d i)

    pub page-steps : (c : Call) → OnBus c → f.get (page_of (next d c) i) ≡ cond (stores i code d c) (written_data c) (f.get (page_of d i))
    page-steps c b =
        by_answer d c (done-steps c b) (λ r. ap f.get (refused-page d c r i) ∙ rw (refused-stores d c r i code))

  -- ---- a quantity of page i after a call
  module _ {A : Type 0} (q : ℕ) (f : WordField q A) where
    measured-steps : (page quantity word : ℕ) → answer d (measure page quantity word) ≡ 0
        → f.get (page_of (next d (measure page quantity word)) i)
        ≡ cond (measures i q d (measure page quantity word)) (f.given word) (f.get (page_of d i))
    unfolding measures
    measured-steps page quantity word z =
        ap f.get (measured-page-at d page quantity word z i small)
        ∙ either (eqb page i)
        (λ y. rw (y, eq-eqb (answer d (measure page quantity word)) 0 z)
        (f.measure_sets (page_of d i) (g.at i small) quantity word (measure_named d page quantity word z).1))
        (λ n. rw (n, and-false (eqb (answer d (measure page quantity word)) 0)))

    unwritten : (s : List ℕ) → answer d (write s) ≡ 0 → f.get (page_of (next d (write s)) i) ≡ f.get (page_of d i)
    unwritten s z =
        ap (λ (e : Device). f.get (page_of e i)) (write_next d s z) ∙ ap f.get (written-page-at d (asked s) i small)
        ∙ either (acts_on d.unpaged i) (λ y. rw y (f.write_keeps (asked s) (page_of d i))) (λ n. rw n)

    done-word : (c : Call) → answer d c ≡ 0
        → f.get (page_of (next d c) i) ≡ cond (measures i q d c) (f.given (measured_word c)) (f.get (page_of d i))
    unfolding measures measured_word effect
    done-word (write s) z = unwritten s z
    done-word (read header n) z = ap (λ (e : Device). f.get (page_of e i)) (done_next d (read header n) z)
    done-word (measure page quantity word) z = measured-steps page quantity word z
    done-word (sample n) z = ap (λ (e : Device). f.get (page_of e i)) (done_next d (sample n) z)
    done-word (alert_response n) z = ap (λ (e : Device). f.get (page_of e i)) (done_next d (alert_response n) z)
    done-word tick z = ap f.get (ticked-page_at d z i small) ∙ f.tick_keeps (page_of d i)

    pub word-steps : (c : Call) → f.get (page_of (next d c) i) ≡ cond (measures i q d c) (f.given (measured_word c)) (f.get (page_of d i))
    word-steps c = by_answer d c (done-word c) (λ r. ap f.get (refused-page d c r i) ∙ rw (refused-measures d c r i q))

pub sized_after : (d : Device) (c : Call) → AllSized d → AllSized (next d c)
sized_after d c g = record {
  at = λ i h. let small : i < length d.pages = rw (same_length d c) at h in
      by_answer d c (done-sized d g i small c) (λ r. rw (refused-page d c r i) (g.at i small));
}

-- a code of the device after a call
module _ (d : Device) (i code : ℕ) (f : DeviceField code) where
  abbrev view : Device → List ℕ
  view e = f.get e.unpaged.page e.unpaged.protect

  kept-view : (c : Call) → (next d c).unpaged.page ≡ d.unpaged.page → (next d c).unpaged.protect ≡ d.unpaged.protect
      → stores i code d c ≡ false → view (next d c) ≡ cond (stores i code d c) (written_data c) (view d)
  kept-view c e h n = ap₂ f.get e h ∙ rw n

  write_view : (s : List ℕ) → answer d (write s) ≡ 0
      → view (next d (write s)) ≡ cond (stores i code d (write s)) (written_data (write s)) (view d)
  unfolding stores written_data asked
  write_view s z =
      let w = asked s in
      ap view (write_next d s z) ∙ ap₂ f.get (written-page d w) (written-protect d w)
      ∙ rw (eq-eqb (answer d (write s)) 0 z, f.unpaged, and-true (eqb (code_of s) code))
      (f.write_sets d.unpaged (code_of s) (get_or s 2 0) (get_or s 3 0) (word_of (get_or s 2 0) (get_or s 3 0)))

  done-view : (c : Call) → answer d c ≡ 0 → view (next d c) ≡ cond (stores i code d c) (written_data c) (view d)
  unfolding stores effect Effects Leaves
  done-view (write s) z = write_view s z
  done-view (read header n) z = ap view (done_next d (read header n) z)
  done-view (measure page quantity word) z =
      let e = effects d (measure page quantity word) z in kept-view (measure page quantity word) e.page e.protect refl
  done-view (sample n) z = let e = effects d (sample n) z in kept-view (sample n) e.page e.protect refl
  done-view (alert_response n) z = let e = effects d (alert_response n) z in kept-view (alert_response n) e.page e.protect refl
  done-view tick z =
      let e = (effects d tick z).unpaged in
      kept-view tick (ap (λ (u : Unpaged). u.page) e) (ap (λ (u : Unpaged). u.protect) e) refl

  pub device-steps : (c : Call) → view (next d c) ≡ cond (stores i code d c) (written_data c) (view d)
  unfolding refused_device refused
  device-steps c =
      by_answer d c (done-view c)
      (λ r. kept-view c (ap (λ (e : Device). e.unpaged.page) (refused-next d c r)) (ap (λ (e : Device). e.unpaged.protect) (refused-next d c r))
      (refused-stores d c r i code))
