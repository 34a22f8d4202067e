-- What a call with answer 0 leaves as it was.
-- Assumes nothing.
use Prim.Native.Nat.{ℕ, ◌<◌, ◌%◌}
use mathlib.Core.Path.{◌≡◌, refl, sym, ap, ◌∙◌}
use mathlib.Core.Bool.{true, false, cond}
use mathlib.Core.List.{List}
use native.Mathlib.Omega.{arith}
use lib.Dec.{eqb, ltb, leb}
use lib.ListN.{length, get_or}
use lib.Seq.{get_or-set_other}
use borrow.Author.Tests.{eqb-true, eq-eqb, ne_eqb, ltb-false, ltb-true, leb-false}
use Rattle.laws.proofs.Branches.{either, cond_same, cond-apply}
use Rattle.laws.proofs.Places.{get_or-map_at, map-kept, map-past}
use Rattle.command.specs.Meaning.{command_of, setting_of, fault_of, reading_of}
use Rattle.page.specs.declared.Page.{Page}
use Rattle.page.specs.Page.{no_page}
use Rattle.page.specs.Causes.{moved, settled, ticked}
use Rattle.page.specs.Settings.{set_measurement, set_operation, set_vout_command, set_limit, set_response, clear_bits}
use Rattle.page.specs.Status.{reading}
use Rattle.unpaged.specs.declared.Unpaged.{Unpaged}
use Rattle.unpaged.specs.Unpaged.{acts_on}
use Rattle.unpaged.specs.Events.{measure_answer}
use Rattle.writes.specs.declared.asked.Setting.{Setting}
use Rattle.writes.specs.declared.asked.Write.{Write}
use Rattle.writes.specs.Asked.{clear_faults, write_of, word_of, asked, clear_status}
use Rattle.writes.specs.Left.{applied, changed, cleared, page_left, unpaged_left, clearing}
use Rattle.writes.specs.Accepted.{code_of}
use Rattle.device.specs.declared.Device.{Device}
use Rattle.device.specs.Device.{page_of, alert_risen, alert_standing}
use Rattle.device.specs.Step.{Call, write, read, measure, sample, alert_response, tick, answer_of, effect, step, written, measured, ticked_device}
use Rattle.device.proofs.States.{answer-zero}
use Rattle.device.proofs.Touches.{written-pages, measured-pages}
use Rattle.history.specs.Run.{next, answer}
use Rattle.history.specs.Effects.{OnlyQuantity, OnlyMeasured, OnlyWritten, OnlyMachines, Leaves, Effects}
use Rattle.history.proofs.Outcomes.{done_next, write_next, written-energy, ticked-page_at}
use Rattle.history.proofs.Runs.{same_length}

-- ---- measurements

-- a measurement that is not refused names a page and a quantity
pub in_range : (n page quantity : ℕ) → measure_answer n page quantity ≡ 0 → (page < n) × (quantity < 4)
unfolding measure_answer
in_range n page quantity z =
    either (leb n page) (λ y. let e : 12 ≡ 0 = rw y at z in absurd (omega arith))
    (λ a. either (ltb 3 quantity) (λ y. let e : 12 ≡ 0 = rw (a, y) at z in absurd (omega arith))
    (λ b. let small = leb-false n page a in let few = ltb-false 3 quantity b in (omega arith, omega arith)))

only-quantity : (p : Page) (quantity word : ℕ) → quantity < 4 → OnlyQuantity quantity p (settled (set_measurement p quantity word))
unfolding settled moved set_measurement reading
only-quantity p quantity word few =
    record {
      operation = refl;
      command = refl;
      limits = refl;
      responses = refl;
      others = λ q small other.
          rw (
            get_or-set_other p.measured (quantity % 4) (q % 4) true false (λ e. other (omega arith)),
            get_or-set_other p.words (quantity % 4) (q % 4) word 0 (λ e. other (omega arith)),
          );
    }

module _ (d : Device) (page quantity word : ℕ) where
  abbrev c : Call
  c = measure page quantity word

  pub measure_named : answer d c ≡ 0 → (page < length d.pages) × (quantity < 4)
  unfolding answer_of step
  measure_named z = in_range (length d.pages) page quantity (answer-zero d c z)

  -- each page by itself
  pub measured-page-at : answer d c ≡ 0 → (i : ℕ) → i < length d.pages
      → page_of (next d c) i ≡ cond (eqb page i) (settled (set_measurement (page_of d i) quantity word)) (page_of d i)
  unfolding effect
  measured-page-at z i small =
      ap (λ (e : Device). page_of e i) (done_next d c z)
      ∙ rw (measured-pages d page quantity word) (get_or-map_at no_page (eqb page) (λ p. settled (set_measurement p quantity word)) d.pages i small)

  only-measured : answer d c ≡ 0 → OnlyMeasured page quantity d (next d c)
  unfolding effect measured alert_risen
  only-measured z =
      let done = done_next d c z in
      record {
        page = ap (λ (e : Device). e.unpaged.page) done;
        protect = ap (λ (e : Device). e.unpaged.protect) done;
        cml = ap (λ (e : Device). e.unpaged.cml) done;
        energy = ap (λ (e : Device). e.unpaged.energy) done;
        number = same_length d c;
        others = λ i other.
            ap (λ (e : Device). page_of e i) done
            ∙ map-kept no_page (eqb page) (λ p. settled (set_measurement p quantity word)) d.pages i (ne_eqb page i (λ e. other (sym e)));
        measured = rw (measured-page-at z page (measure_named z).0, eq-eqb page page refl) (only-quantity (page_of d page) quantity word (measure_named z).1);
      }

-- ---- writes

applied-reading : (s : Setting) (p : Page) (q : ℕ) → reading (applied s p) q ≡ reading p q
unfolding applied set_operation set_vout_command set_limit set_response reading
applied-reading (Setting.Operation x) p q = refl
applied-reading (Setting.VoutCommand w) p q = refl
applied-reading (Setting.Limit k w) p q = refl
applied-reading (Setting.Response k x) p q = refl

settled-reading : (p : Page) (q : ℕ) → reading (settled p) q ≡ reading p q
unfolding settled moved reading
settled-reading p q = refl

pub left-reading : (w : Write) (p : Page) (q : ℕ) → reading (page_left w p) q ≡ reading p q
unfolding page_left changed cleared clear_bits reading
left-reading Write.Nothing p q = refl
left-reading (Write.SelectPage x) p q = refl
left-reading (Write.Protect x) p q = refl
left-reading (Write.Change s) p q = settled-reading (applied s p) q ∙ applied-reading s p q
left-reading (Write.Clear m) p q = settled-reading _ q
left-reading (Write.ClearCml m) p q = refl

-- the pages of a write, each by itself
pub written-page-at : (d : Device) (w : Write) (i : ℕ) → i < length d.pages
    → page_of (written d w) i ≡ cond (acts_on d.unpaged i) (page_left w (page_of d i)) (page_of d i)
written-page-at d w i small = rw (written-pages d w) (get_or-map_at no_page (acts_on d.unpaged) (page_left w) d.pages i small)

written-reading : (d : Device) (w : Write) (i q : ℕ) → reading (page_of (written d w) i) q ≡ reading (page_of d i) q
written-reading d w i q =
    either (ltb i (length d.pages))
    (λ y. let small = ltb-true i (length d.pages) y in
    ap (λ (p : Page). reading p q) (written-page-at d w i small)
    ∙ either (acts_on d.unpaged i) (λ a. rw a (left-reading w (page_of d i) q)) (λ a. rw a))
    (λ n. let past = ltb-false i (length d.pages) n in
    ap (λ (p : Page). reading p q) (rw (written-pages d w) (map-past no_page (acts_on d.unpaged) (page_left w) d.pages i (omega arith))))

module _ (d : Device) (w : Write) where
  pub written-page : (written d w).unpaged.page ≡ (unpaged_left w d.unpaged).page
  unfolding written alert_standing alert_risen
  written-page = either (clearing w) (λ e. rw e) (λ e. rw e)

  pub written-protect : (written d w).unpaged.protect ≡ (unpaged_left w d.unpaged).protect
  unfolding written alert_standing alert_risen
  written-protect = either (clearing w) (λ e. rw e) (λ e. rw e)

-- a write to a status register leaves PAGE and WRITE_PROTECT alone
module _ (u : Unpaged) (m x : ℕ) where
  status_page : (unpaged_left (clear_status m x) u).page ≡ u.page
  unfolding unpaged_left clear_status
  status_page = either (eqb m 4) (λ y. rw y) (λ n. rw n)

  status_protect : (unpaged_left (clear_status m x) u).protect ≡ u.protect
  unfolding unpaged_left clear_status
  status_protect = either (eqb m 4) (λ y. rw y) (λ n. rw n)

-- PAGE and WRITE_PROTECT after a write of each code
module _ (u : Unpaged) (code x w : ℕ) where
  pub page-code : (unpaged_left (write_of (command_of code) x w) u).page ≡ cond (eqb code 0x00) x u.page
  unfolding command_of setting_of fault_of reading_of write_of clear_faults unpaged_left
  page-code =
      either (eqb code 0x00) (λ e. rw (eqb-true code 0x00 e))
      (λ e. simp (e, cond-apply (λ c. (unpaged_left (write_of c x w) u).page), status_page u, cond_same))

  pub protect_code : (unpaged_left (write_of (command_of code) x w) u).protect ≡ cond (eqb code 0x10) x u.protect
  unfolding command_of setting_of fault_of reading_of write_of clear_faults unpaged_left
  protect_code =
      either (eqb code 0x10) (λ e. rw (eqb-true code 0x10 e))
      (λ e. simp (e, cond-apply (λ c. (unpaged_left (write_of c x w) u).protect), status_protect u, cond_same))

module _ (d : Device) (s : List ℕ) (z : answer d (write s) ≡ 0) where
  pub page-after-write : (next d (write s)).unpaged.page ≡ cond (eqb (code_of s) 0x00) (get_or s 2 0) d.unpaged.page
  unfolding asked
  page-after-write =
      ap (λ (e : Device). e.unpaged.page) (write_next d s z) ∙ written-page d (asked s)
      ∙ page-code d.unpaged (code_of s) (get_or s 2 0) (word_of (get_or s 2 0) (get_or s 3 0))

  pub protect_after_write : (next d (write s)).unpaged.protect ≡ cond (eqb (code_of s) 0x10) (get_or s 2 0) d.unpaged.protect
  unfolding asked
  protect_after_write =
      ap (λ (e : Device). e.unpaged.protect) (write_next d s z) ∙ written-protect d (asked s)
      ∙ protect_code d.unpaged (code_of s) (get_or s 2 0) (word_of (get_or s 2 0) (get_or s 3 0))

  only-written : OnlyWritten (code_of s) d (next d (write s))
  only-written =
      record {
        page = λ other. page-after-write ∙ rw (ne_eqb (code_of s) 0x00 other);
        protect = λ other. protect_after_write ∙ rw (ne_eqb (code_of s) 0x10 other);
        energy = ap (λ (e : Device). e.unpaged.energy) (write_next d s z) ∙ written-energy d (asked s);
        number = same_length d (write s);
        readings = λ i q. ap (λ (e : Device). reading (page_of e i) q) (write_next d s z) ∙ written-reading d (asked s) i q;
      }

-- ---- ticks

pub only-machines : (p : Page) → OnlyMachines p (ticked p)
unfolding ticked moved
only-machines p = record { operation = refl; command = refl; limits = refl; responses = refl; words = refl; measured = refl; status = refl }

ticked-unpaged : (d : Device) → answer d tick ≡ 0 → (next d tick).unpaged ≡ d.unpaged
unfolding effect ticked_device
ticked-unpaged d z = ap (λ (e : Device). e.unpaged) (done_next d tick z)

-- ---- every kind

pub effects : Effects
unfolding Effects Leaves effect
effects d (write s) z = only-written d s z
effects d (read header n) z = done_next d (read header n) z
effects d (measure page quantity word) z = only-measured d page quantity word z
effects d (sample n) z =
    let done = done_next d (sample n) z in
    record {
      page = ap (λ (e : Device). e.unpaged.page) done;
      protect = ap (λ (e : Device). e.unpaged.protect) done;
      cml = ap (λ (e : Device). e.unpaged.cml) done;
      alert = ap (λ (e : Device). e.unpaged.alert) done;
      pages = ap (λ (e : Device). e.pages) done;
    }
effects d (alert_response n) z =
    let done = done_next d (alert_response n) z in
    record {
      page = ap (λ (e : Device). e.unpaged.page) done;
      protect = ap (λ (e : Device). e.unpaged.protect) done;
      cml = ap (λ (e : Device). e.unpaged.cml) done;
      energy = ap (λ (e : Device). e.unpaged.energy) done;
      pages = ap (λ (e : Device). e.pages) done;
    }
effects d tick z = record {
  unpaged = ticked-unpaged d z;
  number = same_length d tick;
  pages = λ i h. rw (ticked-page_at d z i h) (only-machines (page_of d i));
}
