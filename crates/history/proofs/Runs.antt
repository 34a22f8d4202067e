-- What every state of a run from power-on has: its pages, each up to date with its present causes.
-- Assumes nothing.
use Prim.Native.Nat.{ℕ, ◌<◌}
use mathlib.Core.Path.{◌≡◌, sym, ap, ◌∙◌, subst}
use mathlib.Core.Bool.{Bool, true}
use mathlib.Core.List.{List, [], ◌∷◌}
use lib.Dec.{eqb}
use lib.ListN.{length}
use Rattle.laws.proofs.Places.{length-map_at}
use Rattle.page.specs.declared.Page.{Page}
use Rattle.page.specs.Causes.{settled, ticked}
use Rattle.page.specs.Settings.{set_measurement}
use Rattle.page.proofs.Settled.{UpToDate, current-ready, settled-current, ticked-current}
use Rattle.unpaged.specs.Unpaged.{acts_on}
use Rattle.writes.specs.Asked.{asked}
use Rattle.writes.specs.Left.{page_left}
use Rattle.device.specs.declared.Device.{Device}
use Rattle.device.specs.Device.{Choice, number_of, power_on, page_of}
use Rattle.device.specs.Step.{Call, write, read, measure, sample, alert_response, tick, effect, refused_device}
use Rattle.device.proofs.PowerOn.{powered, powered-current}
use Rattle.device.proofs.Touches.{written-pages, measured-pages, ticked-pages}
use Rattle.history.specs.Run.{next, answer, run, reached, Whole}
use Rattle.history.specs.Valid.{ReachedWhole}
use Rattle.history.specs.Clearing.{clears}
use Rattle.history.specs.Tripping.{untrips}
use Rattle.history.specs.Retry.{rests}
use Rattle.history.proofs.PageLeft.{PageLeft, kept, touched, timed}
use Rattle.history.proofs.Outcomes.{done_next, refused-next, by_answer, write_next}
use Rattle.history.proofs.PageAfter.{time_of, page-after}

-- what each call preserves holds after every list of calls
pub kept-in_runs : (P : Device → Type 0) → ((d : Device) (c : Call) → P d → P (next d c)) → (d : Device) (cs : List Call) → P d → P (run d cs)
unfolding run
kept-in_runs P keeps d [] h = h
kept-in_runs P keeps d (c ∷ cs) h = kept-in_runs P keeps (next d c) cs (keeps d c h)

-- no call changes the number of pages
module _ (d : Device) where
  answered-length : (c : Call) → answer d c ≡ 0 → length (next d c).pages ≡ length d.pages
  unfolding effect
  answered-length (write s) z =
      ap (λ (e : Device). length e.pages) (write_next d s z)
      ∙ rw (written-pages d (asked s)) (length-map_at (acts_on d.unpaged) (page_left (asked s)) d.pages)
  answered-length (read header n) z = ap (λ (e : Device). length e.pages) (done_next d (read header n) z)
  answered-length (measure page quantity word) z =
      ap (λ (e : Device). length e.pages) (done_next d (measure page quantity word) z)
      ∙ rw (measured-pages d page quantity word) (length-map_at (eqb page) (λ p. settled (set_measurement p quantity word)) d.pages)
  answered-length (sample n) z = ap (λ (e : Device). length e.pages) (done_next d (sample n) z)
  answered-length (alert_response n) z = ap (λ (e : Device). length e.pages) (done_next d (alert_response n) z)
  answered-length tick z =
      ap (λ (e : Device). length e.pages) (done_next d tick z) ∙ rw (ticked-pages d) (length-map_at (λ i. true) ticked d.pages)

  pub same_length : (c : Call) → length (next d c).pages ≡ length d.pages
  unfolding refused_device
  same_length c = by_answer d c (answered-length c) (λ r. ap (λ (x : Device). length x.pages) (refused-next d c r))

pub record Current (n : ℕ) (d : Device) : Type 0 where
  pub whole : Whole n d
  pub page : (i : ℕ) → i < n → UpToDate (page_of d i)

left-current : (p r : Page) (clear : ℕ → ℕ → Bool) (off : Bool) (rest : ℕ → Bool) (time : Bool) → PageLeft p r clear off rest time → UpToDate p → UpToDate r
left-current p r clear off rest time (kept e h t) g = subst UpToDate (sym e) g
left-current p r clear off rest time (touched q e h t) g = subst UpToDate (sym e) (settled-current q (h.ready (current-ready p g)))
left-current p r clear off rest time (timed e h t) g = subst UpToDate (sym e) (ticked-current p g)

pub current-after : (n : ℕ) (d : Device) (c : Call) → Current n d → Current n (next d c)
current-after n d c g = record {
  whole = same_length d c ∙ g.whole;
  page = λ i h. left-current (page_of d i) (page_of (next d c) i) (clears d c i) (untrips d c i) (rests d c i) (time_of d c)
      (page-after d i (rw g.whole h) c) (g.page i h);
}

pub current : (x : Choice) (cs : List Call) → Current (number_of x) (reached x cs)
current x cs =
    kept-in_runs (Current (number_of x)) (current-after (number_of x)) (power_on x) cs
    (record { whole = (powered x).whole; page = powered-current x })

pub reached-whole : ReachedWhole
unfolding ReachedWhole
reached-whole x cs = (current x cs).whole
