-- What the rules leave of what a buffer holds fits into it again: the part after an event, the device after a call and after STOP.
-- Assumes nothing.
use Prim.Native.Nat.{ℕ, zero, suc, ◌+◌}
use mathlib.Core.Path.{◌≡◌, refl, ap, ◌∙◌}
use mathlib.Core.Bool.{Bool, true, false}
use mathlib.Core.List.{List, [], ◌∷◌}
use lib.ListN.{length}
use lib.Dec.{ltb, eqb}
use borrow.Author.Tests.{eq-eqb}
use Rattle.laws.specs.Lists.{map_at}
use Rattle.laws.proofs.Branches.{either}
use Rattle.bus.specs.declared.Part.{Part}
use Rattle.bus.specs.Part.{heard, clocking, started}
use Rattle.bus.specs.Automaton.{Event, start, byte, again, clock, stop, byted, restarted, clocked, part_after}
use Rattle.page.specs.declared.Page.{Page}
use Rattle.page.specs.Causes.{settled, ticked}
use Rattle.page.specs.Settings.{set_measurement}
use Rattle.unpaged.specs.Unpaged.{acts_on}
use Rattle.writes.specs.Asked.{asked}
use Rattle.writes.specs.Left.{page_left}
use Rattle.device.specs.declared.Device.{Device}
use Rattle.device.specs.Device.{page_of}
use Rattle.device.specs.Step.{Call, write, read, measure, sample, alert_response, tick, answered, effect, refused_device, step}
use Rattle.device.specs.Touches.{touches, PagesStay}
use Rattle.device.proofs.Touches.{written-pages, measured-pages, ticked-pages, pages_stay}
use Rattle.history.specs.Run.{next}
use Rattle.history.proofs.Outcomes.{done_next, refused-next, by_answer}
use Rattle.history.proofs.Runs.{same_length}
use Rattle.stream.specs.Stream.{byte_taken, part_next, ended}
use Rattle.layout.specs.Form.{get_all}
use Rattle.layout.specs.Layout.{page_form, pages_from}
use Rattle.layout.specs.State.{part_of, device_of}
use Rattle.layout.proofs.Shapes.{Shape, got_shape}
use Rattle.layout.proofs.Kept.{Sized, got_sized, byted-sized}
use Rattle.layout.proofs.Decoded.{part-of, pages_of}
use Rattle.layout.proofs.StoredPart.{idle-sized}
use Rattle.buffer.specs.Buffer.{stores, end_stores}
use Rattle.buffer.proofs.Rules.{settled-shape, measured-shape, ticked-shape, left-shape}
use Rattle.buffer.proofs.Ending.{read_long}
use Rattle.traffic.proofs.StoredDevice.{Shaped, Storable}

-- ---- the part

pub held-sized : (s : List ℕ) → Sized (part_of s)
held-sized s = rw part-of (got_sized s 0)

module _ (p : Part) (h : Sized p) where
  taken-sized : (d : Device) (b : ℕ) → Sized (byte_taken d p b)
  unfolding byte_taken
  taken-sized d b =
      let t = byted-sized p b h in
      either (eqb p.phase 2)
      (λ y. rw y (record { bytes = t.bytes; reply = read_long d (heard (byted p b)) }))
      (λ n. rw n t)

  clocked-sized : Sized (clocked p)
  unfolding clocked clocking
  clocked-sized =
      either (ltb p.clocked 9)
      (λ y. rw y (record { bytes = h.bytes; reply = h.reply }))
      (λ n. rw n (record { bytes = h.bytes; reply = h.reply }))

  pub next-sized : (d : Device) (e : Event) → Sized (part_next d p e)
  unfolding part_next part_after started restarted
  next-sized d start = record { bytes = refl; reply = refl }
  next-sized d (byte b) = taken-sized d b
  next-sized d again = record { bytes = h.bytes; reply = h.reply }
  next-sized d clock = clocked-sized
  next-sized d stop = idle-sized

-- ---- the device

got_shaped : (n : ℕ) (s : List ℕ) (o : ℕ) → Shaped (get_all page_form n s o)
got_shaped zero s o = tt
got_shaped (suc n) s o = (got_shape s o, got_shaped n s (o + page_form.width))

map-shaped : (t : ℕ → Bool) (f : Page → Page) → ((p : Page) → Shape p → Shape (f p)) → (l : List Page) → Shaped l → Shaped (map_at t f l)
map-shaped t f keeps [] h = tt
map-shaped t f keeps (p ∷ l) h =
    (either (t 0) (λ y. rw y (keeps p h.0)) (λ n. rw n h.0), map-shaped (λ i. t (suc i)) f keeps l h.1)

-- eight pages that fit
pub record Fitting (d : Device) : Type 0 where
  pub number : length d.pages ≡ 8
  pub shaped : Shaped d.pages

pub held-fitting : (s : List ℕ) → Fitting (device_of s)
held-fitting s = record { number = rw (pages_of s); shaped = rw (pages_of s) (got_shaped 8 s pages_from) }

module _ (d : Device) (h : Fitting d) where
  effect-shaped : (c : Call) → Shaped (effect d c).pages
  unfolding effect
  effect-shaped (write s) =
      rw (written-pages d (asked s)) (map-shaped (acts_on d.unpaged) (page_left (asked s)) (left-shape (asked s)) d.pages h.shaped)
  effect-shaped (read header n) = h.shaped
  effect-shaped (measure page quantity word) =
      rw (measured-pages d page quantity word)
      (map-shaped (eqb page) (λ p. settled (set_measurement p quantity word)) (λ p g. settled-shape _ (measured-shape p g quantity word)) d.pages h.shaped)
  effect-shaped (sample n) = h.shaped
  effect-shaped (alert_response n) = h.shaped
  effect-shaped tick = rw (ticked-pages d) (map-shaped (λ i. true) ticked ticked-shape d.pages h.shaped)

  call_shaped : (c : Call) → Shaped (next d c).pages
  unfolding refused_device
  call_shaped c = by_answer d c (λ z. rw (done_next d c z) (effect-shaped c)) (λ r. rw (refused-next d c r) h.shaped)

  call_same : (c : Call) (i : ℕ) → stores d c i ≡ false → page_of (next d c) i ≡ page_of d i
  unfolding stores step PagesStay refused_device
  call_same c i f =
      by_answer d c
      (λ z. pages_stay d c i (rw (eq-eqb (answered d c) 0 z) at f))
      (λ r. ap (λ (e : Device). page_of e i) (refused-next d c r))

  pub call_storable : (c : Call) → Storable (stores d c) d (next d c)
  call_storable c = record { number = same_length d c ∙ h.number; shaped = call_shaped c; same = call_same c }

  read_same : (header : List ℕ) (n i : ℕ) → page_of (next d (read header n)) i ≡ page_of d i
  unfolding PagesStay touches
  read_same header n i = pages_stay d (read header n) i refl

  pub ended-storable : (p : Part) → Storable (end_stores d p) d (ended d p).device
  unfolding ended end_stores
  ended-storable p =
      either (eqb p.phase 1)
      (λ y. let k = call_storable (write (heard p)) in
      rw y (record { number = k.number; shaped = k.shaped; same = λ i f. k.same i (rw y at f) }))
      (λ n. rw n (either (eqb p.phase 3)
      (λ y. let k = call_storable (read (heard p) p.clocked) in
      rw y (record { number = k.number; shaped = k.shaped; same = λ i f. read_same (heard p) p.clocked i }))
      (λ m. rw m (record { number = h.number; shaped = h.shaped; same = λ i f. refl }))))
