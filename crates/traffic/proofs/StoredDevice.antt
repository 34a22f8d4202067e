-- A device stored over the one that a buffer holds, without the pages that are as before: the buffer then holds it.
-- Assumes nothing.
use Prim.Native.Nat.{ℕ, suc, ◌+◌, ◌*◌, ◌<◌, ◌≤◌}
use mathlib.Core.Path.{◌≡◌, refl, sym, ap, ap₂, ◌∙◌}
use mathlib.Core.Bool.{Bool, true, false, cond}
use mathlib.Core.List.{List, [], ◌∷◌}
use native.Mathlib.Omega.{arith}
use lib.ListN.{length, get_or}
use Rattle.page.specs.declared.Page.{Page}
use Rattle.page.specs.Page.{no_page}
use Rattle.device.specs.declared.Device.{Device}
use Rattle.device.specs.Device.{device, page_of}
use Rattle.stream.specs.Stream.{state}
use Rattle.layout.specs.Form.{get_all}
use Rattle.layout.specs.Layout.{part_form, unpaged_form, page_form, pages_in, pages_from, size, unpaged_at}
use Rattle.layout.specs.State.{decode, part_of, device_of}
use Rattle.layout.proofs.Laws.{unpaged-back, unpaged-fits, page-back}
use Rattle.layout.proofs.Places.{Local, all_local, part-local, page-local, read_back, below, above, store_length, get_at}
use Rattle.layout.proofs.Shapes.{Shape, shape_fits}
use Rattle.layout.proofs.EightPages.{wide, unpaged-wide, part-wide}
use Rattle.layout.proofs.Decoded.{part-of, device-is, pages_of}
use Rattle.buffer.specs.Buffer.{store_pages, store_device}

abbrev pub Shaped : List Page → Type 0
Shaped [] = Unit
Shaped (p ∷ l) = Shape p × Shaped l

-- ---- a page that is stored or left

abbrev store_if : Bool → List ℕ → ℕ → Page → List ℕ
store_if b s o p = cond b (page_form.store s o p) s

module _ (s : List ℕ) (o : ℕ) (p : Page) (h : Shape p) (room : o + page_form.width ≤ length s) where
  one_length : (b : Bool) → length (store_if b s o p) ≡ length s
  one_length true = store_length page_form page-back s o p (shape_fits p h) room
  one_length false = refl

  one_below : (b : Bool) (i : ℕ) → i < o → get_or (store_if b s o p) i 0 ≡ get_or s i 0
  one_below true i k = below page_form page-back s o p (shape_fits p h) room i k
  one_below false i k = refl

  one_above : (b : Bool) (i : ℕ) → o + page_form.width ≤ i → get_or (store_if b s o p) i 0 ≡ get_or s i 0
  one_above true i k = above page_form page-back s o p (shape_fits p h) room i k
  one_above false i k = refl

  one_back : (b : Bool) → (b ≡ false → p ≡ page_form.get s o) → page_form.get (store_if b s o p) o ≡ p
  one_back true same = read_back page_form page-back s o p (shape_fits p h) room
  one_back false same = sym (same refl)

-- ---- a list of pages

first_room : (o w n m : ℕ) → o + suc n * w ≤ m → o + w ≤ m
first_room o w n m h = omega arith

rest_room : (o w n m : ℕ) → o + suc n * w ≤ m → o + w + n * w ≤ m
rest_room o w n m h = omega arith

abbrev Room : List ℕ → ℕ → List Page → Type 0
Room s o l = o + length l * page_form.width ≤ length s

module _ (t : ℕ → Bool) (s : List ℕ) (o : ℕ) (p : Page) (l : List Page) (h : Shape p) (room : Room s o (p ∷ l)) where
  first : o + page_form.width ≤ length s
  first = first_room o page_form.width (length l) (length s) room

  rest : Room (store_if (t 0) s o p) (o + page_form.width) l
  rest = rw (one_length s o p h first (t 0)) (rest_room o page_form.width (length l) (length s) room)

pages_length : (t : ℕ → Bool) (s : List ℕ) (o : ℕ) (l : List Page) → Shaped l → Room s o l → length (store_pages t s o l) ≡ length s
pages_length t s o [] h room = refl
pages_length t s o (p ∷ l) h room =
    pages_length (λ i. t (suc i)) (store_if (t 0) s o p) (o + page_form.width) l h.1 (rest t s o p l h.0 room)
    ∙ one_length s o p h.0 (first t s o p l h.0 room) (t 0)

pages_below : (t : ℕ → Bool) (s : List ℕ) (o : ℕ) (l : List Page) → Shaped l → Room s o l
    → (i : ℕ) → i < o → get_or (store_pages t s o l) i 0 ≡ get_or s i 0
pages_below t s o [] h room i k = refl
pages_below t s o (p ∷ l) h room i k =
    pages_below (λ i. t (suc i)) (store_if (t 0) s o p) (o + page_form.width) l h.1 (rest t s o p l h.0 room) i (omega arith)
    ∙ one_below s o p h.0 (first t s o p l h.0 room) (t 0) i k

pages_back : (t : ℕ → Bool) (s : List ℕ) (o : ℕ) (l : List Page) → Shaped l → Room s o l
    → ((i : ℕ) → i < length l → t i ≡ false → get_or l i no_page ≡ page_form.get s (o + i * page_form.width))
    → get_all page_form (length l) (store_pages t s o l) o ≡ l
unfolding Local
pages_back t s o [] h room same = refl
pages_back t s o (p ∷ l) h room same =
    let m = store_if (t 0) s o p in
    let w = page_form.width in
    let one = first t s o p l h.0 room in
    let more = rest t s o p l h.0 room in
    let u : ℕ → Bool = λ i. t (suc i) in
    let here : o + 0 * w ≡ o = omega arith in
    let next : (i : ℕ) → o + suc i * w ≡ o + w + i * w = λ i. omega arith in
    ap₂ (λ (x : Page) (r : List Page). x ∷ r)
    (page-local (store_pages u m (o + w) l) m o (λ i lo hi. pages_below u m (o + w) l h.1 more i hi)
    ∙ one_back s o p h.0 one (t 0) (λ n. same 0 (omega arith) n ∙ ap (page_form.get s) here))
    (pages_back u m (o + w) l h.1 more (λ i k n.
    same (suc i) (omega arith) n ∙ ap (page_form.get s) (next i)
    ∙ sym (page-local m s (o + w + i * w) (λ j lo hi. one_above s o p h.0 one (t 0) j (omega arith)))))

-- ---- a device

-- a device of eight pages that fit, those that fail the test as before
pub record Storable (t : ℕ → Bool) (before d : Device) : Type 0 where
  pub number : length d.pages ≡ 8
  pub shaped : Shaped d.pages
  pub same : (i : ℕ) → t i ≡ false → page_of d i ≡ page_of before i

module _ (t : ℕ → Bool) (s : List ℕ) (long : length s ≡ size) (d : Device) (h : Storable t (device_of s) d) where
  paged : List ℕ
  paged = store_pages t s pages_from d.pages

  whole : List ℕ
  whole = store_device t s d

  pages_room : Room s pages_from d.pages
  pages_room = rw (h.number, wide) (omega arith)

  pages_long : length paged ≡ size
  unfolding paged
  pages_long = pages_length t s pages_from d.pages h.shaped pages_room ∙ long

  unpaged-room : 22 + unpaged_form.width ≤ length paged
  unpaged-room = rw (unpaged-wide, pages_long) (omega arith)

  pub device-length : length (store_device t s d) ≡ size
  unfolding paged store_device
  device-length = store_length unpaged_form unpaged-back paged 22 d.unpaged (unpaged-fits d.unpaged) unpaged-room ∙ pages_long

  pages_read : pages_in paged ≡ d.pages
  unfolding paged
  pages_read =
      ap (λ (k : ℕ). get_all page_form k paged pages_from) (sym h.number)
      ∙ pages_back t s pages_from d.pages h.shaped pages_room (λ i small f.
      h.same i f ∙ ap (λ (l : List Page). get_or l i no_page) (pages_of s)
      ∙ get_at page_form page-back page-local 8 i s pages_from no_page (rw h.number at small))

  pages_kept : pages_in whole ≡ pages_in paged
  unfolding paged whole store_device Local
  pages_kept =
      all_local page_form page-local 8 whole paged pages_from
      (λ i lo hi. above unpaged_form unpaged-back paged 22 d.unpaged (unpaged-fits d.unpaged) unpaged-room i (rw unpaged-wide lo))

  unpaged-read : unpaged_form.get whole unpaged_at ≡ d.unpaged
  unfolding paged whole store_device
  unpaged-read = read_back unpaged_form unpaged-back paged 22 d.unpaged (unpaged-fits d.unpaged) unpaged-room

  part-kept : part_form.get whole 0 ≡ part_form.get s 0
  unfolding paged whole store_device Local
  part-kept =
      part-local whole s 0 (λ i lo hi.
      let small : i < 22 = rw part-wide at hi in
      below unpaged_form unpaged-back paged 22 d.unpaged (unpaged-fits d.unpaged) unpaged-room i small
      ∙ pages_below t s pages_from d.pages h.shaped pages_room i (omega arith))

  pub device-decodes : decode (store_device t s d) ≡ state (part_of s) d
  unfolding whole
  device-decodes =
      ap₂ state (part-of whole ∙ part-kept ∙ sym (part-of s))
      (device-is whole ∙ ap₂ device unpaged-read (pages_kept ∙ pages_read))
