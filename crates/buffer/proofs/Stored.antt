-- A device stored over the one that a buffer holds: no page of it, one, or every one.
-- Assumes nothing.
use Prim.Native.Nat.{ℕ, zero, suc, ◌+◌, ◌*◌, ◌<◌}
use mathlib.Core.Path.{◌≡◌, refl, sym, ap, ◌∙◌}
use mathlib.Core.Bool.{Bool, true, false, and-false}
use mathlib.Core.List.{List, [], ◌∷◌}
use native.Mathlib.Omega.{arith}
use native.Mathlib.Nat.{not-suc-le-zero, le_of_suc-le-suc}
use lib.ListN.{length, get_or}
use borrow.Author.Tests.{ne_eqb}
use Rattle.page.specs.declared.Page.{Page}
use Rattle.page.specs.Page.{no_page}
use Rattle.device.specs.declared.Device.{Device}
use Rattle.device.specs.Step.{Call, answered}
use Rattle.device.specs.Touches.{touches}
use Rattle.layout.specs.Form.{store_all}
use Rattle.layout.specs.Layout.{unpaged_form, page_form, page_wide, pages_from, unpaged_at}
use Rattle.layout.proofs.EightPages.{wide}
use Rattle.buffer.specs.Buffer.{store_pages, store_device, stores}
use Rattle.buffer.specs.Private.{store_unpaged}

pub none-stored : (t : ℕ → Bool) (s : List ℕ) (o : ℕ) (l : List Page) → ((i : ℕ) → t i ≡ false) → store_pages t s o l ≡ s
none-stored t s o [] h = refl
none-stored t s o (p ∷ l) h = rw (h 0) (none-stored (λ i. t (suc i)) s (o + page_form.width) l (λ i. h (suc i)))

pub every_stored_lem : (t : ℕ → Bool) (s : List ℕ) (o : ℕ) (l : List Page) → ((i : ℕ) → t i ≡ true) → store_pages t s o l ≡ store_all page_form s o l
every_stored_lem t s o [] h = refl
every_stored_lem t s o (p ∷ l) h = rw (h 0) (every_stored_lem (λ i. t (suc i)) (page_form.store s o p) (o + page_form.width) l (λ i. h (suc i)))

pub one_stored : (t : ℕ → Bool) (s : List ℕ) (o : ℕ) (l : List Page) (k : ℕ) → k < length l → t k ≡ true → ((i : ℕ) → (i ≡ k → ⊥) → t i ≡ false)
    → store_pages t s o l ≡ page_form.store s (o + k * page_form.width) (get_or l k no_page)
one_stored t s o [] k h y n = absurd (not-suc-le-zero h)
one_stored t s o (p ∷ l) zero h y n =
    let e : o + 0 * page_form.width ≡ o = omega arith in
    rw (y, e) (none-stored (λ i. t (suc i)) (page_form.store s o p) (o + page_form.width) l (λ i. n (suc i) (λ e. omega arith)))
one_stored t s o (p ∷ l) (suc k) h y n =
    let e : o + page_form.width + k * page_form.width ≡ o + suc k * page_form.width = omega arith in
    rw (n 0 (λ e. omega arith))
    (one_stored (λ i. t (suc i)) s (o + page_form.width) l k (le_of_suc-le-suc h) y (λ i m. n (suc i) (λ e. m (omega arith)))
    ∙ ap (λ (j : ℕ). page_form.store s j (get_or l k no_page)) e)

pub one_at : (t : ℕ → Bool) (s : List ℕ) (l : List Page) (k : ℕ) → k < length l → t k ≡ true → ((i : ℕ) → (i ≡ k → ⊥) → t i ≡ false)
    → store_pages t s pages_from l ≡ page_form.store s (pages_from + page_wide * k) (get_or l k no_page)
one_at t s l k h y n =
    one_stored t s pages_from l k h y n ∙ ap (λ (j : ℕ). page_form.store s j (get_or l k no_page)) (ap (λ (w : ℕ). pages_from + k * w) wide ∙ turned k)
  where
    turned : (k : ℕ) → pages_from + k * page_wide ≡ pages_from + page_wide * k
    turned k = omega arith

-- where no page is stored the unpaged part is alone
pub unpaged-alone : (t : ℕ → Bool) (s : List ℕ) (d : Device) → ((i : ℕ) → t i ≡ false) → store_unpaged s d ≡ store_device t s d
unfolding store_device
unpaged-alone t s d h = ap (λ (m : List ℕ). unpaged_form.store m unpaged_at d.unpaged) (sym (none-stored t s pages_from d.pages h))

-- a call that touches no page, or is refused, stores none
pub untouched : (d : Device) (c : Call) → ((i : ℕ) → touches d c i ≡ false) → (i : ℕ) → stores d c i ≡ false
unfolding stores
untouched d c h i = rw (h i, and-false _)

pub refused_none : (d : Device) (c : Call) → (answered d c ≡ 0 → ⊥) → (i : ℕ) → stores d c i ≡ false
unfolding stores
refused_none d c h i = rw (ne_eqb (answered d c) 0 h)
