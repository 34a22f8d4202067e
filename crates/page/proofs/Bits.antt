-- The tests on status registers, as statements on single bits.
-- Assumes nothing.
use Prim.Native.Nat.{ℕ, zero, suc, ◌<◌}
use mathlib.Core.Path.{◌≡◌, refl, sym, ap, ◌∙◌}
use mathlib.Core.Bool.{Bool, true, false, ◌||◌, or-true, false≢true}
use native.Mathlib.Omega.{arith}
use lib.Dec.{eqb}
use lib.Bits.{bit_or, or_self}
use lib.ListN.{get_or}
use borrow.Author.Tests.{eqb-true, eqb-false, eq-eqb, ne_eqb, not-true}
use Rattle.laws.specs.Bits.{bit}
use Rattle.laws.proofs.Bits.{or_bit, NewBit, new_bit, no_new_bit, some_bit, bit-nonzero}
use Rattle.laws.proofs.Branches.{either}
use Rattle.page.specs.declared.Page.{Page}
use Rattle.page.specs.Status.{any, any_status, gains, risen}
use Rattle.page.specs.Latching.{status_bit}

-- one of four tests
which : (g : ℕ → Bool) → (g 0 || g 1 || g 2 || g 3) ≡ true → (j : ℕ) × (j < 4) × (g j ≡ true)
which g h =
    either (g 0) (λ e. (0, omega arith, e))
    (λ a. either (g 1) (λ e. (1, omega arith, e))
    (λ b. either (g 2) (λ e. (2, omega arith, e))
    (λ c. either (g 3) (λ e. (3, omega arith, e)) (λ e. absurd (false≢true (rw (a, b, c, e) at h))))))

that : (g : ℕ → Bool) (j : ℕ) → j < 4 → g j ≡ true → (g 0 || g 1 || g 2 || g 3) ≡ true
that g zero h e = simp (e)
that g (suc zero) h e = simp (e, or-true)
that g (suc (suc zero)) h e = simp (e, or-true)
that g (suc (suc (suc zero))) h e = simp (e, or-true)
that g (suc (suc (suc (suc j)))) h e = absurd (omega arith)

module _ (y x : ℕ) where
  pub gains-found : gains y x ≡ true → NewBit y x
  gains-found h = new_bit x y (eqb-false (bit_or y x) y (not-true (eqb (bit_or y x) y) h))

  pub gains-made : (k : ℕ) → bit y k ≡ false → bit x k ≡ true → gains y x ≡ true
  gains-made k old new =
      either (eqb (bit_or y x) y)
      (λ e. absurd (false≢true (sym old ∙ no_new_bit x y k (eqb-true (bit_or y x) y e) new))) (λ e. rw e)

pub gains-none : (x : ℕ) → gains x x ≡ false
gains-none x = rw (or_self x, eq-eqb x x refl)

module _ (x : ℕ) where
  pub any_found : any x ≡ true → NewBit 0 x
  any_found h = some_bit x (eqb-false x 0 (not-true (eqb x 0) h))

  pub any-made : (k : ℕ) → bit x k ≡ true → any x ≡ true
  any-made k h = rw (ne_eqb x 0 (bit-nonzero x k h))

-- bit k of register j is 0 on p and 1 on q
pub record PageBit (p q : Page) : Type 0 where
  pub register : ℕ
  pub bit-place : ℕ
  pub small : register < 4
  pub old : status_bit p register bit-place ≡ false
  pub new : status_bit q register bit-place ≡ true

module _ (p q : Page) where
  abbrev gains_at : ℕ → Bool
  gains_at j = gains (get_or p.status j 0) (get_or q.status j 0)

  pub risen-found : risen p q ≡ true → PageBit p q
  unfolding risen
  risen-found h =
      let w = which gains_at h in
      let j = w.0 in
      let n = gains-found (get_or p.status j 0) (get_or q.status j 0) w.2 in
      record { register = j; bit-place = n.place; small = w.1; old = n.old; new = n.new }

  pub risen-made : (j k : ℕ) → j < 4 → status_bit p j k ≡ false → status_bit q j k ≡ true → risen p q ≡ true
  unfolding risen
  risen-made j k h old new = that gains_at j h (gains-made (get_or p.status j 0) (get_or q.status j 0) k old new)

pub risen-none : (p : Page) → risen p p ≡ false
unfolding risen
risen-none p =
    rw (gains-none (get_or p.status 0 0), gains-none (get_or p.status 1 0), gains-none (get_or p.status 2 0), gains-none (get_or p.status 3 0))

module _ (p : Page) where
  abbrev all4 : ℕ
  all4 = bit_or (bit_or (bit_or (get_or p.status 0 0) (get_or p.status 1 0)) (get_or p.status 2 0)) (get_or p.status 3 0)

  all4_bit : (k : ℕ) → bit all4 k ≡ (status_bit p 0 k || status_bit p 1 k || status_bit p 2 k || status_bit p 3 k)
  all4_bit k =
      let a = get_or p.status 0 0 in
      let b = get_or p.status 1 0 in
      let c = get_or p.status 2 0 in
      or_bit (bit_or (bit_or a b) c) (get_or p.status 3 0) k
      ∙ ap (λ (x : Bool). x || status_bit p 3 k) (or_bit (bit_or a b) c k ∙ ap (λ (x : Bool). x || status_bit p 2 k) (or_bit a b k))

  pub status_found : any_status p ≡ true → (j : ℕ) × (k : ℕ) × (j < 4) × (status_bit p j k ≡ true)
  unfolding any_status
  status_found h =
      let n = any_found all4 h in
      let w = which (λ j. status_bit p j n.place) (sym (all4_bit n.place) ∙ n.new) in
      (w.0, n.place, w.1, w.2)

  pub status_made : (j k : ℕ) → j < 4 → status_bit p j k ≡ true → any_status p ≡ true
  unfolding any_status
  status_made j k h e = any-made all4 k (all4_bit k ∙ that (λ j. status_bit p j k) j h e)
