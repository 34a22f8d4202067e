-- Two values with the same coefficients stand to each other as their words do.
-- Assumes nothing.
use mathlib.Core.Path.{◌≡◌, refl, sym, ap, ap₂, ◌∙◌}
use mathlib.Core.Bool.{true, false, cond, true≢false, false≢true}
use Prim.Native.Nat.{ℕ, zero, suc, ◌+◌, ◌-◌, ◌*◌, ◌%◌, ◌^◌, ◌<◌}
use native.Mathlib.Nat.{mul-pos}
use native.Mathlib.Omega.{arith}
use lib.Dec.{eqb, ltb}
use lib.IntN.{ℤ, pos, negsuc, neg_ℤ, nat_abs, suc_ℤ, pred_ℤ, ◌+ℤ◌, ◌*ℤ◌, suc-pred, +ℤ_idr, +ℤ-suc_ℤ, +ℤ-pred_ℤ, *ℤ-zero}
use lib.Signed.{lt_z}
use native.Mathlib.Numerals.{unary_clauses}
use borrow.Author.Tests.{lt-ltb, le-ltb, ltb-true, ltb-false, eqb-true, eqb-false, ne_eqb}
use Rattle.laws.proofs.Branches.{either}
use Rattle.linear11.specs.Linear11.{signed_of, order_of, word_order, linear_order}
use Rattle.std.specs.declared.cmp.Ordering.TheVariants.{Equal}
use Rattle.linear11.proofs.Range.{below-zero}
use Rattle.value.specs.declared.format.Format.{Format}
use Rattle.value.specs.Value.{ratio_order, above, under, signed_by, direct_top, direct_num, direct_den}
use Rattle.value.specs.Format.{signed_word, signed_byte, value_of, value_order, format_order, raised, direct_order}
use Rattle.value.proofs.Laws.{scale, linear_agrees}

-- ---- an order stays where both numbers move by the same

step : (a b : ℕ) → ltb (suc a) (suc b) ≡ ltb a b
step a b =
    either (ltb a b) (λ e. lt-ltb (suc a) (suc b) (omega (arith, ltb-true a b e)) ∙ sym e)
    (λ e. le-ltb (suc a) (suc b) (omega (arith, ltb-false a b e)) ∙ sym e)

up : (x y : ℤ) → lt_z (suc_ℤ x) (suc_ℤ y) ≡ lt_z x y
up (pos a) (pos b) = step a b
up (pos a) (negsuc zero) = le-ltb (suc a) 0 (omega arith)
up (pos a) (negsuc (suc b)) = refl
up (negsuc zero) (pos b) = lt-ltb 0 (suc b) (omega arith)
up (negsuc zero) (negsuc zero) = refl
up (negsuc zero) (negsuc (suc b)) = sym (le-ltb (suc b) 0 (omega arith))
up (negsuc (suc a)) (pos b) = refl
up (negsuc (suc a)) (negsuc zero) = sym (lt-ltb 0 (suc a) (omega arith))
up (negsuc (suc a)) (negsuc (suc b)) = sym (step b a)

down : (x y : ℤ) → lt_z (pred_ℤ x) (pred_ℤ y) ≡ lt_z x y
down x y = sym (up (pred_ℤ x) (pred_ℤ y)) ∙ ap₂ lt_z (suc-pred x) (suc-pred y)

moved : (x y c : ℤ) → lt_z (x +ℤ c) (y +ℤ c) ≡ lt_z x y
moved x y (pos zero) = ap₂ lt_z (+ℤ_idr x) (+ℤ_idr y)
moved x y (pos (suc n)) = ap₂ lt_z (+ℤ-suc_ℤ x (pos n)) (+ℤ-suc_ℤ y (pos n)) ∙ up (x +ℤ pos n) (y +ℤ pos n) ∙ moved x y (pos n)
moved x y (negsuc zero) = ap₂ lt_z (+ℤ-pred_ℤ x (pos zero) ∙ ap pred_ℤ (+ℤ_idr x)) (+ℤ-pred_ℤ y (pos zero) ∙ ap pred_ℤ (+ℤ_idr y)) ∙ down x y
moved x y (negsuc (suc n)) = ap₂ lt_z (+ℤ-pred_ℤ x (negsuc n)) (+ℤ-pred_ℤ y (negsuc n)) ∙ down (x +ℤ negsuc n) (y +ℤ negsuc n) ∙ moved x y (negsuc n)

same_order : (x y c : ℤ) → order_of (x +ℤ c) (y +ℤ c) ≡ order_of x y
unfolding order_of
same_order x y c = rw (moved x y c, moved y x c)

-- and turns round where both change sign
turn : (x y : ℤ) → lt_z (neg_ℤ x) (neg_ℤ y) ≡ lt_z y x
turn (pos zero) (pos zero) = refl
turn (pos zero) (pos (suc b)) = sym (le-ltb (suc b) 0 (omega arith))
turn (pos (suc a)) (pos zero) = sym (lt-ltb 0 (suc a) (omega arith))
turn (pos (suc a)) (pos (suc b)) = sym (step b a)
turn (pos zero) (negsuc b) = lt-ltb 0 (suc b) (omega arith)
turn (pos (suc a)) (negsuc b) = refl
turn (negsuc a) (pos zero) = le-ltb (suc a) 0 (omega arith)
turn (negsuc a) (pos (suc b)) = refl
turn (negsuc a) (negsuc b) = step a b

turned-order : (x y : ℤ) → order_of (neg_ℤ x) (neg_ℤ y) ≡ order_of y x
unfolding order_of
turned-order x y = rw (turn x y, turn y x)

-- ---- the same coefficients

pub ten_pos : (k : ℕ) → 0 < 10 ^ k
ten_pos zero = omega arith
ten_pos (suc k) = let p = ten_pos k in let e : 10 ^ suc k ≡ 10 ^ k * 10 = simp unary_clauses refl in omega arith

top_order : (y z b r : ℤ) → order_of (direct_top y b r) (direct_top z b r) ≡ order_of y z
unfolding direct_top
top_order y z b r =
    same_order (y *ℤ pos (10 ^ under r)) (z *ℤ pos (10 ^ under r)) (neg_ℤ (b *ℤ pos (10 ^ above r)))
    ∙ scale y z (10 ^ under r) (ten_pos (under r))

module _ (y z m b r : ℤ) where
  pub shared : 0 < nat_abs m
      → order_of (direct_num y m b r *ℤ pos (direct_den m r)) (direct_num z m b r *ℤ pos (direct_den m r))
      ≡ cond (lt_z m (pos 0)) (order_of z y) (order_of y z)
  unfolding direct_num signed_by direct_den
  shared h =
      scale (signed_by m (direct_top y b r)) (signed_by m (direct_top z b r)) (nat_abs m * 10 ^ above r)
      (mul-pos {m = nat_abs m} {n = 10 ^ above r} h (ten_pos (above r)))
      ∙ either (lt_z m (pos 0))
      (λ e. rw e (turned-order (direct_top y b r) (direct_top z b r) ∙ top_order z y b r))
      (λ e. rw e (top_order y z b r))

  pub none : nat_abs m ≡ 0
      → order_of (direct_num y m b r *ℤ pos (direct_den m r)) (direct_num z m b r *ℤ pos (direct_den m r)) ≡ Equal
  unfolding direct_den order_of
  none h = let e : nat_abs m * 10 ^ above r ≡ 0 = rw h (omega arith) in rw (e, *ℤ-zero (direct_num y m b r), *ℤ-zero (direct_num z m b r))

-- ---- words

signed_raised : (a : ℕ) → a < 65536 → signed_word a +ℤ pos 32768 ≡ pos (raised a)
unfolding signed_of raised
signed_raised a h =
    either (ltb a 32768)
    (λ e. let l = ltb-true a 32768 e in rw e (ap pos (let s : a + 32768 ≡ (a + 32768) % 65536 = omega arith in s)))
    (λ e. let l = ltb-false a 32768 e in
    rw (e, below-zero a 65536 h)
    (rw (le-ltb 32768 (suc (65536 - suc a)) (omega arith)) (ap pos (let s : 32768 - suc (65536 - suc a) ≡ (a + 32768) % 65536 = omega arith in s))))

plain : (p q : ℕ) → order_of (pos p) (pos q) ≡ word_order p q
unfolding order_of word_order
plain p q = refl

word-order : (a b : ℕ) → a < 65536 → b < 65536 → order_of (signed_word a) (signed_word b) ≡ word_order (raised a) (raised b)
word-order a b h k =
    sym (same_order (signed_word a) (signed_word b) (pos 32768)) ∙ ap₂ order_of (signed_raised a h) (signed_raised b k) ∙ plain (raised a) (raised b)

-- the sign of m, and whether it is 0
sign_of : (m : ℕ) → m < 65536 → lt_z (signed_word m) (pos 0) ≡ cond (ltb m 32768) false true
unfolding signed_of
sign_of m h =
    either (ltb m 32768) (λ e. rw e (le-ltb m 0 (omega arith))) (λ e. rw (e, below-zero m 65536 h))

not_high : (m : ℕ) → m < 65536 → lt_z (signed_word m) (pos 0) ≡ false → ltb m 32768 ≡ true
not_high m h e = either (ltb m 32768) (λ y. y) (λ n. absurd (true≢false (sym (rw n at (sign_of m h)) ∙ e)))

high : (m : ℕ) → m < 65536 → lt_z (signed_word m) (pos 0) ≡ true → ltb m 32768 ≡ false
high m h e = either (ltb m 32768) (λ y. absurd (false≢true (sym (rw y at (sign_of m h)) ∙ e))) (λ n. n)

pub some_size : (m : ℕ) → m < 65536 → (m ≡ 0 → ⊥) → 0 < nat_abs (signed_word m)
unfolding signed_of
some_size m h n =
    either (ltb m 32768) (λ e. rw e (positive m n)) (λ e. rw (e, below-zero m 65536 h) (omega arith))
  where
    positive : (k : ℕ) → (k ≡ 0 → ⊥) → 0 < k
    positive zero g = absurd (g refl)
    positive (suc k) g = omega arith

zero_size : (k : ℕ) → k ≡ 0 → nat_abs (signed_word k) ≡ 0
unfolding signed_of
zero_size k z = rw z

-- DIRECT words by the sign of m
module _ (m a b : ℕ) (hm : m < 65536) (ha : a < 65536) (hb : b < 65536) (some : m ≡ 0 → ⊥) where
  pub direct-rising : lt_z (signed_word m) (pos 0) ≡ false → order_of (signed_word a) (signed_word b) ≡ direct_order m a b
  unfolding direct_order
  direct-rising e = rw (ne_eqb m 0 some, not_high m hm e) (word-order a b ha hb)

  pub direct-falling : lt_z (signed_word m) (pos 0) ≡ true → order_of (signed_word b) (signed_word a) ≡ direct_order m a b
  unfolding direct_order
  direct-falling e = rw (ne_eqb m 0 some, high m hm e) (word-order b a hb ha)

module _ (f : Format) (a b : ℕ) (ha : a < 65536) (hb : b < 65536) where
  pub by_linear : f.direct ≡ false → format_order f a b ≡ linear_order a b
  unfolding value_order value_of ratio_order
  by_linear e = rw e (linear_agrees a b ha hb)

  pub by_direct : f.direct ≡ true → f.m < 65536 → format_order f a b ≡ direct_order f.m a b
  unfolding value_order value_of ratio_order direct_order
  by_direct e hm =
      rw e
      (either (eqb f.m 0)
      (λ y. rw y (none (signed_word a) (signed_word b) (signed_word f.m) (signed_word f.b) (signed_byte f.r) (zero_size f.m (eqb-true f.m 0 y))))
      (λ n. rw n
      (shared (signed_word a) (signed_word b) (signed_word f.m) (signed_word f.b) (signed_byte f.r) (some_size f.m hm (eqb-false f.m 0 n))
      ∙ either (ltb f.m 32768)
      (λ y. rw (sign_of f.m hm, y) (word-order a b ha hb))
      (λ y. rw (sign_of f.m hm, y) (word-order b a hb ha)))))
