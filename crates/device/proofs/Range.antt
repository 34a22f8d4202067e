-- A loop over the neighbours from a on that changes each element by f and gathers whether a pair of old and new passes a test; and the neighbours
-- that a write acts on.
-- Assumes nothing.
use Prim.Native.Nat.{ℕ, zero, suc, ◌+◌, ◌%◌, ◌<◌, ◌≤◌}
use mathlib.Core.Path.{◌≡◌, refl, sym, ap, ◌∙◌}
use mathlib.Core.Bool.{Bool, true, false, cond, ◌&&◌, ◌||◌, or-false, or-true, or_comm, or_assoc, and-false}
use mathlib.Core.List.{List, [], ◌∷◌, map}
use native.Mathlib.Nat.{not-suc-le-zero, le_of_suc-le-suc}
use native.Mathlib.Omega.{arith}
use lib.Dec.{eqb, leb, ltb}
use lib.ListN.{length, get_or, set, length-set}
use lib.Seq.{get_or-set_same, get_or-set_other, ext_get_or}
use borrow.Author.Tests.{eqb-true, eqb-false, ltb-true, ltb-false, lt-ltb, le-ltb, le-leb, lt-leb}
use Rattle.laws.specs.Lists.{map_at, any_pair}
use Rattle.laws.proofs.Branches.{either}
use Rattle.laws.proofs.Places.{length-map_at, get_or-map_at, map-kept}
use Rattle.laws.proofs.Sweeps.{map-every}
use Rattle.device.specs.Private.{first_of, end_of}
use Rattle.unpaged.specs.declared.Unpaged.{Unpaged}
use Rattle.unpaged.specs.Unpaged.{valid_page, acts_on}

-- the places from a to before k
unfoldable pub within : ℕ → ℕ → ℕ → Bool
within a k i = leb a i && ltb i k

within_none : (a i : ℕ) → within a a i ≡ false
unfolding within
within_none a i =
    either (ltb i a) (λ y. let l = ltb-true i a y in rw (lt-leb a i l)) (λ n. rw n (and-false (leb a i)))

within-here : (a k : ℕ) → a ≤ k → within a (k + 1) k ≡ true
unfolding within
within-here a k h = rw (le-leb a k h) (lt-ltb k (k + 1) (omega arith))

within-past : (a k : ℕ) → within a k k ≡ false
unfolding within
within-past a k = rw (le-ltb k k (omega arith)) (and-false (leb a k))

within-other : (a k i : ℕ) → (i ≡ k → ⊥) → within a (k + 1) i ≡ within a k i
unfolding within
within-other a k i other =
    either (ltb i k) (λ y. let l = ltb-true i k y in rw (y, lt-ltb i (k + 1) (omega arith)))
    (λ n. let l = ltb-false i k n in rw (n, le-ltb i (k + 1) (omega (arith, other))))

module _ {A : Type 0} (d : A) (f : A → A) where
  -- two tests that agree at every place of the list
  pub map-agree : (t s : ℕ → Bool) (l : List A) → ((i : ℕ) → i < length l → t i ≡ s i) → map_at t f l ≡ map_at s f l
  map-agree t s [] h = refl
  map-agree t s (x ∷ l) h =
      rw (h 0 (omega arith)) (ap (λ (m : List A). cond (s 0) (f x) x ∷ m) (map-agree (λ i. t (suc i)) (λ i. s (suc i)) l (λ i lt. h (suc i) (omega arith))))

  pub map-none : (l : List A) (a : ℕ) → l ≡ map_at (within a a) f l
  map-none l a = go (within a a) l (within_none a)
    where
      go : (t : ℕ → Bool) (l : List A) → ((i : ℕ) → t i ≡ false) → l ≡ map_at t f l
      go t [] h = refl
      go t (x ∷ l) h = rw (h 0) (ap (λ (m : List A). x ∷ m) (go (λ i. t (suc i)) l (λ i. h (suc i))))

  pub map_whole : (l : List A) (n : ℕ) → length l ≡ n → map_at (within 0 n) f l ≡ map f l
  unfolding within
  map_whole l n e =
      map-agree (within 0 n) (λ i. true) l (λ i h. rw (le-leb 0 i (omega arith)) (lt-ltb i n (omega arith)))
      ∙ map-every (λ i. true) f l (λ i. refl)

  module _ (l m : List A) (a k : ℕ) (is : m ≡ map_at (within a k) f l) where
    pub same_length : length m ≡ length l
    same_length = ap length is ∙ length-map_at (within a k) f l

    pub same_here : get_or m k d ≡ get_or l k d
    same_here = rw is (map-kept d (within a k) f l k (within-past a k))

    pub map_more : (y : A) → a ≤ k → k < length l → y ≡ f (get_or m k d) → set m k y ≡ map_at (within a (k + 1)) f l
    map_more y le h e =
        ext_get_or d (set m k y) (map_at (within a (k + 1)) f l) (length-set m k y ∙ same_length ∙ sym (length-map_at (within a (k + 1)) f l))
        (λ i lt. let long = length-set m k y ∙ same_length in
        either (eqb i k)
        (λ e'. let here = eqb-true i k e' in
        rw here
        (get_or-set_same m k y d (omega (arith, same_length)) ∙ e ∙ ap f same_here ∙ sym (get_or-map_at d (within a (k + 1)) f l k h ∙ ap (λ (b : Bool). cond b (f (get_or l k d)) (get_or l k d)) (within-here a k le))))
        (λ n. let other = eqb-false i k n in
        get_or-set_other m k i y d other
        ∙ ap (λ (t : List A). get_or t i d) is ∙ get_or-map_at d (within a k) f l i (omega (arith, long))
        ∙ sym (get_or-map_at d (within a (k + 1)) f l i (omega (arith, long)) ∙ ap (λ (b : Bool). cond b (f (get_or l i d)) (get_or l i d)) (within-other a k i other))))

  -- an element that was as before and is set: a pair that passes is found there, or was found
  pub pair_more : (p : A → A → Bool) → ((x : A) → p x x ≡ false) → (l m : List A) (k : ℕ) (y : A) → k < length l → length m ≡ length l → get_or m k d ≡ get_or l k d
      → any_pair p l (set m k y) ≡ (any_pair p l m || p (get_or l k d) y)
  pair_more p irr [] m k y h e s = absurd (not-suc-le-zero h)
  pair_more p irr (x ∷ l) [] k y h e s = absurd (omega arith)
  pair_more p irr (x ∷ l) (z ∷ m) zero y h e s = rw (s, irr x) (or_comm (p x y) (any_pair p l m))
  pair_more p irr (x ∷ l) (z ∷ m) (suc k) y h e s =
      rw (pair_more p irr l m k y (le_of_suc-le-suc h) (omega arith) s) (sym (or_assoc (p x z) (any_pair p l m) (p (get_or l k d) y)))

pub in_order : (x : ℕ) → (first_of x ≤ end_of x) × (end_of x ≤ 8)
in_order x = either (eqb x 0xFF) (λ e. rw e (omega arith, omega arith)) (λ e. rw e (omega arith, omega arith))

pub acts_within : (u : Unpaged) (i : ℕ) → valid_page 8 u.page ≡ true → i < 8 → within (first_of u.page) (end_of u.page) i ≡ acts_on u i
unfolding within acts_on valid_page
acts_within u i v h =
    either (eqb u.page 0xFF)
    (λ e. rw (e, or-true (eqb i u.page), le-leb 0 i (omega arith)) (lt-ltb i 8 h))
    (λ e. let small = ltb-true u.page 8 (sym (or-false (ltb u.page 8)) ∙ (rw e at v)) in
    let same : u.page % 8 ≡ u.page = omega arith in
    rw (e, same, or-false (eqb i u.page))
    (either (eqb i u.page)
    (λ y. let here = eqb-true i u.page y in rw (y, le-leb u.page i (omega arith)) (lt-ltb i (u.page + 1) (omega arith)))
    (λ n. let other = eqb-false i u.page n in
    rw n
    (either (ltb i u.page) (λ y. let l = ltb-true i u.page y in rw (lt-leb u.page i l))
    (λ m. let l = ltb-false i u.page m in rw (le-ltb i (u.page + 1) (omega (arith, other))) (and-false (leb u.page i)))))))
