-- Lists of which some places are changed, and two lists compared place by place.
-- Assumes nothing.
use Prim.Native.Nat.{ℕ, zero, suc, ◌<◌, ◌≤◌}
use mathlib.Core.Path.{◌≡◌, refl, sym, ap, ◌∙◌}
use mathlib.Core.Bool.{Bool, true, false, cond, or-false, or-true, and-eq-true_iff, false≢true}
use mathlib.Core.List.{List, [], ◌∷◌}
use native.Mathlib.Nat.{not-suc-le-zero, le_of_suc-le-suc}
use native.Mathlib.Omega.{arith}
use lib.Dec.{eqb}
use lib.ListN.{length, get_or, set, length-set}
use lib.Seq.{get_or-set_same, get_or-set_other, ext_get_or}
use borrow.Author.Tests.{eqb-true, eqb-false}
use Rattle.laws.specs.Lists.{map_at, any_pair, all_of}
use Rattle.laws.proofs.Branches.{either, and_yes}

pub length-map_at : {A : Type 0} (t : ℕ → Bool) (f : A → A) (l : List A) → length (map_at t f l) ≡ length l
length-map_at t f [] = refl
length-map_at t f (x ∷ l) = ap suc (length-map_at (λ i. t (suc i)) f l)

module _ {A : Type 0} (d : A) where
  -- each place for itself
  pub get_or-map_at : (t : ℕ → Bool) (f : A → A) (l : List A) (i : ℕ) → i < length l → get_or (map_at t f l) i d ≡ cond (t i) (f (get_or l i d)) (get_or l i d)
  get_or-map_at t f [] i h = absurd (not-suc-le-zero h)
  get_or-map_at t f (x ∷ l) zero h = refl
  get_or-map_at t f (x ∷ l) (suc i) h = get_or-map_at (λ j. t (suc j)) f l i (le_of_suc-le-suc h)

  -- a place that does not pass, or is past the end, stays
  pub map-kept : (t : ℕ → Bool) (f : A → A) (l : List A) (i : ℕ) → t i ≡ false → get_or (map_at t f l) i d ≡ get_or l i d
  map-kept t f [] i h = refl
  map-kept t f (x ∷ l) zero h = rw h
  map-kept t f (x ∷ l) (suc i) h = map-kept (λ j. t (suc j)) f l i h

  pub map-past : (t : ℕ → Bool) (f : A → A) (l : List A) (i : ℕ) → length l ≤ i → get_or (map_at t f l) i d ≡ get_or l i d
  map-past t f [] i h = refl
  map-past t f (x ∷ l) zero h = absurd (not-suc-le-zero h)
  map-past t f (x ∷ l) (suc i) h = map-past (λ j. t (suc j)) f l i (le_of_suc-le-suc h)

  -- where one place passes, it alone is set
  pub map-one : (t : ℕ → Bool) (f : A → A) (l : List A) (k : ℕ) → k < length l → t k ≡ true → ((i : ℕ) → (i ≡ k → ⊥) → t i ≡ false)
      → map_at t f l ≡ set l k (f (get_or l k d))
  map-one t f l k h here elsewhere =
      ext_get_or d (map_at t f l) (set l k (f (get_or l k d))) (length-map_at t f l ∙ sym (length-set l k (f (get_or l k d))))
      (λ i lt. either (eqb i k)
      (λ y. let same = eqb-true i k y in
      rw same (get_or-map_at t f l k h ∙ rw here (sym (get_or-set_same l k (f (get_or l k d)) d h))))
      (λ n. let other = eqb-false i k n in
      map-kept t f l i (elsewhere i other) ∙ sym (get_or-set_other l k i (f (get_or l k d)) d other)))

  -- a comparison that fails of an element and itself finds just what was set
  module _ (p : A → A → Bool) (irreflexive : (x : A) → p x x ≡ false) where
    pub pair_same : (l : List A) → any_pair p l l ≡ false
    pair_same [] = refl
    pair_same (x ∷ l) = rw (irreflexive x, pair_same l)

    pub pair_set : (l : List A) (k : ℕ) (y : A) → k < length l → any_pair p l (set l k y) ≡ p (get_or l k d) y
    pair_set [] k y h = absurd (not-suc-le-zero h)
    pair_set (x ∷ l) zero y h = rw (pair_same l, or-false (p x y))
    pair_set (x ∷ l) (suc k) y h = rw (irreflexive x) (pair_set l k y (le_of_suc-le-suc h))

  pub pair_at : (p : A → A → Bool) (l m : List A) (i : ℕ) → i < length l → i < length m → p (get_or l i d) (get_or m i d) ≡ true → any_pair p l m ≡ true
  pair_at p [] m i h k e = absurd (not-suc-le-zero h)
  pair_at p (x ∷ l) [] i h k e = absurd (not-suc-le-zero k)
  pair_at p (x ∷ l) (y ∷ m) zero h k e = rw e
  pair_at p (x ∷ l) (y ∷ m) (suc i) h k e =
      rw (pair_at p l m i (le_of_suc-le-suc h) (le_of_suc-le-suc k) e) (or-true (p x y))

  pub pair_found : (p : A → A → Bool) (l m : List A) → any_pair p l m ≡ true → (i : ℕ) × (i < length l) × (p (get_or l i d) (get_or m i d) ≡ true)
  pair_found p [] m h = absurd (false≢true h)
  pair_found p (x ∷ l) [] h = absurd (false≢true h)
  pair_found p (x ∷ l) (y ∷ m) h =
      either (p x y) (λ e. (0, omega arith, e))
      (λ e. let r = pair_found p l m (rw e at h) in let k = r.1 in (suc r.0, omega arith, r.2))

module _ {A : Type 0} (p : A → Bool) where
  -- a test that f keeps holds of every element still
  pub all_map_at : (t : ℕ → Bool) (f : A → A) (l : List A) → ((x : A) → p x ≡ true → p (f x) ≡ true) → all_of p l ≡ true → all_of p (map_at t f l) ≡ true
  all_map_at t f [] keeps h = refl
  all_map_at t f (x ∷ l) keeps h =
      let both = (and-eq-true_iff (p x) (all_of p l)).0 h in
      and_yes (p (cond (t 0) (f x) x)) (all_of p (map_at (λ i. t (suc i)) f l))
      (either (t 0) (λ y. rw y (keeps x both.0)) (λ n. rw n both.0))
      (all_map_at (λ i. t (suc i)) f l keeps both.1)
