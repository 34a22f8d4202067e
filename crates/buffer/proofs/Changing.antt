-- A loop over the eight pages of a buffer that changes one after the other; and what is gathered of each pair of old and new.
-- Assumes nothing.
use Prim.Native.Nat.{ℕ, suc, ◌+◌, ◌*◌, ◌<◌, ◌≤◌}
use mathlib.Core.Path.{◌≡◌, refl, sym, ap, ◌∙◌}
use mathlib.Core.Bool.{Bool, true, false, cond, ◌||◌, or-false}
use mathlib.Core.List.{List, [], ◌∷◌, ◌++◌, map}
use native.Mathlib.Omega.{arith}
use native.Mathlib.Numerals.{add-one}
use lib.ListN.{length, get_or, set, take, drop, get_or-map, drop_of_length-le}
use lib.Seq.{length-take-le, drop-cons, get_or-set_same, get_or-set_other}
use lib.Dec.{ltb}
use borrow.Author.Tests.{lt-ltb}
use Rattle.std.proofs.Common.{below_more, subst, subst₂, ap₂}
use Rattle.std.proofs.lemmas.List.{take_more_set, ext_get_or}
use Rattle.laws.specs.Lists.{any_of, any_pair}
use Rattle.bus.proofs.Defaults.{within}
use Rattle.page.specs.declared.Page.{Page}
use Rattle.page.specs.Page.{no_page, power_on_page}
use Rattle.layout.specs.Form.{Form, store_all}
use Rattle.layout.specs.Layout.{page_form, pages_in, page_wide, pages_from, size}
use Rattle.layout.proofs.Shapes.{Shape}
use Rattle.layout.proofs.EightPages.{wide, page-set, page-length}

-- one element more is stored
store_more : {A : Type 0} (f : Form A) (s : List ℕ) (o : ℕ) (l : List A) (x : A) → store_all f s o (l ++ x ∷ []) ≡ f.store (store_all f s o l) (o + length l * f.width) x
store_more f s o [] x = let e : o + 0 * f.width ≡ o = omega arith in rw e
store_more f s o (y ∷ l) x =
    let e : o + suc (length l) * f.width ≡ o + f.width + length l * f.width = omega arith in
    rw e (store_more f (f.store s o y) (o + f.width) l x)

-- page i of a buffer
abbrev pub page_of : List ℕ → ℕ → Page
page_of s i = get_or (pages_in s) i no_page

module _ (P : ℕ → Page → Page → Type 0) (s₀ : List ℕ) where
  -- where a turn begins: the pages before i are changed, as P says, those from i on are as they were
  pub record Walked (i : ℕ) (s : List ℕ) : Type 0 where
    pub long : length s ≡ size
    pub changed : (k : ℕ) → k < i → P k (page_of s₀ k) (page_of s k)
    pub kept : (k : ℕ) → i ≤ k → page_of s k ≡ page_of s₀ k
    pub stored : s ≡ store_all page_form s₀ pages_from (take i (pages_in s))

  pub walked_first : length s₀ ≡ size → Walked 0 s₀
  walked_first l = record { long = l; changed = λ k h. absurd (omega arith); kept = λ k h. refl; stored = refl }

  module _ (i : ℕ) (s : List ℕ) (g : Walked i s) (h : i < 8) (x y : Page) (t : List ℕ) (ex : x ≡ get_or (pages_in s) i power_on_page) (shape : Shape y)
      (et : t ≡ cond (ltb i 8) (page_form.store s (pages_from + page_wide * i) y) s) where
    pub walked_from : x ≡ page_of s₀ i
    walked_from = ex ∙ within (pages_in s) i power_on_page no_page h ∙ g.kept i (omega arith)

    t_is : t ≡ page_form.store s (pages_from + page_wide * i) y
    t_is = et ∙ rw (lt-ltb i 8 h)

    pages_are : pages_in t ≡ set (pages_in s) i y
    pages_are = ap pages_in t_is ∙ page-set s i h g.long y shape

    this : page_of t i ≡ y
    this = ap (λ (l : List Page). get_or l i no_page) pages_are ∙ get_or-set_same (pages_in s) i y no_page h

    other : (k : ℕ) → (k ≡ i → ⊥) → page_of t k ≡ page_of s k
    other k n = ap (λ (l : List Page). get_or l k no_page) pages_are ∙ get_or-set_other (pages_in s) i k y no_page n

    pub walked_turn : P i x y → Walked (i + 1) t
    walked_turn p = record {
      long = ap length t_is ∙ page-length s i h g.long y shape;
      changed = below_more _ _
          (λ k m. let Q : Page → Type 0 = P k (page_of s₀ k) in subst Q (sym (other k (λ e. omega arith))) (g.changed k m))
          (let Q : Page → Page → Type 0 = P i in subst₂ Q walked_from (sym this) p);
      kept = λ k m. other k (λ e. omega arith) ∙ g.kept k (omega arith);
      stored =
          let n : length (take i (pages_in s)) ≡ i = length-take-le i (pages_in s) (omega arith) in
          let place : pages_from + i * page_form.width ≡ pages_from + page_wide * i = rw wide (omega arith) in
          let whole : store_all page_form s₀ pages_from (take (i + 1) (pages_in t)) ≡ page_form.store s (pages_from + page_wide * i) y =
          ap (λ (l : List Page). store_all page_form s₀ pages_from (take (i + 1) l)) pages_are
          ∙ ap (store_all page_form s₀ pages_from) (take_more_set (pages_in s) i y h)
          ∙ store_more page_form s₀ pages_from (take i (pages_in s)) y
          ∙ ap₂ (λ (m : List ℕ) (o : ℕ). page_form.store m o y) (sym g.stored) (ap (λ (j : ℕ). pages_from + j * page_form.width) n ∙ place) in
          t_is ∙ sym whole;
    }

  pub walked_end : (i : ℕ) (s : List ℕ) → 8 ≤ i → i ≤ 8 → Walked i s → s ≡ store_all page_form s₀ pages_from (pages_in s)
  walked_end i s h k g = let e : i ≡ 8 = omega arith in let w = g.stored in rw e at w

  pub walked_all : (i : ℕ) (s : List ℕ) → 8 ≤ i → Walked i s → (k : ℕ) → k < 8 → P k (page_of s₀ k) (page_of s k)
  walked_all i s h g k m = g.changed k (omega arith)

-- every page changed by f
pub mapped : (f : Page → Page) (s₀ s : List ℕ) → ((k : ℕ) → k < 8 → page_of s k ≡ f (page_of s₀ k)) → pages_in s ≡ map f (pages_in s₀)
mapped f s₀ s h =
    ext_get_or no_page (pages_in s) (map f (pages_in s₀)) refl
    (λ k m. h k m ∙ sym (get_or-map f (pages_in s₀) k no_page) ∙ within (map f (pages_in s₀)) k (f no_page) no_page m)

-- a loop that ors a test over a list, or over a list beside what f makes of it
or_assoc : (a b c : Bool) → ((a || b) || c) ≡ (a || (b || c))
or_assoc true b c = refl
or_assoc false b c = refl

module _ (p : Page → Bool) (l : List Page) where
  pub any_turn : (c r : Bool) (i : ℕ) → i < length l → r ≡ p (get_or l i no_page) → (c || any_of p (drop i l)) ≡ any_of p l
      → ((c || r) || any_of p (drop (i + 1) l)) ≡ any_of p l
  any_turn c r i h e inv = rw (e, add-one, or_assoc) (rw (drop-cons l i no_page h) at inv)

  pub any_end : (c : Bool) (i : ℕ) → length l ≤ i → (c || any_of p (drop i l)) ≡ any_of p l → c ≡ any_of p l
  any_end c i h inv = sym (or-false c) ∙ (rw (drop_of_length-le l h) at inv)

module _ (p : Page → Page → Bool) (f : Page → Page) (l : List Page) where
  pub pair_turn : (c r : Bool) (i : ℕ) → i < length l → r ≡ p (get_or l i no_page) (f (get_or l i no_page))
      → (c || any_pair p (drop i l) (map f (drop i l))) ≡ any_pair p l (map f l)
      → ((c || r) || any_pair p (drop (i + 1) l) (map f (drop (i + 1) l))) ≡ any_pair p l (map f l)
  pair_turn c r i h e inv = rw (e, add-one, or_assoc) (rw (drop-cons l i no_page h) at inv)

  pub pair_end : (c : Bool) (i : ℕ) → length l ≤ i → (c || any_pair p (drop i l) (map f (drop i l))) ≡ any_pair p l (map f l) → c ≡ any_pair p l (map f l)
  pair_end c i h inv = sym (or-false c) ∙ (rw (drop_of_length-le l h) at inv)
