-- Laws of a line that is gathered character by character: what is left of the block gives the whole.
-- Assumes nothing.
use Prim.Native.Nat.{ℕ, suc, ◌+◌, ◌<◌, ◌≤◌, min, max}
use mathlib.Core.Path.{◌≡◌, refl, sym, ap₂, ◌∙◌}
use mathlib.Core.Bool.{true, false, cond}
use mathlib.Core.List.{List, [], ◌∷◌}
use native.Mathlib.Omega.{arith}
use native.Mathlib.Numerals.{add-one}
use lib.Dec.{ltb}
use lib.ListN.{length, get_or, drop, set, length-set, drop_of_length-le}
use lib.Seq.{sets, set_out, drop-cons}
use borrow.Author.Tests.{eq-eqb, ne_eqb, ltb-true, ltb-false}
use Rattle.laws.proofs.Branches.{either}
use Rattle.std.proofs.Common.{Option, Some, None}
use Rattle.frame.specs.declared.gather.Gathered.{Gathered}
use Rattle.frame.specs.Gather.{up_to, ends, count_of, gathered_of}

-- nothing is stored past the end
pub sets_out : {A : Type 0} (l : List A) (i : ℕ) (vs : List A) → length l ≤ i → sets l i vs ≡ l
sets_out l i [] h = refl
sets_out l i (v ∷ vs) h =
    let e = set_out l i v h in
    rw e (sets_out l (suc i) vs (omega arith))

-- a count of no more characters, and of one and then more
pub count_none : (room n : ℕ) → count_of room n 0 ≡ n
count_none room n = omega arith

pub count_more : (room n k : ℕ) → count_of room (count_of room n 1) k ≡ count_of room n (suc k)
count_more room n k = omega arith

-- the buffer after one character and then a row of them
pub keep_more : (l : List ℕ) (n c : ℕ) (s : List ℕ) → sets (set l n c) (count_of (length l) n 1) s ≡ sets l n (c ∷ s)
keep_more l n c s =
    either (ltb n (length l))
    (λ e. let h : n < length l = ltb-true n (length l) e in
    let f : max n (min (n + 1) (length l + 1)) ≡ suc n = omega arith in
    rw f)
    (λ e. let h : length l ≤ n = ltb-false n (length l) e in
    let o = set_out l n c h in
    rw o (sets_out l (max n (min (n + 1) (length l + 1))) s (omega arith) ∙ sym (sets_out l (suc n) s (omega arith))))

abbrev pub gathered : ℕ → Option ℕ → Gathered
gathered n next = record { length = n; next = next }

-- of the characters s after the first i, which hold no LF, what is left gives the whole
pub record Gathers (l₀ : List ℕ) (n : ℕ) (s l : List ℕ) (k i : ℕ) : Type 0 where
  pub room : length l ≡ length l₀
  pub same_end : ends (drop i s) ≡ ends s
  pub same_length : i + length (up_to (drop i s)) ≡ length (up_to s)
  pub same_count : count_of (length l₀) k (length (up_to (drop i s))) ≡ count_of (length l₀) n (length (up_to s))
  pub same_line : sets l k (up_to (drop i s)) ≡ sets l₀ n (up_to s)

pub gathers_none : {l₀ : List ℕ} {n : ℕ} {s : List ℕ} → Gathers l₀ n s l₀ n 0
gathers_none = record { room = refl; same_end = refl; same_length = omega arith; same_count = refl; same_line = refl }

module _ {l₀ : List ℕ} {n : ℕ} {s l : List ℕ} {k i : ℕ} (g : Gathers l₀ n s l k i) where
  module _ (h : i < length s) where
    here : drop i s ≡ get_or s i 0 ∷ drop (i + 1) s
    here = rw (add-one, drop-cons s i 0 h)

    -- at another character
    pub gathers_more : (get_or s i 0 ≡ 10 → ⊥) → Gathers l₀ n s (set l k (get_or s i 0)) (count_of (length l) k 1) (i + 1)
    unfolding up_to ends
    gathers_more e =
        let f = ne_eqb (get_or s i 0) 10 e in
        let t = drop (i + 1) s in
        record {
          room = simp length-set g.room;
          same_end = rw (here, f) at g.same_end;
          same_length = let w = rw (here, f) at g.same_length in omega arith;
          same_count = rw (g.room, count_more) (rw (here, f) at g.same_count);
          same_line = keep_more l k (get_or s i 0) (up_to t) ∙ (rw (here, f) at g.same_line);
        }

    -- at an LF
    pub gathers_line : get_or s i 0 ≡ 10 → (gathered k (Some (i + 1)) ≡ gathered_of (length l₀) n s) × (l ≡ sets l₀ n (up_to s))
    unfolding gathered_of up_to ends
    gathers_line e =
        let f = eq-eqb (get_or s i 0) 10 e in
        let m : length (up_to s) ≡ i = let w = rw (here, f) at g.same_length in omega arith in
        let a : ends s ≡ true = sym (rw (here, f) at g.same_end) in
        let p : k ≡ count_of (length l₀) n (length (up_to s)) = rw (here, f, count_none) at g.same_count in
        let q : Some (i + 1) ≡ cond (ends s) (Some (suc (length (up_to s)))) None = rw (a, m, add-one) refl in
        (ap₂ gathered p q, rw (here, f) at g.same_line)

  -- at the end of the block
  pub gathers_open : length s ≤ i → (gathered k None ≡ gathered_of (length l₀) n s) × (l ≡ sets l₀ n (up_to s))
  unfolding gathered_of up_to ends
  gathers_open h =
      let e : drop i s ≡ [] = drop_of_length-le s h in
      let a : ends s ≡ false = sym (rw e at g.same_end) in
      let p : k ≡ count_of (length l₀) n (length (up_to s)) = rw (e, count_none) at g.same_count in
      let q : None ≡ cond (ends s) (Some (suc (length (up_to s)))) None = rw a refl in
      (ap₂ gathered p q, rw e at g.same_line)

-- where the LF came, and where it did not
module _ (room n : ℕ) (s : List ℕ) where
  pub no_line : (gathered_of room n s).next ≡ None → ends s ≡ false
  unfolding gathered_of
  no_line e = either (ends s) (λ t. absurd (cc)) (λ f. f)

  pub a_line : (j : ℕ) → (gathered_of room n s).next ≡ Some j → (ends s ≡ true) × (j ≡ suc (length (up_to s)))
  unfolding gathered_of
  a_line j e = either (ends s) (λ t. (t, cc)) (λ f. absurd (cc))
