-- The best word of all rows, by keeping the nearer: it is ahead of every word. Which row wins is never asked.
-- Assumes nothing.
use mathlib.Core.Path.{◌≡◌, refl, sym, ◌∙◌}
use mathlib.Core.Logic.{◌⊎◌, inl, inr, ⊎_elim}
use Prim.Native.Nat.{ℕ, zero, suc, ◌+◌, ◌/◌, ◌%◌, ◌<◌, ◌≤◌}
use native.Mathlib.Omega.{arith}
use lib.Dec.{ltb}
use borrow.Author.Tests.{ltb-true, ltb-false}
use Rattle.laws.proofs.Branches.{either}
use Rattle.thousandths.specs.declared.rows.Found.{Found}
use Rattle.thousandths.specs.Conversion.{spot, distance, rounded, word_at, row_best, nearer, best}
use Rattle.thousandths.proofs.Rounding.{FirstOfRow, rounded-small, rounded-first}

-- a word's row, and its mantissa moved up by 1024
abbrev pub row : ℕ → ℕ
row word = (word / 2048 + 16) % 32

abbrev pub offset : ℕ → ℕ
offset word = (word % 2048 + 1024) % 2048

abbrev pub gap_at : ℕ → ℕ → ℕ
gap_at t word = distance t (spot (row word) (offset word))

-- nearer; or as near and of a smaller exponent, or of the same and not greater
unfoldable pub Ahead : ℕ → ℕ → ℕ → Type 0
Ahead t word other =
    (gap_at t word < gap_at t other)
    ⊎ ((gap_at t word ≡ gap_at t other) × ((row word < row other) ⊎ ((row word ≡ row other) × (offset word ≤ offset other))))

-- the first of row e
record InRow (t e : ℕ) (f : Found) : Type 0 where
  a_word : f.word < 65536
  at : row f.word ≡ e
  gap_is : f.gap ≡ gap_at t f.word
  ahead : FirstOfRow t e (offset f.word)

-- the first of the rows below e
pub record Best (t e : ℕ) (f : Found) : Type 0 where
  pub a_word : f.word < 65536
  pub at : row f.word < e
  pub gap_is : f.gap ≡ gap_at t f.word
  pub ahead : (other : ℕ) → other < 65536 → row other < e → Ahead t f.word other

row-best : (t e : ℕ) → e < 32 → InRow t e (row_best t e)
unfolding row_best
row-best t e h =
    let small = rounded-small t e in
    let y = rounded t e in
    let r : row (word_at e y) ≡ e = omega arith in
    let o : offset (word_at e y) ≡ y = omega arith in
    record { a_word = omega arith; at = r; gap_is = rw (r, o) refl; ahead = rw o (rounded-first t e) }

-- a row's best against a word of the row
in_row : (t e : ℕ) (f : Found) (v : ℕ) → InRow t e f → row v ≡ e
    → (gap_at t f.word < gap_at t v) ⊎ ((gap_at t f.word ≡ gap_at t v) × (offset f.word ≤ offset v))
unfolding FirstOfRow spot
in_row t e f v r p = rw (r.at, p) (r.ahead (offset v) (omega arith))

module _ (t e : ℕ) (f g : Found) (b : Best t e f) (r : InRow t e g) where
  -- a nearer word of the next row is taken
  taken : g.gap < f.gap → Best t (suc e) g
  unfolding Ahead
  taken h = record {
    a_word = r.a_word;
    at = omega (arith, r.at);
    gap_is = r.gap_is;
    ahead = λ v l p. either (ltb (row v) e)
        (λ k. let a = b.ahead v l (ltb-true (row v) e k) in
        inl (⊎_elim (λ n. omega (arith, b.gap_is, r.gap_is)) (λ n. omega (arith, b.gap_is, r.gap_is)) a))
        (λ k. let same : row v ≡ e = omega (arith, ltb-false (row v) e k) in
        ⊎_elim (λ n. inl n) (λ n. inr (n.0, inr (r.at ∙ sym same, n.1))) (in_row t e g v r same));
  }

  -- otherwise the word stays
  kept : f.gap ≤ g.gap → Best t (suc e) f
  unfolding Ahead
  kept h = record {
    a_word = b.a_word;
    at = omega (arith, b.at);
    gap_is = b.gap_is;
    ahead = λ v l p. either (ltb (row v) e)
        (λ k. b.ahead v l (ltb-true (row v) e k))
        (λ k. let same : row v ≡ e = omega (arith, ltb-false (row v) e k) in
        either (ltb (gap_at t f.word) (gap_at t v))
        (λ m. inl (ltb-true (gap_at t f.word) (gap_at t v) m))
        (λ m. let less = ltb-false (gap_at t f.word) (gap_at t v) m in
        inr (
          ⊎_elim (λ n. omega (arith, b.gap_is, r.gap_is)) (λ n. omega (arith, b.gap_is, r.gap_is)) (in_row t e g v r same),
          inl (omega (arith, b.at)),
        )));
  }

  next : Best t (suc e) (nearer f g)
  unfolding nearer
  next =
      either (ltb g.gap f.gap)
      (λ k. rw k (taken (ltb-true g.gap f.gap k)))
      (λ k. rw k (kept (ltb-false g.gap f.gap k)))

-- the first row alone
one_row : (t : ℕ) (f : Found) → InRow t 0 f → Best t 1 f
unfolding Ahead
one_row t f r = record {
  a_word = r.a_word;
  at = omega (arith, r.at);
  gap_is = r.gap_is;
  ahead = λ v l p. let same : row v ≡ 0 = omega arith in
      ⊎_elim (λ n. inl n) (λ n. inr (n.0, inr (r.at ∙ sym same, n.1))) (in_row t 0 f v r same);
}

pub best-is : (t e : ℕ) → e < 32 → Best t (suc e) (best t e)
unfolding best
best-is t zero h = one_row t (row_best t 0) (row-best t 0 h)
best-is t (suc e) h = next t (suc e) (best t e) (row_best t (suc e)) (best-is t e (omega arith)) (row-best t (suc e) h)
