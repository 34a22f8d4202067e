-- A file fed character by character gives the text of its lines, wherever it is cut into blocks.
-- Assumes nothing.
use Prim.Native.Nat.{ℕ, suc, ◌+◌, ◌<◌, ◌≤◌, min, max}
use mathlib.Core.Path.{◌≡◌, refl, sym, ap, ◌∙◌}
use mathlib.Core.Logic.{◌⊎◌, inl, inr, ⊎_elim}
use mathlib.Core.List.{List, [], ◌∷◌, ◌++◌, append_assoc}
use native.Mathlib.Omega.{arith}
use lib.Dec.{eqb, ltb}
use lib.ListN.{length, take, set, length-set, length-append}
use lib.Seq.{take-suc-set, length-take-le}
use borrow.Author.Tests.{ne_eqb, le-ltb, lt-ltb, ltb-true, ltb-false}
use Rattle.laws.proofs.Branches.{either}
use Rattle.device.specs.declared.Device.{Device}
use Rattle.device.specs.Device.{usual, power_on}
use Rattle.frame.specs.Hex.{pairs}
use Rattle.frame.specs.Text.{good_text, bytes_of}
use Rattle.frame.specs.Gather.{count_of, whole_of, held_in}
use Rattle.frame.specs.Line.{line_outcome, text_of}
use Rattle.frame.specs.Blocks.{Fed, after, feed}
use Rattle.frame.specs.File.{lines_from, lines_text, file_text, ended, Whole, Cut}
use Rattle.frame.proofs.Lines.{too_long}
use Rattle.frame.proofs.Feeding.{feed-append}

pub cut : Cut
unfolding Cut
cut d line n s t = feed-append s d line n t

-- ---- the buffer and the line that it holds

-- the buffer holds the characters p of a line; of a line that is longer than it, that it is
abbrev Holds : List ℕ → ℕ → List ℕ → Type 0
Holds line n p = (length line ≡ 512) × (((n ≤ 512) × (take n line ≡ p)) ⊎ ((512 < n) × (512 < length p)))

empty_line : bytes_of [] ≡ []
unfolding bytes_of good_text pairs
empty_line = refl

-- so that it is run as that line, or as the empty one where the line is too long
long-held : (line : List ℕ) (n : ℕ) → length line < n → held_in line n ≡ []
unfolding held_in whole_of
long-held line n h = rw (lt-ltb (length line) n h)

whole-held : (line : List ℕ) (n : ℕ) → n ≤ length line → held_in line n ≡ take n line
unfolding held_in whole_of
whole-held line n h = rw (le-ltb (length line) n h)

held : (line : List ℕ) (n : ℕ) (p : List ℕ) (d : Device) → Holds line n p → line_outcome d (held_in line n) ≡ line_outcome d p
unfolding line_outcome
held line n p d h =
    ⊎_elim
    (λ k. let e = whole-held line n (omega (arith, h.0, k.0)) in rw (e, k.1))
    (λ k. let e = long-held line n (omega (arith, h.0, k.0)) in rw (e, too_long p k.1, empty_line)) h.1

-- one more character
holds_more : (line : List ℕ) (n : ℕ) (p : List ℕ) (c : ℕ) → Holds line n p → Holds (set line n c) (count_of (length line) n 1) (p ++ (c ∷ []))
holds_more line n p c h = (
  simp length-set h.0,
  ⊎_elim
      (λ (k : (n ≤ 512) × (take n line ≡ p)).
      either (ltb n 512)
      (λ e.
      let l : n < length line = omega (arith, h.0, ltb-true n 512 e) in
      let f : max n (min (n + 1) (length line + 1)) ≡ suc n = omega arith in
      inl (omega (arith, h.0, ltb-true n 512 e), rw f (take-suc-set line n c l ∙ ap (λ (x : List ℕ). x ++ (c ∷ [])) k.1)))
      (λ e.
      let l : n ≡ 512 = omega (arith, k.0, ltb-false n 512 e) in
      let q : length p ≡ n = sym (ap length k.1) ∙ length-take-le n line (omega (arith, h.0)) in
      inr (omega (arith, h.0), omega (arith, length-append p (c ∷ [])))))
      (λ (k : (512 < n) × (512 < length p)). inr (omega (arith, h.0, k.0), omega (arith, length-append p (c ∷ []), k.1)))
      h.1,
)

-- it is empty as the line is
empty_too : (line : List ℕ) (n : ℕ) (p : List ℕ) → Holds line n p → eqb n 0 ≡ eqb (length p) 0
empty_too line n p h =
    ⊎_elim
    (λ k. let q : length p ≡ n = sym (ap length k.1) ∙ length-take-le n line (omega (arith, h.0, k.0)) in rw q)
    (λ k. ne_eqb n 0 (λ e. omega (arith, k.0)) ∙ sym (ne_eqb (length p) 0 (λ e. omega (arith, k.1))))
    h.1

-- and none at the start
holds-none : (line : List ℕ) → length line ≡ 512 → Holds line 0 []
holds-none line e = (e, inl (omega arith, refl))

-- ---- the whole

ended-after : (t : List ℕ) (f : Fed) → ended (after t f) ≡ t ++ ended f
ended-after t f = either (eqb f.length 0) (λ e. rw e) (λ e. rw (e, append_assoc t f.text _))

feeds_lines : (s : List ℕ) (d : Device) (line : List ℕ) (n : ℕ) (p : List ℕ) → Holds line n p → ended (feed d line n s) ≡ lines_text d (lines_from p s)
unfolding feed lines_from lines_text
feeds_lines [] d line n p h =
    either (eqb (length p) 0) (λ e. rw (empty_too line n p h, e)) (λ e. rw (empty_too line n p h, e, held line n p d h))
feeds_lines (c ∷ s) d line n p h =
    either (eqb c 10)
    (λ e.
    let r = line_outcome d p in
    rw (e, held line n p d h)
    (ended-after (text_of r) (feed r.done.device line 0 s)
    ∙ ap (λ (x : List ℕ). text_of r ++ x) (feeds_lines s r.done.device line 0 [] (holds-none line h.0))))
    (λ e. rw e (feeds_lines s d (set line n c) (count_of (length line) n 1) (p ++ (c ∷ [])) (holds_more line n p c h)))

pub whole : Whole
unfolding Whole file_text
whole line e s = feeds_lines s (power_on (usual 8)) line 0 [] (holds-none line e)
