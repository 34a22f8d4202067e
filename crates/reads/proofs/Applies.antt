-- The answer of a read is the lowest that applies.
-- Assumes nothing.
use Prim.Native.Nat.{ℕ}
use mathlib.Core.Path.{◌≡◌, refl}
use mathlib.Core.Bool.{Bool, true, false, cond, not, ◌||◌, and-true, and-false}
use mathlib.Core.List.{List}
use lib.ListN.{length, get_or}
use lib.Dec.{eqb}
use native.Mathlib.Omega.{arith}
use borrow.Author.Tests.{eqb-true, ne_eqb}
use Rattle.laws.specs.Lines.{lowest}
use Rattle.laws.proofs.Branches.{either}
use Rattle.command.specs.Table.{lookup}
use Rattle.command.specs.Paged.{paged}
use Rattle.page.specs.declared.Page.{Page}
use Rattle.unpaged.specs.declared.Unpaged.{Unpaged}
use Rattle.reads.specs.Request.{plain_of, coefficients_of, process_of, addressed_of, request_of}
use Rattle.reads.specs.Answers.{data_answer, request_answer, read_answer}
use Rattle.reads.specs.Applies.{code, read_lines, AnswersApply}
use Rattle.reads.proofs.HasThem.{has_them_lem}

-- COEFFICIENTS is a code of a page
is_paged : (c : ℕ) → eqb c 0x30 ≡ true → paged c ≡ true
unfolding paged
is_paged c e = rw (eqb-true c 0x30 e)

-- two reasons of one answer
either_nine : (a b : Bool) (x : ℕ) → cond (a || not b) 9 x ≡ cond a 9 (cond (not b) 9 x)
either_nine true b x = refl
either_nine false b x = refl

module _ (u : Unpaged) (p : Page) (h : List ℕ) (n : ℕ) (some : eqb (length h) 0 ≡ false) (ours : eqb (get_or h 0 0) 0xC0 ≡ true) where
  abbrev Lowest : Type 0
  Lowest = read_answer u p h n ≡ lowest (read_lines u p h n)

  of_three : eqb (length h) 3 ≡ true → Lowest
  unfolding read_answer request_of addressed_of plain_of request_answer data_answer
  of_three three =
      let l = eqb-true (length h) 3 three in
      let six : eqb (length h) 6 ≡ false = ne_eqb (length h) 6 (λ e. omega arith) in
      either (eqb (get_or h 2 0) 0xC1)
      (λ last. either (lookup (code h)).read (λ yes. simp (some, ours, three, six, last, yes)) (λ no. simp (some, ours, three, six, last, no)))
      (λ other. simp (some, ours, three, six, other))

  of_six : eqb (length h) 3 ≡ false → eqb (length h) 6 ≡ true → eqb (code h) 0x30 ≡ true → Lowest
  unfolding read_answer request_of addressed_of process_of coefficients_of request_answer data_answer
  of_six three six is =
      either (eqb (get_or h 2 0) 2)
      (λ two. either (eqb (get_or h 5 0) 0xC1)
      (λ last. simp (some, ours, three, is, six, two, last, is_paged (code h) is, and-true, has_them_lem, either_nine))
      (λ z. simp (some, ours, three, is, six, two, z)))
      (λ z. simp (some, ours, three, is, six, z))

  pub ours_apply : Lowest
  unfolding read_answer request_of addressed_of process_of coefficients_of request_answer
  ours_apply =
      either (eqb (length h) 3) of_three
      (λ three. either (eqb (code h) 0x30)
      (λ is. either (eqb (length h) 6) (λ six. of_six three six is) (λ other. simp (some, ours, three, is, other)))
      (λ other. simp (some, ours, three, other, and-false)))

pub answers_apply : AnswersApply
unfolding AnswersApply read_answer request_of request_answer
answers_apply u p h n =
    either (eqb (length h) 0)
    (λ none. let zero = eqb-true (length h) 0 none in
    rw (none, ne_eqb (length h) 3 (λ e. omega arith), ne_eqb (length h) 6 (λ e. omega arith)))
    (λ some. either (eqb (get_or h 0 0) 0xC0) (ours_apply u p h n some) (λ other. rw (some, other)))
