-- What is known of a read by its request: which fields of the page it looks at, and which headers a read that sends data has.
-- Assumes nothing.
use Prim.Native.Nat.{ℕ}
use mathlib.Core.Path.{◌≡◌, refl, ap, ◌∙◌}
use mathlib.Core.Bool.{true, false, false≢true}
use mathlib.Core.List.{List, [], ◌∷◌}
use mathlib.Core.Logic.{◌⊎◌, inl, inr, ⊎_elim}
use native.Mathlib.Omega.{arith}
use lib.ListN.{length, get_or}
use lib.Dec.{eqb}
use borrow.Author.Tests.{eqb-true}
use Rattle.std.specs.Prelude.{Result, Ok, Err}
use Rattle.laws.proofs.Branches.{either, cond-apply, cond_same}
use Rattle.command.specs.Table.{lookup}
use Rattle.page.specs.declared.Page.{Page}
use Rattle.unpaged.specs.declared.Unpaged.{Unpaged}
use Rattle.unpaged.specs.Unpaged.{every_page}
use Rattle.reads.specs.declared.request.Request.{Request}
use Rattle.reads.specs.declared.request.Request.TheVariants.{Plain, Coefficients}
use Rattle.reads.specs.Request.{plain_of, coefficients_of, process_of, addressed_of, request_of}
use Rattle.reads.specs.Coefficients.{has_coefficients}
use Rattle.reads.specs.Answers.{data_answer, request_answer, read_answer, answers_data}
use Rattle.reads.specs.Applies.{code}

-- the answer goes by whether every page is selected, and looks at nothing of the page but its formats
pub answer-same : (u v : Unpaged) (p q : Page) (r : Result Request ℕ) (n : ℕ) → every_page u ≡ every_page v → p.formats ≡ q.formats
    → request_answer u p r n ≡ request_answer v q r n
unfolding request_answer has_coefficients
answer-same u v p q (Err answer) n e f = refl
answer-same u v p q (Ok (Plain code k)) n e f = rw e
answer-same u v p q (Ok (Coefficients code direction)) n e f = rw (e, f)

-- whether data are sent does not depend on the number of bytes clocked
pub data_any : (u : Unpaged) (p : Page) (r : Result Request ℕ) (n m : ℕ) → answers_data (request_answer u p r n) ≡ answers_data (request_answer u p r m)
unfolding request_answer data_answer answers_data
data_any u p (Err answer) n m = refl
data_any u p (Ok (Plain code k)) n m = simp (cond-apply answers_data, cond_same)
data_any u p (Ok (Coefficients code direction)) n m = simp (cond-apply answers_data, cond_same)

-- a header of three bytes, spelled
three : (h : List ℕ) → length h ≡ 3 → h ≡ get_or h 0 0 ∷ get_or h 1 0 ∷ get_or h 2 0 ∷ []
three [] e = absurd (omega arith)
three (a ∷ []) e = absurd (omega arith)
three (a ∷ b ∷ []) e = absurd (omega arith)
three (a ∷ b ∷ c ∷ []) e = refl
three (a ∷ b ∷ c ∷ x ∷ h) e = absurd (omega arith)

-- and one of six
six : (h : List ℕ) → length h ≡ 6 → h ≡ get_or h 0 0 ∷ get_or h 1 0 ∷ get_or h 2 0 ∷ get_or h 3 0 ∷ get_or h 4 0 ∷ get_or h 5 0 ∷ []
six [] e = absurd (omega arith)
six (a ∷ []) e = absurd (omega arith)
six (a ∷ b ∷ []) e = absurd (omega arith)
six (a ∷ b ∷ c ∷ []) e = absurd (omega arith)
six (a ∷ b ∷ c ∷ x ∷ []) e = absurd (omega arith)
six (a ∷ b ∷ c ∷ x ∷ y ∷ []) e = absurd (omega arith)
six (a ∷ b ∷ c ∷ x ∷ y ∷ z ∷ []) e = refl
six (a ∷ b ∷ c ∷ x ∷ y ∷ z ∷ w ∷ h) e = absurd (omega arith)

-- a read that sends data: of a code that is read,
pub record SendsPlain (header : List ℕ) : Type 0 where
  pub spelled : header ≡ 0xC0 ∷ code header ∷ 0xC1 ∷ []
  pub readable : (lookup (code header)).read ≡ true
  pub asks : request_of header ≡ Ok (Plain (code header) (lookup (code header)).length)

-- or of coefficients
pub record SendsCoefficients (header : List ℕ) : Type 0 where
  pub spelled : header ≡ 0xC0 ∷ 0x30 ∷ 2 ∷ get_or header 3 0 ∷ get_or header 4 0 ∷ 0xC1 ∷ []
  pub asks : request_of header ≡ Ok (Coefficients (get_or header 3 0) (get_or header 4 0))

module _ (u : Unpaged) (p : Page) (header : List ℕ) (n : ℕ) (y : answers_data (read_answer u p header n) ≡ true) (some : eqb (length header) 0 ≡ false) (ours : eqb (get_or header 0 0) 0xC0 ≡ true) where
  of_three : eqb (length header) 3 ≡ true → SendsPlain header
  unfolding read_answer request_of addressed_of plain_of request_answer answers_data
  of_three long =
      either (eqb (get_or header 2 0) 0xC1)
      (λ last. either (lookup (code header)).read
      (λ yes. record {
        spelled = three header (eqb-true (length header) 3 long) ∙ rw (eqb-true (get_or header 0 0) 0xC0 ours, eqb-true (get_or header 2 0) 0xC1 last);
        readable = yes;
        asks = rw (some, ours, long, last, yes);
      })
      (λ no. absurd (false≢true (rw (some, ours, long, last, no) at y))))
      (λ e. absurd (false≢true (rw (some, ours, long, e) at y)))

  of_other : eqb (length header) 3 ≡ false → SendsCoefficients header
  unfolding read_answer request_of addressed_of process_of coefficients_of request_answer answers_data
  of_other short =
      either (eqb (code header) 0x30)
      (λ is. either (eqb (length header) 6)
      (λ long. either (eqb (get_or header 2 0) 2)
      (λ two. either (eqb (get_or header 5 0) 0xC1)
      (λ last. record {
        spelled =
            six header (eqb-true (length header) 6 long)
            ∙ rw (eqb-true (get_or header 0 0) 0xC0 ours, eqb-true (code header) 0x30 is, eqb-true (get_or header 2 0) 2 two, eqb-true (get_or header 5 0) 0xC1 last);
        asks = rw (some, ours, short, is, long, two, last);
      })
      (λ e. absurd (false≢true (rw (some, ours, short, is, long, two, e) at y))))
      (λ e. absurd (false≢true (rw (some, ours, short, is, long, e) at y))))
      (λ e. absurd (false≢true (rw (some, ours, short, is, e) at y))))
      (λ e. absurd (false≢true (rw (some, ours, short, e) at y)))

module _ (u : Unpaged) (p : Page) (header : List ℕ) (n : ℕ) (y : answers_data (read_answer u p header n) ≡ true) where
  pub sends : SendsPlain header ⊎ SendsCoefficients header
  unfolding read_answer request_of request_answer answers_data
  sends =
      either (eqb (length header) 0) (λ e. absurd (false≢true (rw e at y)))
      (λ some. either (eqb (get_or header 0 0) 0xC0)
      (λ ours. either (eqb (length header) 3) (λ long. inl (of_three u p header n y some ours long)) (λ e. inr (of_other u p header n y some ours e)))
      (λ e. absurd (false≢true (rw (some, e) at y))))

  -- of another code than 30h
  pub sends_plain : (code header ≡ 0x30 → ⊥) → SendsPlain header
  sends_plain other = ⊎_elim (λ s. s) (λ s. absurd (other (ap code s.spelled))) sends
