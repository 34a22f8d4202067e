-- What stands in the reply of a read, by its answer.
-- Assumes nothing.
use Prim.Native.Nat.{ℕ, ◌+◌, ◌-◌, ◌≤◌, ◌<◌}
use mathlib.Core.Path.{◌≡◌, refl, sym, ap, ◌∙◌}
use mathlib.Core.Bool.{Bool, true, false, not, ◌&&◌, ◌||◌}
use mathlib.Core.Logic.{inl, inr, ⊎_elim}
use mathlib.Core.List.{List, [], ◌∷◌, ◌++◌, append_assoc}
use native.Mathlib.Nat.{le_refl}
use native.Mathlib.Omega.{arith}
use lib.ListN.{length, get_or, take, replicate, length-append, length-replicate}
use lib.Dec.{eqb, ltb}
use borrow.Author.Tests.{ltb-true}
use lib.Seq.{take-append-le, take_all}
use Rattle.laws.proofs.Branches.{either}
use Rattle.laws.proofs.Every.{agree, agree-test}
use Rattle.cause.specs.Causes.{limit_of, read_codes}
use Rattle.command.specs.Table.{table, lookup, entry_of}
use Rattle.command.specs.Meaning.{command_of, setting_of, fault_of, reading_of}
use Rattle.command.specs.Paged.{paged}
use Rattle.command.specs.Quantity.{carried, quantity_of}
use Rattle.command.specs.Agreement.{row_of}
use Rattle.command.specs.Causes.{CausesAgree}
use Rattle.command.proofs.Causes.{causes-agree}
use Rattle.page.specs.declared.Page.{Page}
use Rattle.page.specs.Page.{format_in}
use Rattle.unpaged.specs.declared.Unpaged.{Unpaged}
use Rattle.unpaged.specs.Unpaged.{every_page}
use Rattle.reads.specs.Request.{plain_of, coefficients_of, process_of, addressed_of, request_of}
use Rattle.reads.specs.Coefficients.{has_coefficients, coefficient_bytes}
use Rattle.reads.specs.Answers.{data_answer, request_answer, read_answer, answers_data}
use Rattle.reads.specs.Data.{read_data, request_data, checked, read_stream}
use Rattle.reads.specs.Reply.{reply_of}
use Rattle.reads.specs.Replies.{check_of, plain_header, coefficients_header, Reply, reply_to, RepliesFollow}
use Rattle.reads.proofs.Lengths.{data_length}
use Rattle.reads.proofs.Requests.{sends}
use Rattle.reads.proofs.Sent.{reply-length, within, past}

-- bytes with the check c behind them
module _ (bytes : List ℕ) (c n : ℕ) where
  long-enough : length (bytes ++ (c ∷ [])) ≡ length bytes + 1
  long-enough = length-append bytes (c ∷ [])

  first : n ≤ length bytes → reply_of (bytes ++ (c ∷ [])) n ≡ take n bytes
  first h = let e = long-enough in within (bytes ++ (c ∷ [])) n (omega arith) ∙ take-append-le n bytes (c ∷ []) h

  whole : n ≡ length bytes + 1 → reply_of (bytes ++ (c ∷ [])) n ≡ bytes ++ (c ∷ [])
  whole h =
      let e = long-enough in
      within (bytes ++ (c ∷ [])) n (omega arith) ∙ take_all n (bytes ++ (c ∷ [])) (omega arith)

  all : length bytes + 1 ≤ n → reply_of (bytes ++ (c ∷ [])) n ≡ bytes ++ (c ∷ replicate (n - (length bytes + 1)) 255)
  all h =
      let e = long-enough in
      past (bytes ++ (c ∷ [])) n (omega arith) ∙ rw (e, append_assoc) refl

-- an answer that is none of the three sends nothing
none-sent : (x y z : Bool) → (x || (y || (z || false))) ≡ false → (x || y || z) ≡ false
none-sent false false false h = refl
none-sent false false true h = h
none-sent false true z h = h
none-sent true y z h = h

some_sent : (x y z : Bool) → (x || (y || (z || false))) ≡ true → (x || y || z) ≡ true
some_sent true y z h = refl
some_sent false true z h = refl
some_sent false false true h = refl
some_sent false false false h = h

-- the table's number of data bytes, by computation at each code
pub data_due : (u : Unpaged) (p : Page) (c : ℕ) → c < 256 → (lookup c).read ≡ true → length (read_data u p (command_of c)) ≡ (lookup c).length
unfolding lookup entry_of table row_of command_of setting_of fault_of reading_of
data_due u p c h r =
    (data_length u p (command_of c)).0
    (sym (agree-test (λ c. (lookup c).read) (λ c. (entry_of (row_of 0 (command_of c))).read) 256 tt c h) ∙ r)
    ∙ sym (agree (λ c. (lookup c).length) (λ c. (row_of 0 (command_of c)).2) 256 tt c h)

-- the answers 10 and 11 of a request with k data bytes
module _ (refused : Bool) (k n : ℕ) where
  below : data_answer refused k n ≡ 10 → n < k
  unfolding data_answer
  below e =
      either refused (λ y. absurd (omega (arith, rw y at e)))
      (λ z. either (ltb n k) (λ y. ltb-true n k y)
      (λ w. either (ltb (k + 1) n) (λ y. absurd (omega (arith, rw (z, w, y) at e))) (λ v. absurd (omega (arith, rw (z, w, v) at e)))))

  above : data_answer refused k n ≡ 11 → k + 1 < n
  unfolding data_answer
  above e =
      either refused (λ y. absurd (omega (arith, rw y at e)))
      (λ z. either (ltb n k) (λ y. absurd (omega (arith, rw (z, y) at e)))
      (λ w. either (ltb (k + 1) n) (λ y. ltb-true (k + 1) n y) (λ v. absurd (omega (arith, rw (z, w, v) at e)))))

-- a header whose request has these k data bytes
module _ (u : Unpaged) (p : Page) (header : List ℕ) (n k : ℕ) (bytes : List ℕ) (refused : Bool) (long : length bytes ≡ k) (given : request_data u p (request_of header) ≡ bytes) (answers : read_answer u p header n ≡ data_answer refused k n) where
  abbrev answer : ℕ
  answer = read_answer u p header n

  -- what is sent, where data are, and so what is read of it
  data_sent : answers_data answer ≡ true → read_stream u p answer (request_of header) header ≡ bytes ++ (check_of header bytes ∷ [])
  unfolding read_stream checked
  data_sent y = rw (y, given)

  of_data : (a : ℕ) → answer ≡ a → answers_data a ≡ true → reply_to u p header n ≡ reply_of (bytes ++ (check_of header bytes ∷ [])) n
  of_data a e y = ap (λ (s : List ℕ). reply_of s n) (data_sent (ap answers_data e ∙ y))

  replies : Reply answer k n header bytes (reply_to u p header n)
  unfolding read_stream answers_data
  replies =
      let check = check_of header bytes in
      record {
        clocked = reply-length (read_stream u p answer (request_of header) header) n;
        as_due = long;
        plain = λ e m. of_data 0 e refl ∙ first bytes check n (omega arith) ∙ take_all n bytes (omega arith);
        checked = λ e m. of_data 0 e refl ∙ whole bytes check n (omega arith);
        short = λ e. of_data 10 e refl ∙ (let h = below refused k n (sym answers ∙ e) in first bytes check n (omega arith));
        long = λ e.
            let h = above refused k n (sym answers ∙ e) in
            of_data 11 e refl ∙ all bytes check n (omega arith) ∙ ap (λ (m : ℕ). bytes ++ (check ∷ replicate (n - (m + 1)) 255)) long;
        nothing = λ e. rw (none-sent (eqb answer 0) (eqb answer 10) (eqb answer 11) e) (take_all n (replicate n 255) (rw (length-replicate) (le_refl n)));
      }

-- the coefficients of a code whose quantity is known
coefficients_reply : (u : Unpaged) (p : Page) (c direction q n : ℕ) → quantity_of c ≡ q
    → Reply (read_answer u p (coefficients_header c direction) n) 6 n (coefficients_header c direction) (coefficient_bytes (format_in p.formats q))
    (reply_to u p (coefficients_header c direction) n)
unfolding read_answer request_of addressed_of process_of coefficients_of request_answer request_data coefficient_bytes
coefficients_reply u p c direction q n e =
    replies u p (coefficients_header c direction) n 6 (coefficient_bytes (format_in p.formats q))
    (every_page u || not (has_coefficients p c direction)) refl (ap (λ (q : ℕ). coefficient_bytes (format_in p.formats q)) e) refl

pub replies_follow : RepliesFollow
unfolding read_answer request_of addressed_of plain_of request_answer request_data read_stream answers_data coefficient_bytes quantity_of carried CausesAgree
replies_follow = record {
  of_code = λ u p c n small r.
      replies u p (plain_header c) n (lookup c).length (read_data u p (command_of c)) (every_page u && paged c) (data_due u p c small r) (rw r) (rw r);
  of_limit = λ u p i direction n few.
      coefficients_reply u p (limit_of i).limit_code direction (limit_of i).quantity n (ap carried (causes-agree.0 i few).limit);
  of_measured = λ u p i direction n few.
      coefficients_reply u p (get_or read_codes (limit_of i).quantity 0) direction (limit_of i).quantity n (ap carried (causes-agree.0 i few).reading);
  no_data = λ u p header n e.
      let a = read_answer u p header n in
      rw (none-sent (eqb a 0) (eqb a 10) (eqb a 11) e) (take_all n (replicate n 255) (rw (length-replicate) (le_refl n)));
  data_headers = λ u p header n e.
      let a = read_answer u p header n in
      ⊎_elim (λ s. inl (s.spelled, s.readable)) (λ s. inr s.spelled) (sends u p header n (some_sent (eqb a 0) (eqb a 10) (eqb a 11) e));
}
