-- The first eleven bytes of a transaction decide, and of the number of bytes clocked whether it passes eight.
-- Assumes nothing.
use Prim.Native.Nat.{ℕ, ◌+◌, ◌-◌, ◌<◌, ◌≤◌, min}
use mathlib.Core.Path.{◌≡◌, refl, sym, ap, ◌∙◌}
use mathlib.Core.Bool.{Bool, true, cond, and-eq-true_iff}
use mathlib.Core.List.{List, [], ◌∷◌}
use native.Mathlib.Omega.{arith}
use lib.ListN.{length, get_or, take, length-take}
use lib.Seq.{take_all, get_or-take}
use lib.Dec.{ltb, leb, eqb}
use borrow.Author.Tests.{ltb-true, ltb-false, lt-ltb, le-ltb, leb-true, ne_eqb}
use Rattle.std.specs.Prelude.{Result, Ok, Err}
use Rattle.laws.specs.Lists.{all_of}
use Rattle.laws.proofs.Branches.{either, cond_same}
use Rattle.page.specs.declared.Page.{Page}
use Rattle.command.specs.Table.{Row, table, row_in, entry_of, lookup}
use Rattle.bus.specs.Ack.{orderly, room_behind, acked_first, acked_second}
use Rattle.unpaged.specs.declared.Unpaged.{Unpaged}
use Rattle.writes.specs.declared.asked.Write.{Write}
use Rattle.writes.specs.Asked.{asked}
use Rattle.writes.specs.Answers.{length_answer, code_answer, addressed_answer, write_answer}
use Rattle.reads.specs.declared.request.Request.{Request}
use Rattle.reads.specs.declared.request.Request.TheVariants.{Plain, Coefficients}
use Rattle.reads.specs.Request.{plain_of, coefficients_of, process_of, addressed_of, request_of, due_of}
use Rattle.reads.specs.Answers.{data_answer, request_answer, read_answer, answers_data}
use Rattle.reads.specs.Data.{read_stream}
use Rattle.reads.proofs.Requests.{data_any}
use Rattle.device.specs.declared.Device.{Device}
use Rattle.device.specs.Device.{device_valid, page_shown}
use Rattle.device.specs.Step.{read, answer_of, answered, effect, left, sent, step}
use Rattle.stream.specs.Claims.{WriteByEleven, ReadByEleven}

-- ---- no code has more than seven data bytes

abbrev small : Row → Bool
small e = leb e.2 7

row_small : (l : List Row) (c : ℕ) → all_of small l ≡ true → small (row_in l c) ≡ true
row_small [] c h = refl
row_small (e ∷ l) c h =
    let both = (and-eq-true_iff (small e) (all_of small l)).0 h in
    either (eqb e.0 c) (λ y. rw y both.0) (λ n. rw n (row_small l c both.1))

pub at_most-seven : (c : ℕ) → (lookup c).length ≤ 7
unfolding lookup entry_of table
at_most-seven c = leb-true _ 7 (row_small table c refl)

-- ---- what holds of the list itself where it is short, and of the first eleven of a longer one

by_length : (P : List ℕ → Type 0) (s : List ℕ) → P s → (11 < length s → P (take 11 s)) → P (take 11 s)
by_length P s short long =
    either (ltb 11 (length s)) (λ y. long (ltb-true 11 (length s) y)) (λ n. rw (take_all 11 s (ltb-false 11 (length s) n)) short)

at : (s : List ℕ) (i : ℕ) → i < 11 → get_or (take 11 s) i 0 ≡ get_or s i 0
at s i h = get_or-take 11 s i 0 h

asked-cut : (s : List ℕ) → asked (take 11 s) ≡ asked s
unfolding asked
asked-cut s = rw (at s 1 (omega arith), at s 2 (omega arith), at s 3 (omega arith))

-- past one byte more than the data every length is the same
too_long : (n : ℕ) (u : Unpaged) (s : List ℕ) (k code : ℕ) (w : Write) → k + 4 ≤ length s → length_answer n u s k code w ≡ 6
unfolding length_answer
too_long n u s k code w h =
    rw (
      le-ltb (length s - 2) k (omega arith),
      ne_eqb (length s - 2) k (λ e. omega arith),
      ne_eqb (length s - 2 - k) 1 (λ e. omega arith),
    )

-- a header of more than six bytes asks for nothing
long-process : (h : List ℕ) (code : ℕ) → 6 < length h → process_of h code ≡ Err 2
unfolding process_of coefficients_of
long-process h code l = rw (ne_eqb (length h) 6 (λ e. omega arith)) (cond_same (eqb code 0x30) (Err 2))

long-refused : (h : List ℕ) → 6 < length h → request_of h ≡ cond (eqb (get_or h 0 0) 0xC0) (Err 2) (Err 1)
unfolding request_of addressed_of
long-refused h l =
    rw (ne_eqb (length h) 0 (λ e. omega arith), ne_eqb (length h) 3 (λ e. omega arith), long-process h (get_or h 1 0) l)

module _ (s : List ℕ) (long : 11 < length s) where
  cut : length (take 11 s) ≡ 11
  cut = length-take 11 s ∙ omega arith

  long-write : (n : ℕ) (u : Unpaged) → write_answer n u (take 11 s) ≡ write_answer n u s
  unfolding write_answer addressed_answer code_answer
  long-write n u =
      let few = at_most-seven (get_or s 1 0) in
      let c = cut in
      rw (
        cut,
        at s 0 (omega arith),
        at s 1 (omega arith),
        asked-cut s,
        ne_eqb (length s) 0 (λ e. omega arith),
        ne_eqb (length s) 1 (λ e. omega arith),
        too_long n u (take 11 s) (lookup (get_or s 1 0)).length (get_or s 1 0) (asked s) (omega arith),
        too_long n u s (lookup (get_or s 1 0)).length (get_or s 1 0) (asked s) (omega arith),
      )

  long-request : request_of (take 11 s) ≡ request_of s
  long-request =
      let c = cut in
      long-refused (take 11 s) (omega arith)
      ∙ ap (λ (x : ℕ). cond (eqb x 0xC0) (Err 2) (Err 1)) (at s 0 (omega arith)) ∙ sym (long-refused s (omega arith))

  long-orderly : orderly (take 11 s) ≡ orderly s
  unfolding orderly
  long-orderly =
      rw (
        cut,
        at s 0 (omega arith),
        at s 1 (omega arith),
        ne_eqb (length s) 0 (λ e. omega arith),
        ne_eqb (length s) 1 (λ e. omega arith),
      )

  long-acked : (b : ℕ) → acked_first (take 11 s) b ≡ acked_first s b
  unfolding acked_first room_behind
  long-acked b =
      let few = at_most-seven (get_or s 1 0) in
      rw (
        cut,
        at s 0 (omega arith),
        at s 1 (omega arith),
        ne_eqb (length s) 0 (λ e. omega arith),
        ne_eqb (length s) 1 (λ e. omega arith),
        le-ltb 11 ((lookup (get_or s 1 0)).length + 3) (omega arith),
        le-ltb (length s) ((lookup (get_or s 1 0)).length + 3) (omega arith),
      )

-- ---- answers

write_cut : (n : ℕ) (u : Unpaged) (s : List ℕ) → write_answer n u (take 11 s) ≡ write_answer n u s
write_cut n u s = by_length (λ (t : List ℕ). write_answer n u t ≡ write_answer n u s) s refl (λ h. long-write s h n u)

request_cut : (h : List ℕ) → request_of (take 11 h) ≡ request_of h
request_cut h = by_length (λ (t : List ℕ). request_of t ≡ request_of h) h refl (λ l. long-request h l)

read_cut : (u : Unpaged) (p : Page) (h : List ℕ) (n : ℕ) → read_answer u p (take 11 h) n ≡ read_answer u p h n
unfolding read_answer
read_cut u p h n = rw (request_cut h)

-- no request has more than seven data bytes
process_due : (h : List ℕ) (code : ℕ) → due_of (process_of h code) ≤ 7
unfolding process_of coefficients_of due_of
process_due h code =
    either (eqb code 0x30)
    (λ a. either (eqb (length h) 6)
    (λ b. either (eqb (get_or h 2 0) 2)
    (λ c. either (eqb (get_or h 5 0) 0xC1) (λ d. rw (a, b, c, d) (omega arith)) (λ d. rw (a, b, c, d) (omega arith)))
    (λ c. rw (a, b, c) (omega arith)))
    (λ b. rw (a, b) (omega arith)))
    (λ a. rw a (omega arith))

few_due : (h : List ℕ) → due_of (request_of h) ≤ 7
unfolding request_of addressed_of plain_of due_of
few_due h =
    either (eqb (length h) 0) (λ a. rw a (omega arith))
    (λ a. either (eqb (get_or h 0 0) 0xC0)
    (λ b. either (eqb (length h) 3)
    (λ c. either (eqb (get_or h 2 0) 0xC1)
    (λ d. either (lookup (get_or h 1 0)).read (λ e. rw (a, b, c, d, e) (at_most-seven (get_or h 1 0))) (λ e. rw (a, b, c, d, e) (omega arith)))
    (λ d. rw (a, b, c, d) (omega arith)))
    (λ c. rw (a, b, c) (process_due h (get_or h 1 0))))
    (λ b. rw (a, b) (omega arith)))

many_data : (refused : Bool) (k n : ℕ) → k ≤ 7 → data_answer refused k (min n 9) ≡ data_answer refused k n
unfolding data_answer
many_data refused k n few =
    either (ltb n 10)
    (λ y. let h = ltb-true n 10 y in let m : min n 9 ≡ n = omega arith in rw m)
    (λ y. let h = ltb-false n 10 y in let m : min n 9 ≡ 9 = omega arith in
    rw (
      m,
      le-ltb n k (omega arith),
      le-ltb 9 k (omega arith),
      lt-ltb (k + 1) n (omega arith),
      lt-ltb (k + 1) 9 (omega arith),
    ))

many : (u : Unpaged) (p : Page) (r : Result Request ℕ) (n : ℕ) → due_of r ≤ 7 → request_answer u p r (min n 9) ≡ request_answer u p r n
unfolding request_answer due_of
many u p (Err refusal) n few = refl
many u p (Ok (Plain code k)) n few = many_data _ k n few
many u p (Ok (Coefficients code direction)) n few = many_data _ 6 n (omega arith)

many_clocked : (u : Unpaged) (p : Page) (header : List ℕ) (n : ℕ) → read_answer u p header (min n 9) ≡ read_answer u p header n
unfolding read_answer
many_clocked u p header n = many u p (request_of header) n (few_due header)

-- ---- the whole device's step

pub write_by_eleven : WriteByEleven
unfolding WriteByEleven step left effect answered answer_of
write_by_eleven d s = rw (write_cut (length d.pages) d.unpaged s, asked-cut s)

pub read_by_eleven : ReadByEleven
unfolding ReadByEleven step left effect answered answer_of
read_by_eleven d header n = rw (read_cut d.unpaged (page_shown d) header (min n 9) ∙ many_clocked d.unpaged (page_shown d) header n)

-- ---- what is sent does not depend on the number of bytes clocked

-- the bytes that a read sends
abbrev pub read_sent : Device → List ℕ → ℕ → List ℕ
read_sent d h n = sent d (read h n) (answered d (read h n))

-- nothing behind a header of more than six bytes
long-silent : (d : Device) (h : List ℕ) (n : ℕ) → 6 < length h → read_sent d h n ≡ []
unfolding sent answered answer_of read_answer request_answer read_stream answers_data
long-silent d h n l =
    either (device_valid d)
    (λ v. either (eqb (get_or h 0 0) 0xC0) (λ o. rw (v, long-refused h l, o)) (λ o. rw (v, long-refused h l, o)))
    (λ v. rw v)

pub sent-cut : (d : Device) (h : List ℕ) (n : ℕ) → read_sent d (take 11 h) n ≡ read_sent d h n
sent-cut d h n =
    by_length (λ (t : List ℕ). read_sent d t n ≡ read_sent d h n) h refl
    (λ l. let c = cut h l in long-silent d (take 11 h) n (omega arith) ∙ sym (long-silent d h n (omega arith)))

answers_any : (d : Device) (h : List ℕ) (n m : ℕ) → answers_data (answered d (read h n)) ≡ answers_data (answered d (read h m))
unfolding answered answer_of read_answer
answers_any d h n m =
    either (device_valid d) (λ v. rw v (data_any d.unpaged (page_shown d) (request_of h) n m)) (λ v. rw v)

pub sent-any : (d : Device) (h : List ℕ) (n m : ℕ) → read_sent d h n ≡ read_sent d h m
unfolding sent read_stream
sent-any d h n m = rw (answers_any d h n m)

-- ---- ACK

pub first_cut : (s : List ℕ) (b : ℕ) → acked_first (take 11 s) b ≡ acked_first s b
first_cut s b = by_length (λ (t : List ℕ). acked_first t b ≡ acked_first s b) s refl (λ h. long-acked s h b)

pub second_cut : (s : List ℕ) (b : ℕ) → acked_second (take 11 s) b ≡ acked_second s b
unfolding acked_second
second_cut s b = rw (by_length (λ (t : List ℕ). orderly t ≡ orderly s) s refl (λ h. long-orderly s h))
