-- `back` takes a call apart into the transaction that built it: an inverse of `call_of` on both sides.
-- Assumes nothing.
use Prim.Native.Nat.{ℕ, zero, suc, ◌+◌, ◌-◌, ◌<◌, ◌≤◌}
use mathlib.Core.Path.{◌≡◌, refl, sym, ap, ap₂, ◌∙◌}
use mathlib.Core.Logic.{inl, inr, ⊎_elim}
use mathlib.Core.Bool.{Bool, true, false}
use mathlib.Core.List.{List, [], ◌∷◌, ◌++◌}
use native.Mathlib.Omega.{arith}
use lib.Dec.{ltb}
use lib.ListN.{length, get_or, take, drop, length-append}
use lib.Seq.{take_at, take_all, get_or_at, take-suc, length-take-le}
use borrow.Author.Tests.{lt-ltb, le-ltb}
use Rattle.laws.specs.Lists.{Bytes}
use Rattle.laws.proofs.Lists.{byte-lt}
use Rattle.pec.specs.Pec.{pec}
use Rattle.pec.proofs.Laws.{pec-lt}
use Rattle.command.specs.Table.{lookup}
use Rattle.writes.specs.Accepted.{RightPec, WellFormed}
use Rattle.device.specs.Step.{Call, write, read, measure, sample, alert_response, tick}
use Rattle.replies.specs.Replies.{read_header, clocked_for}
use Rattle.host.specs.Build.{write_frame, read_count, number_answer, write_form, read_form}
use Rattle.host.proofs.Frames.{write_right, read_right, frame_length}
use Rattle.host.proofs.Stored.{frame_code}
use Rattle.dialogue.specs.Transactions.{Transaction, writing, reading, Buildable, call_of, back, ClockedRead, Meant, AllMeant, ExactlyOne}

-- ---- built, and taken apart

module _ (code : ℕ) (bytes : List ℕ) (e : length bytes ≡ (lookup code).length) where
  data_again : (check : Bool) → take (lookup code).length (drop 2 (write_frame code bytes check)) ≡ bytes
  unfolding write_frame
  data_again true = take_at bytes (pec (0xC0 ∷ code ∷ bytes) ∷ []) (lookup code).length e
  data_again false = take_all (lookup code).length bytes (omega arith)

  check_again : (check : Bool) → ltb (2 + (lookup code).length) (length (write_frame code bytes check)) ≡ check
  unfolding clocked_for
  check_again true =
      let l = frame_length code bytes true in
      lt-ltb (2 + (lookup code).length) (length (write_frame code bytes true)) (omega arith)
  check_again false =
      let l = frame_length code bytes false in
      le-ltb (2 + (lookup code).length) (length (write_frame code bytes false)) (omega arith)

count_again : (k : ℕ) (check : Bool) → ltb k (clocked_for k check) ≡ check
unfolding clocked_for
count_again k true = lt-ltb k (k + 1) (omega arith)
count_again k false = le-ltb k (k + 0) (omega arith)

again : (t : Transaction) → Buildable t → back (call_of t) ≡ t
unfolding Buildable call_of read_count
again (writing code bytes check) b =
    let e = (write_right code (length bytes) b.1).1 in
    rw (frame_code code bytes check, data_again code bytes e check, check_again code bytes e check)
again (reading code check) b = rw (count_again (lookup code).length check)

-- ---- taken apart, and built

form_right : (code k : ℕ) → (lookup code).written ≡ true → k ≡ (lookup code).length → write_form code k ≡ 0
unfolding write_form number_answer
form_right code k w e = rw (w, e, le-ltb (lookup code).length (lookup code).length (omega arith))

read_form-right : (code : ℕ) → (lookup code).read ≡ true → read_form code ≡ 0
unfolding read_form
read_form-right code r = rw r

bytes_take : (s : List ℕ) (k : ℕ) → Bytes s → Bytes (take k s)
unfolding Bytes
bytes_take [] zero b = tt
bytes_take [] (suc k) b = tt
bytes_take (x ∷ s) zero b = tt
bytes_take (x ∷ s) (suc k) b = (b.0, bytes_take s k b.1)

-- a write of code x with the bytes r behind it
module _ (x : ℕ) (r : List ℕ) where
  -- what is to be shown of it
  abbrev Shown : Type 0
  Shown = Buildable (back (write (0xC0 ∷ x ∷ r))) × (call_of (back (write (0xC0 ∷ x ∷ r))) ≡ write (0xC0 ∷ x ∷ r))

  plain-shown : Bytes (x ∷ r) → (lookup x).written ≡ true → length r ≡ (lookup x).length → Shown
  unfolding Buildable call_of write_frame Bytes
  plain-shown b w e =
      let d : take (lookup x).length r ≡ r = take_all (lookup x).length r (omega arith) in
      let c : ltb (2 + (lookup x).length) (length (0xC0 ∷ x ∷ r)) ≡ false =
      le-ltb (2 + (lookup x).length) (length (0xC0 ∷ x ∷ r)) (omega arith) in
      rw (d, c) (((b, form_right x (length r) w e)), refl)

  checked-shown : Bytes (x ∷ r) → (lookup x).written ≡ true → length r ≡ (lookup x).length + 1 → RightPec (0xC0 ∷ x ∷ r) → Shown
  unfolding Buildable call_of write_frame Bytes
  checked-shown b w e p =
      let n = (lookup x).length in
      let l : length (take n r) ≡ n = length-take-le n r (omega arith) in
      let c : ltb (2 + n) (length (0xC0 ∷ x ∷ r)) ≡ true = lt-ltb (2 + n) (length (0xC0 ∷ x ∷ r)) (omega arith) in
      let m : length (0xC0 ∷ x ∷ r) - 1 ≡ suc (suc n) = omega arith in
      let q : pec (0xC0 ∷ x ∷ take n r) ≡ get_or r n 0 =
      sym (ap (λ (j : ℕ). pec (take j (0xC0 ∷ x ∷ r))) m) ∙ p ∙ ap (λ (j : ℕ). get_or (0xC0 ∷ x ∷ r) j 0) m in
      let z : take n r ++ (get_or r n 0 ∷ []) ≡ r = sym (take-suc r n 0 (omega arith)) ∙ take_all (suc n) r (omega arith) in
      rw c (
        ((b.0, bytes_take r n b.1), form_right x (length (take n r)) w l),
        ap write (ap (λ (y : ℕ). 0xC0 ∷ x ∷ (take n r ++ (y ∷ []))) q ∙ ap (λ (s : List ℕ). 0xC0 ∷ x ∷ s) z),
      )

write_shown : (s : List ℕ) → Bytes s → WellFormed s → Buildable (back (write s)) × (call_of (back (write s)) ≡ write s)
unfolding Bytes
write_shown [] b w = absurd (let h : 2 ≤ 0 = w.two in omega arith)
write_shown (a ∷ []) b w = absurd (let h : 2 ≤ 1 = w.two in omega arith)
write_shown (a ∷ x ∷ r) b w =
    rw w.address
    (⊎_elim
    (λ (e : length (a ∷ x ∷ r) ≡ 2 + (lookup x).length). plain-shown x r b.1 w.marked (omega arith))
    (λ (e : (length (a ∷ x ∷ r) ≡ 2 + (lookup x).length + 1) × RightPec (a ∷ x ∷ r)).
    let l = e.0 in checked-shown x r b.1 w.marked (omega arith) (rw w.address at e.1))
    w.data_bytes)

read_shown : (header : List ℕ) (n : ℕ) → Bytes header → ClockedRead header n
    → Buildable (back (read header n)) × (call_of (back (read header n)) ≡ read header n)
unfolding Buildable call_of read_count clocked_for Bytes
read_shown header n b r =
    let x = get_or header 1 0 in
    let k = (lookup x).length in (
      ((byte-lt header b 1, tt), read_form-right x r.code_read),
      ap₂ read (sym r.header_form)
          (⊎_elim
          (λ (e : n ≡ k). let c : ltb k n ≡ false = le-ltb k n (omega arith) in rw c (omega arith))
          (λ (e : n ≡ k + 1). let c : ltb k n ≡ true = lt-ltb k n (omega arith) in rw c (omega arith))
          r.clocked),
    )

shown : (c : Call) → Meant c → Buildable (back c) × (call_of (back c) ≡ c)
unfolding Meant
shown (write s) m = write_shown s m.0 m.1
shown (read header n) m = read_shown header n m.0 m.1
shown (measure page quantity word) m = absurd m
shown (sample n) m = absurd m
shown (alert_response n) m = absurd m
shown tick m = absurd m

pub exactly_one : ExactlyOne
unfolding ExactlyOne
exactly_one c m =
    let s = shown c m in
    record { buildable = s.0; builds = s.1; only = λ u b e. sym (again u b) ∙ ap back e }

-- ---- every transaction that is built is meant

bytes_more : (s : List ℕ) (x : ℕ) → Bytes s → x < 256 → Bytes (s ++ (x ∷ []))
unfolding Bytes
bytes_more [] x b h = (h, tt)
bytes_more (y ∷ s) x b h = (b.0, bytes_more s x b.1 h)

-- the last byte is the packet check of those before it
pub right_pec : (s : List ℕ) → RightPec (s ++ (pec s ∷ []))
right_pec s =
    let l = length-append s (pec s ∷ []) in
    let n : length (s ++ (pec s ∷ [])) - 1 ≡ length s = omega arith in
    rw n (ap pec (take_at s (pec s ∷ []) (length s) refl) ∙ sym (get_or_at s (pec s) [] 0 (length s) refl))

address : (s : List ℕ) → Bytes s → Bytes (0xC0 ∷ s)
unfolding Bytes
address s b = (omega arith, b)

check_lt : (s : List ℕ) → pec s < 256
unfolding pec
check_lt s = pec-lt 0 s (omega arith)

write_meant : (code : ℕ) (bytes : List ℕ) (check : Bool) → Buildable (writing code bytes check)
    → Meant (write (write_frame code bytes check))
unfolding Buildable Meant write_frame
write_meant code bytes true b =
    let f = write_right code (length bytes) b.1 in
    let e = f.1 in
    let l = length-append bytes (pec (0xC0 ∷ code ∷ bytes) ∷ []) in (
      bytes_more (0xC0 ∷ code ∷ bytes) (pec (0xC0 ∷ code ∷ bytes)) (address (code ∷ bytes) b.0) (check_lt (0xC0 ∷ code ∷ bytes)),
      record {
        two = omega arith;
        address = refl;
        marked = f.0;
        data_bytes = inr (omega arith, right_pec (0xC0 ∷ code ∷ bytes));
      },
    )
write_meant code bytes false b =
    let f = write_right code (length bytes) b.1 in
    let e = f.1 in (
      address (code ∷ bytes) b.0,
      record {
        two = omega arith;
        address = refl;
        marked = f.0;
        data_bytes = inl (omega arith);
      },
    )

read_meant : (code : ℕ) (check : Bool) → Buildable (reading code check) → Meant (read (read_header code) (read_count code check))
unfolding Buildable Meant read_count clocked_for Bytes
read_meant code true b =
    ((omega arith, (b.0.0, (omega arith, tt))), record { header_form = refl; code_read = read_right code b.1; clocked = inr refl })
read_meant code false b =
    ((omega arith, (b.0.0, (omega arith, tt))), record { header_form = refl; code_read = read_right code b.1; clocked = inl (omega arith) })

pub all_meant : AllMeant
unfolding AllMeant call_of
all_meant (writing code bytes check) b = write_meant code bytes check b
all_meant (reading code check) b = read_meant code check b
