-- Each byte of the buffer after building.
-- Assumes nothing.
use Prim.Native.Nat.{ℕ, suc, ◌+◌, ◌-◌, ◌<◌, ◌≤◌}
use mathlib.Core.Path.{◌≡◌, refl, sym, ap, ◌∙◌}
use mathlib.Core.Bool.{Bool, true, false, false≢true}
use mathlib.Core.List.{List, [], ◌∷◌, ◌++◌, append_assoc}
use native.Mathlib.Omega.{arith}
use lib.Dec.{leb, eqb}
use lib.ListN.{length, get_or, take, drop, length-append, length-drop, get_or-append}
use lib.Seq.{length-take-le, get_or-take, get_or-drop, get_or-append-add, get_or-append_seam}
use borrow.Author.Tests.{leb-true, eqb-true, eqb-false}
use Rattle.laws.proofs.Branches.{either}
use Rattle.pec.specs.Pec.{pec}
use Rattle.replies.specs.Replies.{read_header}
use Rattle.host.specs.declared.build.Built.{Built}
use Rattle.host.specs.Build.{write_frame, read_count, write_form, read_form, built_at, placed}
use Rattle.host.specs.Applies.{write_size}
use Rattle.host.specs.Stored.{Kept, WritesStored, ReadsStored}
use Rattle.host.proofs.Frames.{placed-none, placed-there, at_form, at_room}
use Rattle.host.proofs.Applies.{frame_size}

-- answer 0 says that the frame ends within the room
done-fits : (form room place n count : ℕ) → (built_at form room place n count).answer ≡ 0 → place + n ≤ room
done-fits form room place n count h =
    either (eqb form 0)
    (λ y. either (leb (place + n) room) (λ e. leb-true (place + n) room e)
    (λ e.
    let z : 26 ≡ 0 = sym (ap (λ (b : Built). b.answer) (at_room form room place n count (eqb-true form 0 y) e)) ∙ h in
    absurd (omega arith)))
    (λ f. absurd (eqb-false form 0 f (sym (ap (λ (b : Built). b.answer) (at_form form room place n count (eqb-false form 0 f))) ∙ h)))

-- a frame between the beginning and the end of a buffer
module _ (buffer frame : List ℕ) (place : ℕ) (h : place + length frame ≤ length buffer) where
  abbrev between : List ℕ
  between = take place buffer ++ frame ++ drop (place + length frame) buffer

  same_between : between ≡ take place buffer ++ (frame ++ drop (place + length frame) buffer)
  same_between = append_assoc (take place buffer) frame (drop (place + length frame) buffer)

  head : length (take place buffer) ≡ place
  head = length-take-le place buffer (omega arith)

  as_long : length between ≡ length buffer
  as_long =
      let a = length-append (take place buffer) (frame ++ drop (place + length frame) buffer) in
      let b = length-append frame (drop (place + length frame) buffer) in
      let c = length-drop (place + length frame) buffer in
      let d = head in
      ap length same_between ∙ omega arith

  before : (i : ℕ) → i < place → get_or between i 0 ≡ get_or buffer i 0
  before i l =
      let d = head in
      ap (λ (b : List ℕ). get_or b i 0) same_between
      ∙ get_or-append (take place buffer) (frame ++ drop (place + length frame) buffer) 0 i (omega arith)
      ∙ get_or-take place buffer i 0 l

  pub inside : (j : ℕ) → j < length frame → get_or between (place + j) 0 ≡ get_or frame j 0
  inside j l =
      ap (λ (b : List ℕ). get_or b (place + j) 0) same_between
      ∙ ap (λ (k : ℕ). get_or (take place buffer ++ (frame ++ drop (place + length frame) buffer)) (k + j) 0) (sym head)
      ∙ get_or-append-add (take place buffer) (frame ++ drop (place + length frame) buffer) j 0
      ∙ get_or-append frame (drop (place + length frame) buffer) 0 j l

  behind : (i : ℕ) → place + length frame ≤ i → get_or between i 0 ≡ get_or buffer i 0
  behind i l =
      let n = length (take place buffer ++ frame) in
      let e : n ≡ place + length frame = length-append (take place buffer) frame ∙ ap (λ (k : ℕ). k + length frame) head in
      let m : i ≡ n + (i - n) = omega arith in
      ap (λ (k : ℕ). get_or between k 0) m
      ∙ get_or-append-add (take place buffer ++ frame) (drop (place + length frame) buffer) (i - n) 0
      ∙ get_or-drop (place + length frame) buffer (i - n) 0
      ∙ ap (λ (k : ℕ). get_or buffer k 0) (omega arith)

-- what stays, whatever was built
module _ (form place count : ℕ) (buffer frame : List ℕ) where
  abbrev r : Built
  r = built_at form (length buffer) place (length frame) count

  kept : (n : ℕ) → length frame ≡ n → Kept r.answer buffer (placed r buffer place frame) place n
  kept n e =
      either (eqb r.answer 0)
      (λ y. let z = eqb-true r.answer 0 y in
      let h = done-fits form (length buffer) place (length frame) count z in
      rw (placed-there r buffer place frame z)
      (record {
        as_long = as_long buffer frame place h;
        refused = λ never. absurd (never z);
        before = before buffer frame place h;
        behind = λ i l. behind buffer frame place h i (omega arith);
      }))
      (λ f. rw (placed-none r buffer place frame (eqb-false r.answer 0 f))
      (record { as_long = refl; refused = λ never. refl; before = λ i l. refl; behind = λ i l. refl }))

  pub stored : r.answer ≡ 0 → (j : ℕ) → j < length frame → get_or (placed r buffer place frame) (place + j) 0 ≡ get_or frame j 0
  stored z j l =
      ap (λ (b : List ℕ). get_or b (place + j) 0) (placed-there r buffer place frame z)
      ∙ inside buffer frame place (done-fits form (length buffer) place (length frame) count z) j l

  pub first : r.answer ≡ 0 → 0 < length frame → get_or (placed r buffer place frame) place 0 ≡ get_or frame 0 0
  first z l = let e : place ≡ place + 0 = omega arith in ap (λ (k : ℕ). get_or (placed r buffer place frame) k 0) e ∙ stored z 0 l

-- the bytes of a write by their places
module _ (code : ℕ) (bytes : List ℕ) where
  pub frame_address : (check : Bool) → get_or (write_frame code bytes check) 0 0 ≡ 0xC0
  unfolding write_frame
  frame_address true = refl
  frame_address false = refl

  pub frame_code : (check : Bool) → get_or (write_frame code bytes check) 1 0 ≡ code
  unfolding write_frame
  frame_code true = refl
  frame_code false = refl

  frame_data : (check : Bool) (j : ℕ) → j < length bytes → get_or (write_frame code bytes check) (suc (suc j)) 0 ≡ get_or bytes j 0
  unfolding write_frame
  frame_data true j l = get_or-append bytes (pec (0xC0 ∷ code ∷ bytes) ∷ []) 0 j l
  frame_data false j l = refl

  frame_check : (check : Bool) → check ≡ true
      → get_or (write_frame code bytes check) (suc (suc (length bytes))) 0 ≡ pec (0xC0 ∷ code ∷ bytes)
  unfolding write_frame
  frame_check true e = get_or-append_seam (0xC0 ∷ code ∷ bytes) (pec (0xC0 ∷ code ∷ bytes)) [] 0
  frame_check false e = absurd (false≢true e)

two_more : (j : ℕ) → 2 + j ≡ suc (suc j)
two_more j = omega arith

pub writes_stored : WritesStored
unfolding WritesStored
writes_stored buffer place code bytes check =
    let form = write_form code (length bytes) in
    let frame = write_frame code bytes check in
    let size = frame_size code bytes check in
    let at = stored form place 0 buffer frame in (
      kept form place 0 buffer frame (write_size bytes check) size,
      λ z. record {
        address = first form place 0 buffer frame z (omega arith) ∙ frame_address code bytes check;
        code-byte = at z 1 (omega arith) ∙ frame_code code bytes check;
        data_bytes = λ j l. at z (2 + j) (omega arith) ∙ ap (λ (i : ℕ). get_or frame i 0) (two_more j) ∙ frame_data code bytes check j l;
        check_byte = λ e.
            at z (2 + length bytes) (rw (size, e) (omega arith)) ∙ ap (λ (i : ℕ). get_or frame i 0) (two_more (length bytes))
            ∙ frame_check code bytes check e;
      },
    )

pub reads_stored : ReadsStored
unfolding ReadsStored
reads_stored buffer place code check =
    let form = read_form code in
    let at = stored form place (read_count code check) buffer (read_header code) in (
      kept form place (read_count code check) buffer (read_header code) 3 refl,
      λ z. record {
        address = first form place (read_count code check) buffer (read_header code) z (omega arith);
        code-byte = at z 1 (omega arith);
        second_address = at z 2 (omega arith);
      },
    )
