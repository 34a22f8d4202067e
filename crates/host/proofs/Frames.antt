-- What is handed back, from plain facts of code, number of data and place; and how long the frames are.
-- Assumes nothing.
use Prim.Native.Nat.{ℕ, ◌+◌}
use mathlib.Core.Path.{◌≡◌, refl}
use mathlib.Core.Bool.{Bool, true, false, cond}
use mathlib.Core.List.{List, [], ◌∷◌, ◌++◌}
use native.Mathlib.Omega.{arith}
use lib.Dec.{ltb, leb}
use lib.ListN.{length, take, drop, length-append}
use borrow.Author.Tests.{ltb-false, eq-eqb, ne_eqb}
use Rattle.pec.specs.Pec.{pec}
use Rattle.command.specs.Table.{lookup}
use Rattle.replies.specs.Replies.{clocked_for}
use Rattle.host.specs.declared.build.Built.{Built}
use Rattle.host.specs.Build.{write_frame, number_answer, write_form, read_form, built, built_at, placed}

module _ (form room place n count : ℕ) where
  pub at_form : (form ≡ 0 → ⊥) → built_at form room place n count ≡ built form 0 0
  at_form h = rw (ne_eqb form 0 h)

  pub at_room : form ≡ 0 → leb (place + n) room ≡ false → built_at form room place n count ≡ built 26 0 0
  at_room h e = rw (eq-eqb form 0 h, e)

  pub at_done : form ≡ 0 → leb (place + n) room ≡ true → built_at form room place n count ≡ built 0 n count
  at_done h e = rw (eq-eqb form 0 h, e)

module _ (r : Built) (buffer : List ℕ) (place : ℕ) (frame : List ℕ) where
  pub placed-none : (r.answer ≡ 0 → ⊥) → placed r buffer place frame ≡ buffer
  placed-none h = rw (ne_eqb r.answer 0 h)

  pub placed-there : r.answer ≡ 0 → placed r buffer place frame ≡ take place buffer ++ frame ++ drop (place + length frame) buffer
  placed-there h = rw (eq-eqb r.answer 0 h)

-- a choice that comes to 0 though one side does not
pub only_yes : (b : Bool) (x y : ℕ) → (y ≡ 0 → ⊥) → cond b x y ≡ 0 → (b ≡ true) × (x ≡ 0)
only_yes true x y never h = (refl, h)
only_yes false x y never h = absurd (never h)

pub only_no : (b : Bool) (x y : ℕ) → (x ≡ 0 → ⊥) → cond b x y ≡ 0 → (b ≡ false) × (y ≡ 0)
only_no true x y never h = absurd (never h)
only_no false x y never h = (refl, h)

pub number_right : (k n : ℕ) → number_answer k n ≡ 0 → k ≡ n
unfolding number_answer
number_right k n h =
    let a = only_no (ltb k n) 5 (cond (ltb n k) 6 0) (λ e. omega arith) h in
    let b = only_no (ltb n k) 6 0 (λ e. omega arith) a.1 in
    let p = ltb-false k n a.0 in
    let q = ltb-false n k b.0 in
    omega arith

pub write_right : (code k : ℕ) → write_form code k ≡ 0 → ((lookup code).written ≡ true) × (k ≡ (lookup code).length)
unfolding write_form
write_right code k h =
    let a = only_yes (lookup code).written (number_answer k (lookup code).length) 3 (λ e. omega arith) h in
    (a.0, number_right k (lookup code).length a.1)

pub read_right : (code : ℕ) → read_form code ≡ 0 → (lookup code).read ≡ true
unfolding read_form
read_right code h = (only_yes (lookup code).read 0 3 (λ e. omega arith) h).0

pub frame_length : (code : ℕ) (bytes : List ℕ) (check : Bool) → length (write_frame code bytes check) ≡ 2 + clocked_for (length bytes) check
unfolding write_frame clocked_for
frame_length code bytes true = let e = length-append bytes (pec (0xC0 ∷ code ∷ bytes) ∷ []) in omega arith
frame_length code bytes false = omega arith
