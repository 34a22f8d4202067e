-- The answers are the lowest that apply.
-- Assumes nothing.
use Prim.Native.Nat.{ℕ, ◌+◌}
use mathlib.Core.Path.{◌≡◌, refl, ap, ◌∙◌}
use mathlib.Core.Bool.{Bool, true, false, cond, not}
use mathlib.Core.List.{List}
use native.Mathlib.Omega.{arith}
use lib.Dec.{ltb, leb, eqb}
use lib.ListN.{length}
use borrow.Author.Tests.{leb-true, leb-false, lt-ltb, le-ltb}
use Rattle.laws.proofs.Branches.{either}
use Rattle.command.specs.Table.{lookup}
use Rattle.replies.specs.Replies.{clocked_for}
use Rattle.replies.specs.Applies.{RepliesApply}
use Rattle.replies.proofs.Applies.{replies_apply}
use Rattle.host.specs.declared.build.Built.{Built}
use Rattle.host.specs.Build.{write_frame, read_count, number_answer, write_form, read_form, built}
use Rattle.host.specs.Parse.{is_account, parse_answer}
use Rattle.host.specs.Applies.{due, write_size, given, WritesApply, ReadsApply, ParsesApply}
use Rattle.host.proofs.Frames.{frame_length}

-- to end within the room, and to end behind it
over : (n room : ℕ) → leb n room ≡ not (ltb room n)
over n room =
    either (leb n room)
    (λ y. let h = leb-true n room y in rw (y, le-ltb room n (omega arith)))
    (λ f. let h = leb-false n room f in rw (f, lt-ltb room n (omega arith)))

pub frame_size : (code : ℕ) (bytes : List ℕ) (check : Bool) → length (write_frame code bytes check) ≡ write_size bytes check
unfolding clocked_for
frame_size code bytes true = frame_length code bytes true ∙ omega arith
frame_size code bytes false = frame_length code bytes false ∙ omega arith

count_size : (code : ℕ) (check : Bool) → read_count code check ≡ cond check (due code + 1) (due code)
unfolding read_count clocked_for
count_size code true = refl
count_size code false = omega arith

-- the choices of the two chains, by every test
module _ (n count : ℕ) where
  -- what the definitions hand back with these answers for the form and for the place
  abbrev back : ℕ → ℕ → Built
  back form place = cond (eqb form 0) (cond (eqb place 0) (built 0 n count) (built place 0 0)) (built form 0 0)

  write_chain : (w few many outside : Bool)
      → back (cond w (cond few 5 (cond many 6 0)) 3) (cond (not outside) 0 26)
      ≡ given (cond (not w) 3 (cond few 5 (cond many 6 (cond outside 26 0)))) n count
  write_chain false few many outside = refl
  write_chain true true many outside = refl
  write_chain true false true outside = refl
  write_chain true false false true = refl
  write_chain true false false false = refl

  read_chain : (r outside : Bool) → back (cond r 0 3) (cond (not outside) 0 26) ≡ given (cond (not r) 3 (cond outside 26 0)) n count
  read_chain false outside = refl
  read_chain true true = refl
  read_chain true false = refl

pub writes_apply : WritesApply
unfolding WritesApply write_form number_answer
writes_apply room place code bytes check =
    let n = write_size bytes check in
    rw (frame_size code bytes check, over (place + n) room)
    (write_chain n 0 (lookup code).written (ltb (length bytes) (due code)) (ltb (due code) (length bytes)) (ltb room (place + n)))

pub reads_apply : ReadsApply
unfolding ReadsApply read_form
reads_apply room place code check =
    rw (count_size code check, over (place + 3) room)
    (read_chain 3 (cond check (due code + 1) (due code)) (lookup code).read (ltb room (place + 3)))

pub parses_apply : ParsesApply
unfolding ParsesApply parse_answer is_account RepliesApply
parses_apply code check s =
    ap (λ (x : ℕ). cond (lookup code).read x 3) (replies_apply code (due code) check (eqb code 0x86) s) ∙ turn (lookup code).read _
  where
    turn : (r : Bool) (d : ℕ) → cond r d 3 ≡ cond (not r) 3 d
    turn true d = refl
    turn false d = refl
