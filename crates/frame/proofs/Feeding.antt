-- Laws of characters fed one after the other: up to the first LF, and in two parts.
-- Assumes nothing.
use Prim.Native.Nat.{ℕ, suc}
use mathlib.Core.Path.{◌≡◌, refl, sym, ap, ◌∙◌}
use mathlib.Core.Bool.{true, false, false≢true}
use mathlib.Core.List.{List, [], ◌∷◌, ◌++◌, append_assoc}
use lib.Dec.{eqb}
use lib.ListN.{length, take, set, length-set}
use lib.Seq.{sets}
use Rattle.laws.proofs.Branches.{either}
use Rattle.device.specs.declared.Device.{Device}
use Rattle.frame.specs.Gather.{up_to, ends, count_of, held_in}
use Rattle.frame.specs.Line.{line_outcome, text_of}
use Rattle.frame.specs.Blocks.{Fed, fed, after, feed}
use Rattle.frame.proofs.Gathering.{count_none, count_more, keep_more}

-- two texts one after the other
pub after-after : (a b : List ℕ) (f : Fed) → after a (after b f) ≡ after (a ++ b) f
after-after a b f = rw (append_assoc a b f.text)

-- no LF: all of it is gathered
pub feed-gathers : (s : List ℕ) (d : Device) (line : List ℕ) (n : ℕ) → ends s ≡ false
    → feed d line n s ≡ fed d (sets line n (up_to s)) (count_of (length line) n (length (up_to s))) []
unfolding feed up_to ends
feed-gathers [] d line n e = rw count_none
feed-gathers (c ∷ s) d line n e =
    either (eqb c 10)
    (λ t. absurd (false≢true (sym (rw t at e))))
    (λ f.
    rw f (rw (length-set, count_more, keep_more) at (feed-gathers s d (set line n c) (count_of (length line) n 1) (rw f at e))))

-- up to the first LF: the line is gathered and run
pub feed-line : (s : List ℕ) (d : Device) (line : List ℕ) (n : ℕ) → ends s ≡ true
    → feed d line n (take (suc (length (up_to s))) s)
    ≡ fed (line_outcome d (held_in (sets line n (up_to s)) (count_of (length line) n (length (up_to s))))).done.device
    (sets line n (up_to s)) 0
    (text_of (line_outcome d (held_in (sets line n (up_to s)) (count_of (length line) n (length (up_to s))))) ++ [])
unfolding feed up_to ends
feed-line [] d line n e = absurd (false≢true e)
feed-line (c ∷ s) d line n e =
    either (eqb c 10) (λ t. rw (t, count_none))
    (λ f. rw f (rw (length-set, count_more, keep_more) at (feed-line s d (set line n c) (count_of (length line) n 1) (rw f at e))))

-- in two parts
pub feed-append : (s : List ℕ) (d : Device) (line : List ℕ) (n : ℕ) (t : List ℕ)
    → feed d line n (s ++ t) ≡ after (feed d line n s).text (feed (feed d line n s).device (feed d line n s).line (feed d line n s).length t)
unfolding feed
feed-append [] d line n t = refl
feed-append (c ∷ s) d line n t =
    let r = line_outcome d (held_in line n) in
    let f = feed r.done.device line 0 s in
    either (eqb c 10)
    (λ e.
    rw e
    (ap (after (text_of r)) (feed-append s r.done.device line 0 t)
    ∙ after-after (text_of r) f.text (feed f.device f.line f.length t)))
    (λ e. rw e (feed-append s d (set line n c) (count_of (length line) n 1) t))
