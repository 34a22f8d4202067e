-- What is handed back for a frame: laws for `told`, and the call that a frame names.
-- Assumes nothing.
use Prim.Native.Nat.{ℕ, ◌-◌, ◌≤◌}
use mathlib.Core.Path.{◌≡◌, refl}
use mathlib.Core.Bool.{Bool, true, false, ◌&&◌}
use mathlib.Core.List.{List, [], ◌∷◌}
use native.Mathlib.Omega.{arith}
use lib.ListN.{length, take, drop, get_or, length-drop}
use lib.Seq.{take_all}
use lib.Dec.{eqb, leb}
use borrow.Author.Tests.{le-leb, ne_eqb, leb-true, eqb-true}
use Rattle.laws.proofs.Branches.{either}
use Rattle.writes.specs.Asked.{word_of}
use Rattle.device.specs.declared.Device.{Device}
use Rattle.device.specs.declared.Done.{Done}
use Rattle.device.specs.Step.{Call, Result, step, write, read, measure, sample, alert_response, tick}
use Rattle.frame.specs.declared.LineDone.{LineDone}
use Rattle.frame.specs.Frame.{bad, call, framed, frame_of}
use Rattle.frame.specs.Line.{result, Told}

-- a part to the end is what is dropped to
pub part_to_end : (s : List ℕ) (k : ℕ) → take (length s - k) (drop k s) ≡ drop k s
part_to_end s k = take_all (length s - k) (drop k s) (simp length-drop (omega arith))

module _ {out : List ℕ} {l : LineDone} {out' : List ℕ} where
  -- what a call left, told with its reply
  pub told_as : {r : Result} {e : Done} {x : List ℕ} → e ≡ r.done → x ≡ r.reply → Told (result e x) out l out' → Told r out l out'
  told_as p q t = rw (p, q) at t

  -- and of a call that takes a reply buffer of k bytes
  pub told_reply : (d : Device) {e : Done} {x : List ℕ} (f : ℕ → Call) (n k : ℕ) → e ≡ (step d (f k)).done → x ≡ (step d (f k)).reply
      → Told (result e x) out l out' → k ≡ n → Told (step d (f n)) out l out'
  told_reply d f n k p q t h = rw h at (told_as {r = step d (f k)} p q t)

module _ (b : List ℕ) where
  pub is-write : get_or b 0 0 ≡ 1 → frame_of b ≡ call (write (drop 1 b))
  unfolding frame_of framed
  is-write e = rw e

  pub is-read : get_or b 0 0 ≡ 2 → 2 ≤ length b → frame_of b ≡ call (read (drop 2 b) (get_or b 1 0))
  unfolding frame_of framed
  is-read e h = rw (e, le-leb 2 (length b) h)

  pub is-measure : get_or b 0 0 ≡ 3 → length b ≡ 5 → frame_of b ≡ call (measure (get_or b 1 0) (get_or b 2 0) (word_of (get_or b 3 0) (get_or b 4 0)))
  unfolding frame_of framed
  is-measure e h = rw (e, h)

  pub is-sample : get_or b 0 0 ≡ 4 → length b ≡ 3 → frame_of b ≡ call (sample (word_of (get_or b 1 0) (get_or b 2 0)))
  unfolding frame_of framed
  is-sample e h = rw (e, h)

  pub is-alert_response : get_or b 0 0 ≡ 5 → length b ≡ 2 → frame_of b ≡ call (alert_response (get_or b 1 0))
  unfolding frame_of framed
  is-alert_response e h = rw (e, h)

  pub is-tick : get_or b 0 0 ≡ 7 → length b ≡ 1 → frame_of b ≡ call tick
  unfolding frame_of framed
  is-tick e h = rw (e, h)

-- no frame: of each kind of call the first byte or the number of bytes is another
not_both : (x k : ℕ) (b : Bool) → (x ≡ k → b ≡ true → ⊥) → (eqb x k && b) ≡ false
not_both x k b h =
    either (eqb x k) (λ e. either b (λ f. absurd (h (eqb-true x k e) f)) (λ f. rw (e, f))) (λ e. rw e)

pub is_none : (b : List ℕ) → (get_or b 0 0 ≡ 1 → 1 ≤ length b → ⊥) → (get_or b 0 0 ≡ 2 → 2 ≤ length b → ⊥)
    → (get_or b 0 0 ≡ 3 → length b ≡ 5 → ⊥) → (get_or b 0 0 ≡ 4 → length b ≡ 3 → ⊥) → (get_or b 0 0 ≡ 5 → length b ≡ 2 → ⊥)
    → (get_or b 0 0 ≡ 7 → length b ≡ 1 → ⊥) → frame_of b ≡ bad
unfolding frame_of framed
is_none [] w r m s a t = refl
is_none (x ∷ b) w r m s a t =
    let n = length (x ∷ b) in
    rw (
      ne_eqb x 1 (λ e. w e (omega arith)),
      not_both x 2 (leb 2 n) (λ e f. r e (leb-true 2 n f)),
      not_both x 3 (eqb n 5) (λ e f. m e (eqb-true n 5 f)),
      not_both x 4 (eqb n 3) (λ e f. s e (eqb-true n 3 f)),
      not_both x 5 (eqb n 2) (λ e f. a e (eqb-true n 2 f)),
      not_both x 7 (eqb n 1) (λ e f. t e (eqb-true n 1 f)),
    )
