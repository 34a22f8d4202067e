-- Bits latch: each present cause's bit is 1 after every call, and a bit falls by a listed clearing alone.
-- Assumes nothing.
use Prim.Native.Nat.{ℕ, ◌<◌}
use mathlib.Core.Path.{◌≡◌, sym, ap, ap₂, ◌∙◌}
use mathlib.Core.Bool.{Bool, true, false, not, ◌&&◌, ◌||◌, and-true, or-false, or-true, false≢true}
use mathlib.Core.List.{List}
use lib.ListN.{get_or}
use Rattle.laws.specs.Bits.{bit}
use Rattle.laws.proofs.Branches.{either}
use Rattle.page.specs.declared.Page.{Page}
use Rattle.page.specs.Causes.{settled, ticked}
use Rattle.page.specs.Latching.{status_bit, register_of, bit_of, caused}
use Rattle.page.proofs.Settled.{UpToDate, settled-bit, settled-caused, ticked-status, ticked-caused, register-lt, cause-bit}
use Rattle.device.specs.Device.{page_of}
use Rattle.history.specs.Run.{next, reached}
use Rattle.history.specs.Clearing.{clears, Falls}
use Rattle.history.specs.Tripping.{untrips}
use Rattle.history.specs.Retry.{rests}
use Rattle.history.specs.Latching.{Latched, Latches}
use Rattle.history.proofs.PageLeft.{PageLeft, kept, touched, timed, Changed}
use Rattle.history.proofs.PageAfter.{time_of, page-after}
use Rattle.history.proofs.Runs.{current}

pub latched : Latched
unfolding Latched
latched x cs i m hi hm e =
    let p = page_of (reached x cs) i in
    ((current x cs).page i hi).latched (register_of m) (bit_of m) (register-lt m hm) (cause-bit p m hm e)

module _ (p r : Page) (clear : ℕ → ℕ → Bool) (off : Bool) (rest : ℕ → Bool) (time : Bool) (j k : ℕ) (h : j < 4) where
  -- the bit of a page that was changed and brought up to date
  touched_bit : (q : Page) → r ≡ settled q → Changed p q clear off rest
      → status_bit r j k ≡ (status_bit p j k && not (clear j k) || caused r j k)
  touched_bit q e g =
      ap (λ (x : Page). status_bit x j k) e ∙ settled-bit q j k h
      ∙ ap₂ ◌||◌ (g.bits j k h) (sym (settled-caused q j k) ∙ ap (λ (x : Page). caused x j k) (sym e))

  -- a page that is up to date keeps its bits, each present cause having its own
  still_bit : UpToDate p → clear j k ≡ false → status_bit p j k ≡ (status_bit p j k && not (clear j k) || caused p j k)
  still_bit g n =
      rw (n, and-true (status_bit p j k))
      (either (caused p j k) (λ y. g.latched j k h y ∙ rw (y, or-true (status_bit p j k))) (λ n. rw (n, or-false (status_bit p j k))))

  -- a tick sets none
  ticked-bit : status_bit (ticked p) j k ≡ status_bit p j k
  ticked-bit = ap (λ (l : List ℕ). bit (get_or l j 0) k) (ticked-status p)

  left-bit : PageLeft p r clear off rest time → UpToDate p → status_bit r j k ≡ (status_bit p j k && not (clear j k) || caused r j k)
  left-bit (kept e s t) g = rw e (still_bit g (s.bits j k h))
  left-bit (timed e s t) g = rw (e, ticked-bit, ticked-caused p j k) (still_bit g (s.bits j k h))
  left-bit (touched q e c t) g = touched_bit q e c

  left-falls : PageLeft p r clear off rest time → status_bit p j k ≡ true → status_bit r j k ≡ false → clear j k ≡ true
  left-falls (kept e s t) b f = absurd (false≢true (sym f ∙ ap (λ (x : Page). status_bit x j k) e ∙ b))
  left-falls (timed e s t) b f = absurd (false≢true (sym f ∙ ap (λ (x : Page). status_bit x j k) e ∙ ticked-bit ∙ b))
  left-falls (touched q e t time) b f =
      either (clear j k) (λ y. y) (λ n. absurd (false≢true (sym f ∙ touched_bit q e t ∙ rw (b, n))))

pub latches : Latches
unfolding Latches
latches x cs c i j k hi hj =
    let d = reached x cs in
    let g = current x cs in
    left-bit (page_of d i) (page_of (next d c) i) (clears d c i) (untrips d c i) (rests d c i) (time_of d c) j k hj (page-after d i (rw g.whole hi) c) (g.page i hi)

pub falls : Falls
unfolding Falls
falls d c i j k hi hj =
    left-falls (page_of d i) (page_of (next d c) i) (clears d c i) (untrips d c i) (rests d c i) (time_of d c) j k hj (page-after d i hi c)
