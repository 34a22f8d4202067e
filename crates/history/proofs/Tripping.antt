-- A present cause that shuts down has tripped its page, and an accepted OPERATION 00h or 40h alone untrips it.
-- Assumes nothing.
use Prim.Native.Nat.{ℕ}
use mathlib.Core.Path.{◌≡◌, sym, ap, ◌∙◌}
use mathlib.Core.Bool.{Bool, true, false, not, ◌&&◌, ◌||◌, and-true, or-true, or-false, false≢true}
use Rattle.laws.proofs.Branches.{either}
use Rattle.page.specs.declared.Page.{Page}
use Rattle.page.specs.Causes.{shut_down}
use Rattle.page.proofs.Settled.{UpToDate, current-ready, cause-shuts, settled-trip, ticked-trip, settled-stays, ticked-stays}
use Rattle.device.specs.Device.{page_of}
use Rattle.history.specs.Run.{next, reached}
use Rattle.history.specs.Clearing.{clears}
use Rattle.history.specs.Retry.{rests}
use Rattle.history.specs.Tripping.{untrips, Tripped, StaysTripped, Trips}
use Rattle.history.proofs.PageLeft.{PageLeft, kept, touched, timed}
use Rattle.history.proofs.PageAfter.{time_of, page-after}
use Rattle.history.proofs.Runs.{current}

pub tripped : Tripped
unfolding Tripped
tripped x cs i m hi hm e r =
    let g = (current x cs).page i hi in g.tripped (cause-shuts (page_of (reached x cs) i) g m hm e r)

module _ (p r : Page) (clear : ℕ → ℕ → Bool) (off : Bool) (rest : ℕ → Bool) (time : Bool) where
  -- a page that is up to date stays as tripped as it is
  still_trip : UpToDate p → off ≡ false → p.tripped ≡ (p.tripped && not off || shut_down p)
  still_trip g n =
      rw (n, and-true p.tripped)
      (either (shut_down p) (λ y. g.tripped y ∙ rw (y, or-true p.tripped)) (λ n. rw (n, or-false p.tripped)))

  left-trip : PageLeft p r clear off rest time → UpToDate p → r.tripped ≡ (p.tripped && not off || shut_down r)
  left-trip (kept e s t) g = rw e (still_trip g s.trip)
  left-trip (timed e s t) g = rw (e, s.trip, and-true p.tripped) (ticked-trip p (current-ready p g))
  left-trip (touched q e c t) g = rw e (settled-trip q (c.ready (current-ready p g)) ∙ rw c.trip)

  left-stays : PageLeft p r clear off rest time → p.tripped ≡ true → r.tripped ≡ false → off ≡ true
  left-stays (kept e s t) b f = absurd (false≢true (sym f ∙ ap (λ (x : Page). x.tripped) e ∙ b))
  left-stays (timed e s t) b f = absurd (false≢true (sym f ∙ ap (λ (x : Page). x.tripped) e ∙ ticked-stays p b))
  left-stays (touched q e c t) b f =
      either off (λ y. y)
      (λ n. absurd (false≢true (sym f ∙ ap (λ (x : Page). x.tripped) e ∙ settled-stays q (c.trip ∙ rw (b, n)))))

pub stays-tripped : StaysTripped
unfolding StaysTripped
stays-tripped d c i h =
    left-stays (page_of d i) (page_of (next d c) i) (clears d c i) (untrips d c i) (rests d c i) (time_of d c) (page-after d i h c)

pub trips : Trips
unfolding Trips
trips x cs c i h =
    let d = reached x cs in
    let g = current x cs in
    left-trip (page_of d i) (page_of (next d c) i) (clears d c i) (untrips d c i) (rests d c i) (time_of d c) (page-after d i (rw g.whole h) c) (g.page i h)
