-- The reply of a valid state, by the page that it shows.
-- Assumes nothing.
use Prim.Native.Nat.{ℕ}
use mathlib.Core.Path.{◌≡◌}
use mathlib.Core.Bool.{true}
use mathlib.Core.List.{List}
use Rattle.page.specs.declared.Page.{Page}
use Rattle.device.specs.declared.Device.{Device}
use Rattle.device.specs.Device.{device_valid, page_shown}
use Rattle.device.specs.Step.{read, answer_of, answered, sent, step}
use Rattle.stream.specs.Stream.{page_reply}

pub reply-shown : (d : Device) (p : Page) (header : List ℕ) → device_valid d ≡ true → p ≡ page_shown d
    → (step d (read header 8)).reply ≡ page_reply d.unpaged p header
unfolding step sent page_reply answered answer_of
reply-shown d p header v is = rw (is, v)
