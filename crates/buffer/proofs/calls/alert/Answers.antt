-- `buffer::calls::alert` meets its contract.
-- Assumes nothing.
use borrow.Author.Tests.{eq-eqb, ne_eqb}
use Rattle.std.proofs.Common.{length, ap, sym, ◌≡◌, ◌∙◌}
use Rattle.layout.specs.Layout.{size}
use Rattle.layout.specs.State.{device_of}
use Rattle.layout.proofs.Decoded.{unpaged-of}
use Rattle.buffer.proofs.Held.{byte_is}
use Rattle.buffer.specs.Buffer.{buffer_alert}
use Rattle.buffer.proofs.calls.alert.Goals as goal

pub returns-in-Some : goal.returns-in-Some
unfolding buffer_alert
returns-in-Some c =
    let h = c.in-Some.ensures.cases in
    let u : c.unpaged_of.result ≡ (device_of c.args.s.now).unpaged = c.unpaged_of.ensures ∙ sym (unpaged-of _) ∙ ap (λ s. (device_of s).unpaged) h.same in
    rw (eq-eqb (length c.args.s.now) size h.long, ← u) (byte_is _ _ c.from.ensures)

pub returns-in-None : goal.returns-in-None
unfolding buffer_alert
returns-in-None c = rw (ne_eqb (length c.args.s.now) size c.in-None.ensures.cases)
