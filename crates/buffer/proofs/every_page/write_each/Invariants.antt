-- `buffer::every_page::write_each` meets its contract.
-- Assumes nothing.
use Rattle.std.proofs.Common.{◌≡◌, ◌||◌, drop, map}
use Rattle.laws.specs.Lists.{any_pair}
use Rattle.page.specs.Status.{risen}
use Rattle.writes.specs.Left.{page_left}
use Rattle.layout.specs.Layout.{pages_in}
use Rattle.buffer.proofs.Changing.{Walked}
use Rattle.buffer.proofs.every_page.write_each.Given as goal

abbrev pub invariant-loop-i : goal.invariant-loop-i
invariant-loop-i l =
    Walked (λ i p q. q ≡ page_left l.w p) l.initial.s l.i l.s
    × ((l.rose || any_pair risen (drop l.i (pages_in l.initial.s)) (map (page_left l.w) (drop l.i (pages_in l.initial.s))))
    ≡ any_pair risen (pages_in l.initial.s) (map (page_left l.w) (pages_in l.initial.s)))
