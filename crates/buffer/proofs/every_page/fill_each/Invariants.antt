-- `buffer::every_page::fill_each` meets its contract.
-- Assumes nothing.
use Rattle.buffer.proofs.Changing.{Walked}
use Rattle.buffer.proofs.every_page.fill_each.Given as goal

abbrev pub invariant-loop-i : goal.invariant-loop-i
invariant-loop-i g l = Walked (λ i p q. goal.F-post g l.of i q) l.initial.s l.i l.s
