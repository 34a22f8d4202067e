-- `lent::every::every` meets its contract.
-- Assumes nothing.
use Rattle.std.proofs.Common.{◌≡◌, ◌||◌, ◌++◌, take, drop, map}
use Rattle.laws.specs.Lists.{any_pair}
use Rattle.page.specs.Status.{risen}
use Rattle.writes.specs.Left.{page_left}
use Rattle.lent.proofs.every.every.Given as goal

abbrev pub invariant-loop-p : goal.invariant-loop-p
invariant-loop-p l = record {
  changed : l.pages ≡ map (page_left l.w) (take l.p-index l.initial.pages) ++ drop l.p-index l.initial.pages;
  found : (l.rose || any_pair risen (drop l.p-index l.initial.pages) (map (page_left l.w) (drop l.p-index l.initial.pages))) ≡ any_pair risen l.initial.pages (map (page_left l.w) l.initial.pages);
}
