-- `device::steps::written` meets its contract.
-- Assumes nothing.
use Rattle.std.proofs.Common.{◌≡◌, length}
use Rattle.laws.specs.Lists.{map_at, any_pair}
use Rattle.page.specs.Status.{risen}
use Rattle.writes.specs.Left.{page_left}
use Rattle.device.proofs.Range.{within}
use Rattle.device.proofs.steps.written.Given as goal

abbrev pub invariant-loop-k : goal.invariant-loop-k
invariant-loop-k l =
    record {
      unpaged : l.d.unpaged ≡ l.fn.d.unpaged;
      whole : length l.d.pages ≡ 8;
      changed : l.d.pages ≡ map_at (within l.initial.k l.k) (page_left l.w) l.fn.d.pages;
      rose : l.rose ≡ any_pair risen l.fn.d.pages l.d.pages;
    }
