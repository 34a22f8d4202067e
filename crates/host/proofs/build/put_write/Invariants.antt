-- `host::build::put_write` meets its contract: before byte i of the data those before it were stored.
-- Assumes nothing.
use Rattle.std.proofs.Common.{◌≡◌}
use Rattle.host.proofs.Places.{stored}
use Rattle.host.proofs.build.put_write.Given as goal

abbrev pub invariant-loop-i : goal.invariant-loop-i
invariant-loop-i l = l.out ≡ stored l.fn.out l.bytes l.code l.i
