-- `reads::data::read_stream` meets its contract.
-- Assumes nothing.
use Rattle.std.proofs.Common.{length, ap, arith}
use Rattle.reads.proofs.Lengths.{request_length}
use Rattle.reads.proofs.data.read_stream.Goals as goal

pub with_check-requires : goal.with_check-requires
with_check-requires c =
    let a = c.args in
    omega (arith, ap length c.request_data.ensures, request_length a.u a.p a.request)
