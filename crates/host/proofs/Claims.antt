-- The whole of specs/Claims.antt.
-- Assumes nothing.
use Rattle.replies.proofs.Applies.{replies_apply}
use Rattle.totalizer.proofs.Applies.{takes_apply}
use Rattle.host.specs.Claims.{HostClaims}
use Rattle.host.proofs.Applies.{writes_apply, reads_apply, parses_apply}
use Rattle.host.proofs.Stored.{writes_stored, reads_stored}
use Rattle.host.proofs.Fields.{data_kinds, fields_read}

pub host_claims : HostClaims
host_claims =
    record {
      writes_apply = writes_apply;
      reads_apply = reads_apply;
      writes_stored = writes_stored;
      reads_stored = reads_stored;
      replies_apply = replies_apply;
      parses_apply = parses_apply;
      data_kinds = data_kinds;
      fields_read = fields_read;
      takes_apply = takes_apply;
    }
