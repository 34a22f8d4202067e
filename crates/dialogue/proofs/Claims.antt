-- The whole of specs/Claims.antt.
-- Assumes nothing.
use Rattle.host.proofs.Claims.{host_claims}
use Rattle.dialogue.specs.Claims.{DialogueClaims}
use Rattle.dialogue.proofs.Inverse.{all_meant, exactly_one}
use Rattle.dialogue.proofs.Understood.{writes_understood, reads_understood}
use Rattle.dialogue.proofs.Heard.{replies_heard}
use Rattle.dialogue.proofs.Lent.{lent_understood, lent_heard}
use Rattle.dialogue.proofs.Streamed.{as_call, stream-understood, stream-heard, write_acked, read_acked}

pub dialogue_claims : DialogueClaims
dialogue_claims =
    record {
      host = host_claims;
      all_meant = all_meant;
      exactly_one = exactly_one;
      writes_understood = writes_understood;
      reads_understood = reads_understood;
      replies_heard = replies_heard;
      lent_understood = lent_understood;
      lent_heard = lent_heard;
      as_call = as_call;
      stream-understood = stream-understood;
      stream-heard = stream-heard;
      write_acked = write_acked;
      read_acked = read_acked;
    }
