-- The whole of specs/Claims.antt.
-- Assumes nothing.
use Rattle.retry.specs.Claims.{RetryClaims}
use Rattle.retry.proofs.Alone.{each-alone}
use Rattle.retry.proofs.Alike.{zero_as_one}
use Rattle.retry.proofs.AtMost.{at_most}
use Rattle.retry.proofs.Claim.{lets_on_lem, lets_on-at, trips-at, latest}
use Rattle.retry.proofs.Looks.{gone, all_tries, no_machine, blind, looks}
use Rattle.retry.proofs.Shapes.{for_ever, no_retry, stays-tripped, up-to_date}
use Rattle.retry.proofs.Table.{table}
use Rattle.retry.proofs.Values.{stays-valid, valid_occurs}

pub retry_claims : RetryClaims
retry_claims =
    record {
      lets_on_lem = lets_on_lem;
      lets_on-at = lets_on-at;
      trips-at = trips-at;
      latest = latest;
      at_most = at_most;
      zero_as_one = zero_as_one;
      for_ever = for_ever;
      no_retry = no_retry;
      stays-tripped = stays-tripped;
      up-to_date = up-to_date;
      gone = gone;
      all_tries = all_tries;
      no_machine = no_machine;
      blind = blind;
      looks = looks;
      table = table;
      each-alone = each-alone;
      stays-valid = stays-valid;
      valid_occurs = valid_occurs;
    }
