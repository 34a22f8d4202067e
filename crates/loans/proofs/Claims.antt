-- The whole of specs/Claims.antt.
-- Assumes nothing.
use Rattle.history.proofs.Claims.{claims}
use Rattle.loans.specs.Claims.{LentClaims}
use Rattle.loans.proofs.Alike.{answer-alike, reply-alike, power_on-alike, power_on-by_alike, supplies-alike}
use Rattle.loans.proofs.Changes.{fifteen-exactly, records_stay, fifteen-leaves, fifteen-replies, power_on-leaves, power_on-by_leaves}
use Rattle.loans.proofs.Runs.{refused-starts, strays_drop_out, carries_over, lent_energy}

pub lent_claims : LentClaims
lent_claims =
    record {
      answer-alike = answer-alike;
      reply-alike = reply-alike;
      power_on-alike = power_on-alike;
      power_on-by_alike = power_on-by_alike;
      supplies-alike = supplies-alike;
      fifteen-exactly = fifteen-exactly;
      fifteen-leaves = fifteen-leaves;
      fifteen-replies = fifteen-replies;
      power_on-leaves = power_on-leaves;
      power_on-by_leaves = power_on-by_leaves;
      records_stay = records_stay;
      refused-starts = refused-starts;
      strays_drop_out = strays_drop_out;
      runs = claims;
      carries_over = carries_over;
      lent_energy = lent_energy;
    }
