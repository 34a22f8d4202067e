-- The whole of specs/Claims.antt.
-- Assumes nothing.
use Rattle.writes.proofs.Accepted.{accepted}
use Rattle.device.proofs.Touches.{pages_stay}
use Rattle.retry.proofs.Claims.{retry_claims}
use Rattle.history.specs.Claims.{Claims}
use Rattle.history.proofs.Alert.{alert_rises, alert_cleared, alert_answered}
use Rattle.history.proofs.Cml.{latches-cml, falls-cml}
use Rattle.history.proofs.Effects.{effects}
use Rattle.history.proofs.Energy.{totals-trusted}
use Rattle.history.proofs.Latching.{latched, latches, falls}
use Rattle.history.proofs.Outcomes.{refused-call, takes_effect}
use Rattle.history.proofs.ReadBack.{stored-codes, written_back, write_then_read, measured-back}
use Rattle.history.proofs.Refusals.{unchanged}
use Rattle.history.proofs.Retry.{tick_quiet, machine_moves, stays-down, lets_on-again, lets_on-by_ticks, trips-by_ticks, at_most}
use Rattle.history.proofs.Occurs.{machine_occurs}
use Rattle.history.proofs.Runs.{reached-whole}
use Rattle.history.proofs.Tripping.{tripped, stays-tripped, trips}
use Rattle.history.proofs.AlikePages.{supply_alike}
use Rattle.history.proofs.Warnings.{stay_alike, warn_limits_aside}
use Rattle.history.proofs.WarningReplies.{reply-alike}
use Rattle.history.proofs.Valid.{fifteen, reached-valid, no_fifteen}
use Rattle.page.proofs.Presence.{present-exactly}
use Rattle.page.proofs.Supplies.{supplies-exactly}
use Rattle.history.proofs.Formats.{formats_stay}
use Rattle.history.proofs.Presence.{present-means}
use Rattle.history.proofs.Supplies.{held-off, supplies-asked}
use Rattle.history.proofs.PowerOn.{power_on-quiet}
use Rattle.page.proofs.ValidFields.{page-valid-by_field}
use Rattle.unpaged.proofs.ValidFields.{unpaged-valid-by_field}
use Rattle.writes.proofs.Shows.{present-shows}
use Rattle.reads.proofs.Gives.{reads_give, alert_replies}
use Rattle.totalizer.proofs.Applies.{takes_apply}
use Rattle.history.proofs.EnergyExample.{copies_occur}
use Rattle.history.proofs.ValidFields.{fifteen-by_field}
use Rattle.history.proofs.EveryPage.{as_selected, paged-agrees}
use Rattle.history.proofs.PowerOnReads.{power_on-reads}

pub claims : Claims
claims =
    record {
      fifteen = fifteen;
      reached-whole = reached-whole;
      reached-valid = reached-valid;
      no_fifteen = no_fifteen;
      refused = refused-call;
      unchanged = unchanged;
      pages_stay = pages_stay;
      effects = effects;
      accepted = accepted;
      takes_effect = takes_effect;
      stored-codes = stored-codes;
      written_back = written_back;
      write_then_read = write_then_read;
      measured-back = measured-back;
      falls = falls;
      falls-cml = falls-cml;
      latched = latched;
      latches = latches;
      latches-cml = latches-cml;
      tripped = tripped;
      stays-tripped = stays-tripped;
      trips = trips;
      tick_quiet = tick_quiet;
      stays-down = stays-down;
      lets_on-again = lets_on-again;
      lets_on-by_ticks = lets_on-by_ticks;
      machine = retry_claims;
      machine_moves = machine_moves;
      trips-by_ticks = trips-by_ticks;
      at_most = at_most;
      machine_occurs = machine_occurs;
      stay_alike = stay_alike;
      reply-alike = reply-alike;
      warn_limits_aside = warn_limits_aside;
      supply_alike = supply_alike;
      alert_rises = alert_rises;
      alert_cleared = alert_cleared;
      alert_answered = alert_answered;
      totals-trusted = totals-trusted;
      present-exactly = present-exactly;
      formats_stay = formats_stay;
      present-means = present-means;
      supplies-exactly = supplies-exactly;
      held-off = held-off;
      supplies-asked = supplies-asked;
      power_on-quiet = power_on-quiet;
      fifteen-by_field = fifteen-by_field;
      page-valid-by_field = page-valid-by_field;
      unpaged-valid-by_field = unpaged-valid-by_field;
      reads_give = reads_give;
      alert_replies = alert_replies;
      power_on-reads = power_on-reads;
      present-shows = present-shows;
      as_selected = as_selected;
      paged-agrees = paged-agrees;
      copies_occur = copies_occur;
      takes_apply = takes_apply;
    }
