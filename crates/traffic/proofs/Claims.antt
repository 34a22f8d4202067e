-- The whole of specs/Claims.antt.
-- Assumes nothing.
use Rattle.bus.proofs.Fields.{valid_fields}
use Rattle.bus.proofs.Nacks.{absent_exactly, nacked_first, nacked_second}
use Rattle.bus.proofs.Orders.{every_order, orders_lead, breach_lasts}
use Rattle.bus.proofs.Places.{no_arrow}
use Rattle.stream.proofs.Claims.{written, read_claim, every_end, acked_first_lem, acked_second_lem, breach_claim, no_start, dropped, fifteen}
use Rattle.stream.proofs.Parts.{part_stays}
use Rattle.stream.proofs.Prefix.{write_by_eleven, read_by_eleven}
use Rattle.traffic.specs.Claims.{StreamClaims}
use Rattle.traffic.proofs.Breach.{breach_between}
use Rattle.traffic.proofs.Buffers.{decodes, events-decode, calls_decode, power_decodes, length-stays, gives_same, left_alone, wrong_length, buffer_runs, always_ready}
use Rattle.traffic.proofs.Energy.{stream-energy}
use Rattle.traffic.proofs.EnergyExample.{reads_example}
use Rattle.traffic.proofs.Fifteen.{fifteen-exactly}
use Rattle.traffic.proofs.Nacks.{nack_exactly}
use Rattle.traffic.proofs.Occurs.{phase_occurs, count_occurs, clocked-occurs, bytes_occur, reply-occurs}
use Rattle.traffic.proofs.Runs.{no_fifteen, as_run, same_outcomes, until_stop}
use Rattle.traffic.proofs.Traffic.{writes_between, reads_between, acks_between}
use Rattle.traffic.proofs.Transactions.{over-buffer}
use Rattle.traffic.proofs.Underway.{by_orders}
use Rattle.traffic.proofs.Whole.{as_calls, transactions_alike, reaches}

pub claims : StreamClaims
claims =
    record {
      write_by_eleven = write_by_eleven;
      read_by_eleven = read_by_eleven;
      written = written;
      read = read_claim;
      every_end = every_end;
      over-buffer = over-buffer;
      absent_exactly = absent_exactly;
      nacked_first = nacked_first;
      nacked_second = nacked_second;
      acked_first_lem = acked_first_lem;
      acked_second_lem = acked_second_lem;
      nack_exactly = nack_exactly;
      every_order = every_order;
      orders_lead = orders_lead;
      breach_lasts = breach_lasts;
      no_arrow = no_arrow;
      breach = breach_claim;
      no_start = no_start;
      breach_between = breach_between;
      dropped = dropped;
      until_stop = until_stop;
      writes_between = writes_between;
      reads_between = reads_between;
      acks_between = acks_between;
      valid_fields = valid_fields;
      fifteen-exactly = fifteen-exactly;
      fifteen = fifteen;
      part_stays = part_stays;
      no_fifteen = no_fifteen;
      phase_occurs = phase_occurs;
      count_occurs = count_occurs;
      clocked-occurs = clocked-occurs;
      bytes_occur = bytes_occur;
      reply-occurs = reply-occurs;
      by_orders = by_orders;
      as_calls = as_calls;
      transactions_alike = transactions_alike;
      reaches = reaches;
      as_run = as_run;
      same_outcomes = same_outcomes;
      stream-energy = stream-energy;
      reads_example = reads_example;
      decodes = decodes;
      events-decode = events-decode;
      calls_decode = calls_decode;
      power_decodes = power_decodes;
      length-stays = length-stays;
      gives_same = gives_same;
      left_alone = left_alone;
      wrong_length = wrong_length;
      buffer_runs = buffer_runs;
      always_ready = always_ready;
    }
