-- The table of ticks, computed.
-- Assumes nothing.
use mathlib.Core.Path.{refl}
use Rattle.retry.specs.Response.{delay}
use Rattle.retry.specs.Machine.{hold, look, started, less_one, at_call, at_tick}
use Rattle.retry.specs.Steps.{after, run}
use Rattle.retry.specs.Table.{onwards, Table}

pub table : Table
unfolding delay hold look started less_one at_call at_tick after run onwards
table =
    record {
      h80 = refl;
      h87 = refl;
      h40 = refl;
      h41 = refl;
      h42 = refl;
      h88 = refl;
      h89 = refl;
      h8_a = refl;
      h90 = refl;
      h50 = refl;
      h_ba = refl;
      h_b8 = (refl, refl);
      h_b7 = (refl, refl, refl);
      h77 = (refl, refl, refl);
      h3_f = refl;
      h_c0 = refl;
      h_ff = refl;
      h48_gone = refl;
      h88_gone = refl;
      h90_anew = refl;
      h4_a_back = refl;
      h88_back = refl;
      page_ba = refl;
      page4_a = refl;
    }
