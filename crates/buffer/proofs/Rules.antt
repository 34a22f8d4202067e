-- Power-on gives the arrays of a page the lengths of the code's arrays, and every rule keeps them.
-- Assumes nothing.
use Prim.Native.Nat.{ℕ, ◌%◌}
use mathlib.Core.Path.{refl, ap, ◌∙◌}
use mathlib.Core.Bool.{cond}
use mathlib.Core.List.{List}
use lib.ListN.{length, length-set}
use Rattle.laws.proofs.Branches.{cond-apply, cond_same}
use Rattle.cause.specs.Causes.{causes, warnings}
use Rattle.retry.specs.Machines.{all_at_call, all_at_tick}
use Rattle.page.specs.declared.Page.{Page}
use Rattle.page.specs.Page.{resting, power_on_page}
use Rattle.page.specs.Choice.{chosen_limits, chosen_page}
use Rattle.page.specs.Causes.{settled, ticked, moved, raised}
use Rattle.page.specs.Settings.{switches_off, set_operation, set_vout_command, set_limit, set_response, set_measurement, clear_bits}
use Rattle.writes.specs.declared.asked.Setting.{Setting}
use Rattle.writes.specs.declared.asked.Write.{Write}
use Rattle.writes.specs.Left.{applied, changed, cleared, page_left}
use Rattle.layout.specs.Layout.{choice_form}
use Rattle.layout.proofs.Shapes.{Shape}

pub power_on-shape : Shape power_on_page
unfolding power_on_page causes warnings
power_on-shape = record { limits = refl; responses = refl; machines = refl; words = refl; measured = refl; status = refl; formats = refl }

-- a page by a choice that stands in a list of bytes
pub chosen_shape : (s : List ℕ) (o : ℕ) → Shape (chosen_page (choice_form.get s o))
unfolding choice_form chosen_page chosen_limits power_on_page causes warnings
chosen_shape s o = record { limits = refl; responses = refl; machines = refl; words = refl; measured = refl; status = refl; formats = refl }

module _ (p : Page) (h : Shape p) where
  pub settled-shape : Shape (settled p)
  unfolding settled moved raised all_at_call
  settled-shape = record { limits = h.limits; responses = h.responses; machines = refl; words = h.words; measured = h.measured; status = refl; formats = h.formats }

  pub ticked-shape : Shape (ticked p)
  unfolding ticked moved all_at_tick
  ticked-shape = record { limits = h.limits; responses = h.responses; machines = refl; words = h.words; measured = h.measured; status = h.status; formats = h.formats }

  pub measured-shape : (q w : ℕ) → Shape (set_measurement p q w)
  unfolding set_measurement
  measured-shape q w = record {
    limits = h.limits;
    responses = h.responses;
    machines = h.machines;
    words = length-set p.words (q % 4) w ∙ h.words;
    measured = length-set p.measured (q % 4) _ ∙ h.measured;
    status = h.status;
    formats = h.formats;
  }

  applied-shape : (s : Setting) → Shape (applied s p)
  unfolding applied set_operation set_vout_command set_limit set_response
  applied-shape (Setting.Operation x) = record {
    limits = h.limits;
    responses = h.responses;
    machines = cond-apply length (switches_off x) resting p.machines ∙ ap (cond (switches_off x) 6) h.machines ∙ cond_same (switches_off x) 6;
    words = h.words;
    measured = h.measured;
    status = h.status;
    formats = h.formats;
  }
  applied-shape (Setting.VoutCommand w) = record { limits = h.limits; responses = h.responses; machines = h.machines; words = h.words; measured = h.measured; status = h.status; formats = h.formats }
  applied-shape (Setting.Limit k w) = record {
    limits = length-set p.limits (k % 11) w ∙ h.limits;
    responses = h.responses;
    machines = h.machines;
    words = h.words;
    measured = h.measured;
    status = h.status;
    formats = h.formats;
  }
  applied-shape (Setting.Response k x) = record {
    limits = h.limits;
    responses = length-set p.responses (k % 6) x ∙ h.responses;
    machines = length-set p.machines (k % 6) 0 ∙ h.machines;
    words = h.words;
    measured = h.measured;
    status = h.status;
    formats = h.formats;
  }

  cleared-shape : (ms : List ℕ) → Shape (clear_bits p ms)
  unfolding clear_bits
  cleared-shape ms = record { limits = h.limits; responses = h.responses; machines = h.machines; words = h.words; measured = h.measured; status = refl; formats = h.formats }

pub left-shape : (w : Write) (p : Page) → Shape p → Shape (page_left w p)
unfolding page_left changed cleared
left-shape Write.Nothing p h = h
left-shape (Write.SelectPage x) p h = h
left-shape (Write.Protect x) p h = h
left-shape (Write.Change s) p h = settled-shape (applied s p) (applied-shape p h s)
left-shape (Write.Clear m) p h = settled-shape _ (cleared-shape p h _)
left-shape (Write.ClearCml m) p h = h
