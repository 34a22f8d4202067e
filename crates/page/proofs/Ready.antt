-- What a change leaves of an up to date page, until it is brought up to date again: a machine at rest has no part in a trip.
-- Assumes nothing.
use Prim.Native.Nat.{ℕ, zero, suc, ◌%◌}
use mathlib.Core.Path.{◌≡◌, refl, sym, ◌∙◌}
use mathlib.Core.Bool.{false, and-true, false≢true}
use mathlib.Core.List.{List}
use lib.Dec.{eqb}
use lib.ListN.{get_or, set}
use lib.Seq.{get_or-set_other}
use borrow.Author.Tests.{eqb-true, eqb-false}
use Rattle.laws.proofs.Branches.{either}
use Rattle.retry.specs.Byte.{machine_of, byte_trips}
use Rattle.retry.specs.Machines.{any_trips}
use Rattle.retry.proofs.Side.{Steady, steady_rest, rest_same, rest_trips}
use Rattle.page.specs.declared.Page.{Page}
use Rattle.page.specs.Page.{resting}
use Rattle.page.specs.Settings.{switches_off, set_operation, set_vout_command, set_limit, set_response, set_measurement, clear_bits}
use Rattle.page.proofs.Settled.{Ready}

resting-steady : (r k : ℕ) → Steady r (get_or resting k 0)
resting-steady r zero = steady_rest r
resting-steady r (suc zero) = steady_rest r
resting-steady r (suc (suc zero)) = steady_rest r
resting-steady r (suc (suc (suc zero))) = steady_rest r
resting-steady r (suc (suc (suc (suc zero)))) = steady_rest r
resting-steady r (suc (suc (suc (suc (suc zero))))) = steady_rest r
resting-steady r (suc (suc (suc (suc (suc (suc k)))))) = steady_rest r

resting-trips : any_trips resting ≡ false
unfolding any_trips byte_trips machine_of
resting-trips = refl

module _ (p : Page) (g : Ready p) where
  pub operation_ready : (x : ℕ) → Ready (set_operation p x)
  unfolding set_operation
  operation_ready x = record {
    tripped = λ e. either (switches_off x) (λ y. absurd (false≢true (sym resting-trips ∙ (rw y at e))))
        (λ n. rw (n, and-true p.tripped) (g.tripped (rw n at e)));
    steady = λ k h. either (switches_off x) (λ y. rw y (resting-steady (get_or p.responses k 0) k)) (λ n. rw n (g.steady k h));
  }

  pub response-ready : (j x : ℕ) → Ready (set_response p j x)
  unfolding set_response
  response-ready j x = record {
    tripped = λ e. g.tripped (rest_trips p.machines (j % 6) e);
    steady = λ k h. either (eqb k (j % 6))
        (λ y. rw (sym (eqb-true k (j % 6) y), rest_same p.machines k) (steady_rest (get_or (set p.responses k x) k 0)))
        (λ n. rw (get_or-set_other p.machines (j % 6) k 0 0 (eqb-false k (j % 6) n), get_or-set_other p.responses (j % 6) k x 0 (eqb-false k (j % 6) n))
        (g.steady k h));
  }

  pub command_ready : (w : ℕ) → Ready (set_vout_command p w)
  unfolding set_vout_command
  command_ready w = record { tripped = g.tripped; steady = g.steady }

  pub limit-ready : (k w : ℕ) → Ready (set_limit p k w)
  unfolding set_limit
  limit-ready k w = record { tripped = g.tripped; steady = g.steady }

  pub measurement_ready : (q w : ℕ) → Ready (set_measurement p q w)
  unfolding set_measurement
  measurement_ready q w = record { tripped = g.tripped; steady = g.steady }

  pub clear_ready : (ms : List ℕ) → Ready (clear_bits p ms)
  unfolding clear_bits
  clear_ready ms = record { tripped = g.tripped; steady = g.steady }
