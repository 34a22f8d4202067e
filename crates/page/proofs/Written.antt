-- What the code writes out of the table of causes is what the table gives.
-- Assumes nothing.
use borrow.Author.Tests.{ne_eqb}
use native.Mathlib.Omega.{arith}
use Prim.Native.Nat.{ℕ, ◌/◌, zero, suc}
use mathlib.Core.Path.{◌≡◌, refl, ap}
use mathlib.Core.Bool.{Bool, false, ◌&&◌, ◌||◌, and-true, and-false, or-false, not}
use mathlib.Core.List.{List, [], ◌∷◌}
use lib.ListN.{length, get_or}
use Rattle.std.proofs.lemmas.List.FromFn.{fill_by_all}
use Rattle.value.specs.declared.format.Format.{Format}
use Rattle.value.specs.Format.{linear_format, format_valid}
use lib.Dec.{eqb}
use Rattle.laws.specs.Lists.{all_of, any_of}
use Rattle.cause.specs.declared.Cause.{Cause}
use Rattle.cause.specs.Kinds.{cause_number}
use Rattle.retry.specs.Machines.{all_valid}
use Rattle.cause.specs.Causes.{causes, warnings, response_of, voltage}
use Rattle.page.specs.declared.Page.{Page}
use Rattle.page.specs.Causes.{off_while_lasts, trips_at_once}
use Rattle.page.specs.Settings.{valid_operation, valid_response, formats_valid, page_valid}

-- a cause is present and its response has action 11
abbrev pub lasting : List Bool → List ℕ → Cause → Bool
lasting c r k = get_or c (cause_number k) false && eqb (get_or r (cause_number k) 0 / 64) 3

-- the causes that have a response with an action
abbrev pub retried : List Cause
retried = Cause.VoutOv ∷ Cause.Ot ∷ Cause.Ut ∷ Cause.VinOv ∷ Cause.VinUv ∷ []

pub off_while_lasts_lem : (c : List Bool) (r : List ℕ) → any_of (lasting c r) retried ≡ off_while_lasts c r
unfolding off_while_lasts causes warnings
off_while_lasts_lem c r = simp (and-false (get_or c 1 false), or-false)

pub trips-at-once : (c : List Bool) (r : List ℕ) → (get_or c 1 false && eqb (get_or r 1 0) 0xC0) ≡ trips_at_once c r
unfolding trips_at_once causes warnings
trips-at-once c r =
    simp (and-false (get_or c 0 false), and-false (get_or c 2 false), and-false (get_or c 3 false), and-false (get_or c 4 false), and-false (get_or c 5 false), or-false)

voltages : (k : ℕ) → (response_of (suc (suc k))).actions ≡ voltage
unfolding causes warnings
voltages zero = refl
voltages (suc zero) = refl
voltages (suc (suc zero)) = refl
voltages (suc (suc (suc zero))) = refl
voltages (suc (suc (suc (suc k)))) = refl

-- IOUT_OC's response, and any other
pub valid_response_lem : (k x : ℕ) → (not (eqb k 1) || eqb x 0x00 || eqb x 0xC0) ≡ valid_response k x
unfolding valid_response causes warnings
valid_response_lem zero x = refl
valid_response_lem (suc zero) x = refl
valid_response_lem (suc (suc k)) x = rw (voltages k, ne_eqb (suc (suc k)) 1 (λ e. omega arith))

pub page-valid : (p : Page) → (valid_operation p.operation && valid_response 1 (get_or p.responses 1 0) && all_valid p.machines && formats_valid p.formats) ≡ page_valid p
unfolding page_valid valid_response causes warnings
page-valid p = simp (and-true)

-- all formats of a list are those of the three quantities
pub three_formats : (fs : List Format) → length fs ≡ 3 → all_of format_valid fs ≡ formats_valid fs
unfolding formats_valid
three_formats fs e = ap (all_of format_valid) (fill_by_all (λ k. get_or fs k linear_format) fs 3 linear_format e (λ k l. refl))
