-- What a clearing leaves of a page, and that every change leaves a valid page valid.
-- Assumes nothing.
use Prim.Native.Nat.{ℕ, zero, suc, ◌%◌, ◌<◌}
use mathlib.Core.Path.{◌≡◌, refl, sym, ◌∙◌}
use mathlib.Core.Bool.{Bool, true, false, not, ◌&&◌, ◌||◌, and-eq-true_iff, false≢true}
use mathlib.Core.List.{List}
use native.Mathlib.Omega.{arith}
use lib.Dec.{eqb}
use lib.ListN.{get_or}
use borrow.Author.Tests.{eqb-true}
use Rattle.laws.specs.Bits.{bit}
use Rattle.laws.proofs.Bits.{without-bit}
use Rattle.laws.proofs.Branches.{either}
use Rattle.laws.proofs.Lists.{set_cases}
use Rattle.value.specs.Format.{format_valid}
use Rattle.retry.specs.Response.{holds_at_once, waits_first}
use Rattle.retry.specs.Machines.{all_valid}
use Rattle.retry.proofs.Side.{rested_valid, all_called_valid, all_ticked_valid}
use Rattle.cause.specs.Causes.{causes, warnings}
use Rattle.page.specs.declared.Page.{Page}
use Rattle.page.specs.Page.{resting, power_on_page}
use Rattle.page.specs.Causes.{present_causes, moved, settled, ticked}
use Rattle.page.specs.Latching.{status_bit}
use Rattle.page.specs.Settings.{valid_operation, valid_response, formats_valid, page_valid, switches_off, set_operation, set_vout_command, set_limit, set_response, set_measurement, clear_bits}
use Rattle.page.proofs.Written.{valid_response_lem, page-valid}

-- a clearing takes the bits of the masks and does not untrip
module _ (p : Page) where
  pub clear_bit : (ms : List ℕ) (j k : ℕ) → j < 4 → status_bit (clear_bits p ms) j k ≡ (status_bit p j k && not (bit (get_or ms j 0) k))
  unfolding clear_bits
  clear_bit ms zero k h = without-bit (get_or p.status 0 0) (get_or ms 0 0) k
  clear_bit ms (suc zero) k h = without-bit (get_or p.status 1 0) (get_or ms 1 0) k
  clear_bit ms (suc (suc zero)) k h = without-bit (get_or p.status 2 0) (get_or ms 2 0) k
  clear_bit ms (suc (suc (suc zero))) k h = without-bit (get_or p.status 3 0) (get_or ms 3 0) k
  clear_bit ms (suc (suc (suc (suc j)))) k h = absurd (omega arith)

  pub clear_trip : (ms : List ℕ) → (clear_bits p ms).tripped ≡ p.tripped
  unfolding clear_bits
  clear_trip ms = refl

-- ---- valid pages

-- a valid page, by its parts
pub record PageParts (p : Page) : Type 0 where
  pub operation : valid_operation p.operation ≡ true
  pub current : valid_response 1 (get_or p.responses 1 0) ≡ true
  pub machines : all_valid p.machines ≡ true
  pub formats : formats_valid p.formats ≡ true

module _ (p : Page) where
  pub page-parts : page_valid p ≡ true → PageParts p
  page-parts v =
      let o = valid_operation p.operation in
      let r = valid_response 1 (get_or p.responses 1 0) in
      let e = (and-eq-true_iff (o && r && all_valid p.machines) (formats_valid p.formats)).0 (page-valid p ∙ v) in
      let a = (and-eq-true_iff (o && r) (all_valid p.machines)).0 e.0 in
      let b = (and-eq-true_iff o r).0 a.0 in
      record { operation = b.0; current = b.1; machines = a.1; formats = e.1 }

  pub parts_valid : PageParts p → page_valid p ≡ true
  parts_valid h = sym (page-valid p) ∙ rw (h.operation, h.current, h.machines, h.formats)

-- the response to IOUT_OC has action 00 or 11, so that its machine stays at rest
module _ (x : ℕ) (v : valid_response 1 x ≡ true) where
  is_or : (a b : Bool) → (a || b) ≡ true → (a ≡ false → b ≡ true)
  is_or true b h n = absurd (false≢true (sym n))
  is_or false b h n = h

  calm : holds_at_once x ≡ false
  calm =
      either (eqb x 0x00) (λ e. rw (eqb-true x 0x00 e))
      (λ e. rw (eqb-true x 0xC0 (is_or (eqb x 0x00) (eqb x 0xC0) (valid_response_lem 1 x ∙ v) e)))

  slow : waits_first x ≡ false
  slow =
      either (eqb x 0x00) (λ e. rw (eqb-true x 0x00 e))
      (λ e. rw (eqb-true x 0xC0 (is_or (eqb x 0x00) (eqb x 0xC0) (valid_response_lem 1 x ∙ v) e)))

module _ (p : Page) where
  pub operation_valid : (x : ℕ) → page_valid p ≡ true → valid_operation x ≡ true → page_valid (set_operation p x) ≡ true
  unfolding set_operation all_valid
  operation_valid x v e =
      let old = page-parts p v in
      parts_valid (set_operation p x)
      (record {
        operation = e;
        current = old.current;
        formats = old.formats;
        machines = either (switches_off x) (λ y. rw y resting-valid) (λ n. rw n old.machines);
      })
    where
      resting-valid : all_valid resting ≡ true
      resting-valid = refl

  pub response-valid : (n x : ℕ) → n < 6 → page_valid p ≡ true → valid_response n x ≡ true → page_valid (set_response p n x) ≡ true
  unfolding set_response
  response-valid n x h v e =
      let old = page-parts p v in
      parts_valid (set_response p n x)
      (record {
        operation = old.operation;
        formats = old.formats;
        current = set_cases 0 (λ (z : ℕ). valid_response 1 z ≡ true) p.responses (n % 6) x 1 old.current
            (λ same. let m : 1 ≡ n = omega arith in rw m e);
        machines = rested_valid p.machines old.machines (n % 6);
      })

  -- what is neither OPERATION nor a response nor a machine does not matter
  pub command_valid : (w : ℕ) → page_valid (set_vout_command p w) ≡ page_valid p
  unfolding set_vout_command page_valid
  command_valid w = refl

  pub limit-valid : (k w : ℕ) → page_valid (set_limit p k w) ≡ page_valid p
  unfolding set_limit page_valid
  limit-valid k w = refl

  pub measurement_valid : (q w : ℕ) → page_valid (set_measurement p q w) ≡ page_valid p
  unfolding set_measurement page_valid
  measurement_valid q w = refl

  pub clear_valid : (ms : List ℕ) → page_valid (clear_bits p ms) ≡ page_valid p
  unfolding clear_bits page_valid
  clear_valid ms = refl

  pub settled-valid : page_valid p ≡ true → page_valid (settled p) ≡ true
  unfolding settled moved
  settled-valid v =
      let old = page-parts p v in
      parts_valid (settled p)
      (record {
        operation = old.operation;
        current = old.current;
        formats = old.formats;
        machines =
            all_called_valid p.machines old.machines p.responses (present_causes p) (calm _ old.current) (slow _ old.current);
      })

  pub ticked-valid : page_valid p ≡ true → page_valid (ticked p) ≡ true
  unfolding ticked moved
  ticked-valid v =
      let old = page-parts p v in
      parts_valid (ticked p)
      (record {
        operation = old.operation;
        current = old.current;
        formats = old.formats;
        machines =
            all_ticked_valid p.machines old.machines p.responses (present_causes p) (calm _ old.current) (slow _ old.current);
      })

pub powered-valid : page_valid power_on_page ≡ true
unfolding page_valid power_on_page valid_operation all_valid formats_valid format_valid causes warnings
powered-valid = refl
