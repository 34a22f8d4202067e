-- What a call leaves of a page: the page as it was, a changed one brought up to date, or the page after a tick.
-- Assumes nothing.
use Prim.Native.Nat.{ℕ, zero, suc, ◌%◌, ◌<◌}
use mathlib.Core.Path.{◌≡◌, refl, sym, ap, ◌∙◌}
use mathlib.Core.Bool.{Bool, true, false, cond, not, ◌&&◌, ◌||◌, and-true}
use mathlib.Core.List.{List}
use lib.Dec.{eqb}
use lib.ListN.{get_or}
use lib.Seq.{get_or-set_other}
use borrow.Author.Tests.{eqb-true, eqb-false}
use Rattle.laws.specs.Bits.{bit}
use Rattle.laws.proofs.Branches.{either}
use Rattle.retry.proofs.Side.{rest_same}
use Rattle.page.specs.declared.Page.{Page}
use Rattle.page.specs.Page.{resting}
use Rattle.page.specs.Causes.{settled, ticked}
use Rattle.page.specs.Latching.{status_bit}
use Rattle.page.specs.Settings.{set_operation, set_vout_command, set_limit, set_response, set_measurement, clear_bits}
use Rattle.page.proofs.Setters.{clear_bit, clear_trip}
use Rattle.page.proofs.Settled.{Ready}
use Rattle.page.proofs.Ready.{operation_ready, response-ready, command_ready, limit-ready, measurement_ready, clear_ready}
use Rattle.writes.specs.declared.asked.Setting.{Setting}
use Rattle.writes.specs.declared.asked.Write.{Write}
use Rattle.writes.specs.Asked.{page_masks}
use Rattle.writes.specs.Left.{applied, changed, cleared, page_left}
use Rattle.history.proofs.Codes.{cleared_bit, switches_off, untrips_by, rests_setting, rests_by}

-- p became q by a change that clears the bits `clear`, untrips where `off`, puts the machines `rest` to rest, and nothing else of status, trip
-- and machines
pub record Changed (p q : Page) (clear : ℕ → ℕ → Bool) (off : Bool) (rest : ℕ → Bool) : Type 0 where
  pub bits : (j k : ℕ) → j < 4 → status_bit q j k ≡ (status_bit p j k && not (clear j k))
  pub trip : q.tripped ≡ (p.tripped && not off)
  pub machines : (k : ℕ) → k < 6 → get_or q.machines k 0 ≡ cond (rest k) 0 (get_or p.machines k 0)
  pub responses : (k : ℕ) → k < 6 → rest k ≡ false → get_or q.responses k 0 ≡ get_or p.responses k 0
  pub ready : Ready p → Ready q
  pub formats : q.formats ≡ p.formats

-- nothing of the kind
pub record Nothing (clear : ℕ → ℕ → Bool) (off : Bool) (rest : ℕ → Bool) : Type 0 where
  pub bits : (j k : ℕ) → j < 4 → clear j k ≡ false
  pub trip : off ≡ false
  pub machines : (k : ℕ) → k < 6 → rest k ≡ false

-- it is p still; or such a q, brought up to date; or p after a tick
pub data PageLeft (p r : Page) (clear : ℕ → ℕ → Bool) (off : Bool) (rest : ℕ → Bool) (time : Bool) : Type 0 where
  kept : r ≡ p → Nothing clear off rest → time ≡ false → PageLeft p r clear off rest time
  touched : (q : Page) → r ≡ settled q → Changed p q clear off rest → time ≡ false → PageLeft p r clear off rest time
  timed : r ≡ ticked p → Nothing clear off rest → time ≡ true → PageLeft p r clear off rest time

pub nothing : Nothing (λ j k. false) false (λ k. false)
nothing = record { bits = λ j k h. refl; trip = refl; machines = λ k h. refl }

-- a change that leaves the status and the machines as they are
plain : (p q : Page) → q.status ≡ p.status → q.tripped ≡ p.tripped → q.machines ≡ p.machines → q.responses ≡ p.responses → (Ready p → Ready q)
    → q.formats ≡ p.formats → Changed p q (λ j k. false) false (λ k. false)
plain p q s t m r g f = record {
  bits = λ j k h. ap (λ (l : List ℕ). bit (get_or l j 0) k) s ∙ sym (and-true (status_bit p j k));
  trip = t ∙ sym (and-true p.tripped);
  machines = λ k h. ap (λ (l : List ℕ). get_or l k 0) m;
  responses = λ k h n. ap (λ (l : List ℕ). get_or l k 0) r;
  ready = g;
  formats = f;
}

resting-at : (k : ℕ) → get_or resting k 0 ≡ 0
resting-at zero = refl
resting-at (suc zero) = refl
resting-at (suc (suc zero)) = refl
resting-at (suc (suc (suc zero))) = refl
resting-at (suc (suc (suc (suc zero)))) = refl
resting-at (suc (suc (suc (suc (suc zero))))) = refl
resting-at (suc (suc (suc (suc (suc (suc k)))))) = refl

module _ (p : Page) where
  operated : (x : ℕ) → Changed p (set_operation p x) (λ j k. false) (switches_off (Setting.Operation x)) (rests_setting (Setting.Operation x))
  unfolding set_operation
  operated x = record {
    bits = λ j k h. sym (and-true (status_bit p j k));
    trip = refl;
    machines = λ k h. either (eqb x 0x00 || eqb x 0x40) (λ y. rw y (resting-at k)) (λ n. rw n);
    responses = λ k h n. refl;
    ready = λ g. operation_ready p g x;
    formats = refl;
  }

  responded : (m x : ℕ) → Changed p (set_response p m x) (λ j k. false) false (λ k. eqb k (m % 6))
  unfolding set_response
  responded m x = record {
    bits = λ j k h. sym (and-true (status_bit p j k));
    trip = sym (and-true p.tripped);
    machines = λ k h. either (eqb k (m % 6)) (λ y. rw y (rw (sym (eqb-true k (m % 6) y)) (rest_same p.machines k)))
        (λ n. rw n (get_or-set_other p.machines (m % 6) k 0 0 (eqb-false k (m % 6) n)));
    responses = λ k h n. get_or-set_other p.responses (m % 6) k x 0 (eqb-false k (m % 6) n);
    ready = λ g. response-ready p g m x;
    formats = refl;
  }

  changed-setting : (s : Setting) → Changed p (applied s p) (λ j k. false) (switches_off s) (rests_setting s)
  unfolding applied set_vout_command set_limit
  changed-setting (Setting.Operation x) = operated x
  changed-setting (Setting.VoutCommand w) = plain p (set_vout_command p w) refl refl refl refl (λ g. command_ready p g w) refl
  changed-setting (Setting.Limit k w) = plain p (set_limit p k w) refl refl refl refl (λ g. limit-ready p g k w) refl
  changed-setting (Setting.Response k x) = responded k x

  cleared-bits : (ms : List ℕ) → Changed p (clear_bits p ms) (λ j k. bit (get_or ms j 0) k) false (λ k. false)
  unfolding clear_bits
  cleared-bits ms = record {
    bits = λ j k h. clear_bit p ms j k h;
    trip = clear_trip p ms ∙ sym (and-true p.tripped);
    machines = λ k h. refl;
    responses = λ k h n. refl;
    ready = λ g. clear_ready p g ms;
    formats = refl;
  }

  -- a write, on a page that it acts on
  pub written-page : (w : Write) → PageLeft p (page_left w p) (cleared_bit w) (untrips_by w) (rests_by w) false
  unfolding page_left changed cleared
  written-page Write.Nothing = kept refl nothing refl
  written-page (Write.SelectPage x) = kept refl nothing refl
  written-page (Write.Protect x) = kept refl nothing refl
  written-page (Write.Change s) = touched (applied s p) refl (changed-setting s) refl
  written-page (Write.ClearCml m) = kept refl nothing refl
  written-page (Write.Clear m) = touched (clear_bits p (page_masks m)) refl (cleared-bits (page_masks m)) refl

  pub measured-page : (quantity word : ℕ) → PageLeft p (settled (set_measurement p quantity word)) (λ j k. false) false (λ k. false) false
  unfolding set_measurement
  measured-page quantity word =
      touched (set_measurement p quantity word) refl
      (plain p (set_measurement p quantity word) refl refl refl refl (λ g. measurement_ready p g quantity word) refl) refl

-- the same, said of equal tests
module _ (p r r' : Page) (clear clear' : ℕ → ℕ → Bool) (off off' : Bool) (rest rest' : ℕ → Bool) (time : Bool) (b : r' ≡ r)
    (c : (j k : ℕ) → j < 4 → clear' j k ≡ clear j k) (o : off' ≡ off) (m : (k : ℕ) → k < 6 → rest' k ≡ rest k) where
  same_nothing : Nothing clear off rest → Nothing clear' off' rest'
  same_nothing h = record {
    bits = λ j k l. c j k l ∙ h.bits j k l;
    trip = o ∙ h.trip;
    machines = λ k l. m k l ∙ h.machines k l;
  }

  pub same_left : PageLeft p r clear off rest time → PageLeft p r' clear' off' rest' time
  same_left (kept e h t) = kept (b ∙ e) (same_nothing h) t
  same_left (timed e h t) = timed (b ∙ e) (same_nothing h) t
  same_left (touched q e h t) =
      touched q (b ∙ e)
      (record {
        bits = λ j k l. h.bits j k l ∙ ap (λ (y : Bool). status_bit p j k && not y) (sym (c j k l));
        trip = h.trip ∙ ap (λ (y : Bool). p.tripped && not y) (sym o);
        machines = λ k l. h.machines k l ∙ ap (λ (y : Bool). cond y 0 (get_or p.machines k 0)) (sym (m k l));
        responses = λ k l n. h.responses k l (sym (m k l) ∙ n);
        ready = h.ready;
        formats = h.formats;
      }) t
