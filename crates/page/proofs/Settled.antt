-- A page brought up to date: its bits and its trip, from its present causes.
-- Assumes nothing.
use Prim.Native.Nat.{ℕ, zero, suc, ◌^◌, ◌<◌}
use mathlib.Core.Path.{◌≡◌, refl, sym, ap, ◌∙◌}
use mathlib.Core.Bool.{Bool, true, false, cond, ◌&&◌, ◌||◌, and-false, or-false, or-true, or_assoc, false≢true}
use mathlib.Core.List.{List, [], ◌∷◌}
use native.Mathlib.Omega.{arith}
use lib.Dec.{eqb, ltb, ltb→lt}
use lib.Bits.{bit_or}
use lib.ListN.{get_or}
use borrow.Author.Tests.{eq-eqb}
use Rattle.laws.specs.Bits.{bit}
use Rattle.laws.specs.Lists.{any_of}
use Rattle.laws.proofs.Bits.{or_bit, cond-bit, power_bit}
use Rattle.laws.proofs.Branches.{either}
use Rattle.laws.proofs.Every.{each}
use Rattle.laws.proofs.Lists.{any_at}
use Rattle.retry.specs.Machine.{at_call}
use Rattle.retry.specs.Byte.{byte_of, machine_of, byte_at_call, byte_trips}
use Rattle.retry.specs.Machines.{all_at_call, all_at_tick, any_trips, EachAlone}
use Rattle.retry.proofs.Alone.{each-alone}
use Rattle.retry.proofs.Side.{trips-now_all, some_trips, all_again, all_ticked_again, stays_off, Steady, steady_rest, steady_call, steady_tick, steady_trips}
use Rattle.cause.specs.Causes.{Limit, causes, warnings, limits, limit, above, register}
use Rattle.cause.proofs.Regular.{regular}
use Rattle.page.specs.declared.Page.{Page}
use Rattle.page.specs.Page.{power_on_page, no_page}
use Rattle.page.specs.Causes.{present_causes, present_warnings, present_limits, crossed, present, weigh, marked, raised, trips_at_once, shut_down, moved, settled, ticked}
use Rattle.page.specs.Latching.{status_bit, register_of, bit_of, caused, stays_off_by}
use Rattle.page.proofs.Written.{trips-at-once}

-- the bit of weight 2 ^ m, where b is set
pub weighed : (b : Bool) (m k : ℕ) → bit (weigh b (2 ^ m)) k ≡ (b && eqb m k)
unfolding weigh
weighed b m k = cond-bit b (2 ^ m) k ∙ ap (λ (x : Bool). b && x) (power_bit m k)

pub or_weighed : (s : ℕ) (b : Bool) (m k : ℕ) → bit (bit_or s (weigh b (2 ^ m))) k ≡ (bit s k || (b && eqb m k))
or_weighed s b m k = or_bit s (weigh b (2 ^ m)) k ∙ ap (λ (x : Bool). bit s k || x) (weighed b m k)

module _ (c : List Bool) (j k : ℕ) where
  -- a limit is crossed and is shown in bit k of register j
  abbrev shown : Limit → Bool
  shown l = get_or c l.number false && (eqb (register l) j && eqb l.bit_number k)

  one_bit : (l : Limit) (x : ℕ)
      → bit (cond (eqb (register l) j) (bit_or x (weigh (get_or c l.number false) (2 ^ l.bit_number))) x) k ≡ (bit x k || shown l)
  one_bit l x =
      either (eqb (register l) j) (λ e. rw e (or_weighed x (get_or c l.number false) l.bit_number k))
      (λ e. simp (e, and-false, or-false))

  marked-bit : (ls : List Limit) (x : ℕ) → bit (marked c j ls x) k ≡ (bit x k || any_of shown ls)
  unfolding marked
  marked-bit [] x = sym (or-false (bit x k))
  marked-bit (l ∷ ls) x =
      marked-bit ls (cond (eqb (register l) j) (bit_or x (weigh (get_or c l.number false) (2 ^ l.bit_number))) x)
      ∙ ap (λ (b : Bool). b || any_of shown ls) (one_bit l x) ∙ or_assoc (bit x k) (shown l) (any_of shown ls)

-- each bit of an updated page stood before or has a present cause
pub settled-bit : (q : Page) (j k : ℕ) → j < 4 → status_bit (settled q) j k ≡ (status_bit q j k || caused q j k)
unfolding settled raised caused
settled-bit q zero k h = marked-bit (present_limits q) 0 k limits (get_or q.status 0 0)
settled-bit q (suc zero) k h = marked-bit (present_limits q) 1 k limits (get_or q.status 1 0)
settled-bit q (suc (suc zero)) k h = marked-bit (present_limits q) 2 k limits (get_or q.status 2 0)
settled-bit q (suc (suc (suc zero))) k h = marked-bit (present_limits q) 3 k limits (get_or q.status 3 0)
settled-bit q (suc (suc (suc (suc j)))) k h = absurd (omega arith)

-- causes and warnings look neither at the status nor at the trip
pub settled-causes : (q : Page) → present_limits (settled q) ≡ present_limits q
unfolding settled moved present_causes present_warnings crossed causes warnings
settled-causes q = refl

pub settled-caused : (q : Page) (j k : ℕ) → caused (settled q) j k ≡ caused q j k
unfolding caused
settled-caused q j k = ap (λ (c : List Bool). any_of (shown c j k) limits) (settled-causes q)

-- ---- a cause or a warning by its number

pub register-lt : (n : ℕ) → n < 11 → register_of n < 4
unfolding causes warnings
register-lt n h = ltb→lt (register_of n) 4 (each (λ n. ltb (register_of n) 4) 11 tt n h)

-- a present one has a bit
pub cause-bit : (p : Page) (n : ℕ) → n < 11 → present p n ≡ true → caused p (register_of n) (bit_of n) ≡ true
unfolding caused causes warnings
cause-bit p n h e =
    any_at (limit n 0 0 above 0 0 0) (shown (present_limits p) (register_of n) (bit_of n)) limits n h
    (rw ((regular n h).place, e, eq-eqb (register_of n) (register_of n) refl, eq-eqb (bit_of n) (bit_of n) refl))

-- ---- up to date

-- what every page of a run has: the bit of each present cause and warning is 1, what shuts the page down has tripped it, no machine waits for its
-- start, and one whose response stays off rests or has tripped the page
pub record UpToDate (p : Page) : Type 0 where
  pub latched : (j k : ℕ) → j < 4 → caused p j k ≡ true → status_bit p j k ≡ true
  pub tripped : shut_down p ≡ true → p.tripped ≡ true
  pub begun : all_at_call p.responses (present_causes p) p.machines ≡ p.machines
  pub steady : (k : ℕ) → k < 6 → Steady (get_or p.responses k 0) (get_or p.machines k 0)

-- what a change leaves of it, until the page is brought up to date again
pub record Ready (p : Page) : Type 0 where
  pub tripped : any_trips p.machines ≡ true → p.tripped ≡ true
  pub steady : (k : ℕ) → k < 6 → Steady (get_or p.responses k 0) (get_or p.machines k 0)

pub current-ready : (p : Page) → UpToDate p → Ready p
current-ready p g = record {
  tripped = λ e. g.tripped (rw e (or-true (trips_at_once (present_causes p) p.responses)));
  steady = g.steady;
}

-- ---- the trip

module _ (p : Page) (ms : List ℕ) (own : any_trips p.machines ≡ true → p.tripped ≡ true) where
  moved-trip : (moved p ms).tripped ≡ (p.tripped || (trips_at_once (present_causes p) p.responses || any_trips ms))
  unfolding moved
  moved-trip =
      either p.tripped (λ y. rw y)
      (λ n. rw (n, trips-now_all p.machines ms (either (any_trips p.machines) (λ e. absurd (false≢true (sym n ∙ own e))) (λ e. e))))

pub settled-trip : (q : Page) → Ready q → (settled q).tripped ≡ (q.tripped || shut_down (settled q))
unfolding settled moved present_causes present_warnings crossed causes warnings
settled-trip q g = moved-trip q (all_at_call q.responses (present_causes q) q.machines) g.tripped

pub ticked-trip : (p : Page) → Ready p → (ticked p).tripped ≡ (p.tripped || shut_down (ticked p))
unfolding ticked moved present_causes present_warnings crossed causes warnings
ticked-trip p g = moved-trip p (all_at_tick p.responses (present_causes p) p.machines) g.tripped

-- no step untrips
module _ (p : Page) (t : p.tripped ≡ true) where
  pub settled-stays : (settled p).tripped ≡ true
  unfolding settled moved
  settled-stays = rw t

  pub ticked-stays : (ticked p).tripped ≡ true
  unfolding ticked moved
  ticked-stays = rw t

-- ---- the machines

module _ (p : Page) where
  settled-begun : all_at_call (settled p).responses (present_causes (settled p)) (settled p).machines ≡ (settled p).machines
  unfolding settled moved present_causes crossed causes warnings
  settled-begun = all_again p.responses (present_causes p) p.machines

  ticked-begun : all_at_call (ticked p).responses (present_causes (ticked p)) (ticked p).machines ≡ (ticked p).machines
  unfolding ticked moved present_causes crossed causes warnings
  ticked-begun = all_ticked_again p.responses (present_causes p) p.machines

  module _ (steady : (k : ℕ) → k < 6 → Steady (get_or p.responses k 0) (get_or p.machines k 0)) where
    settled-steady : (k : ℕ) → k < 6 → Steady (get_or (settled p).responses k 0) (get_or (settled p).machines k 0)
    unfolding settled moved EachAlone
    settled-steady k h =
        rw (each-alone p.responses (present_causes p) p.machines k h).0
        (steady_call (get_or p.responses k 0) (get_or p.machines k 0) (get_or (present_causes p) k false) (steady k h))

    ticked-steady : (k : ℕ) → k < 6 → Steady (get_or (ticked p).responses k 0) (get_or (ticked p).machines k 0)
    unfolding ticked moved EachAlone
    ticked-steady k h =
        rw (each-alone p.responses (present_causes p) p.machines k h).1
        (steady_tick (get_or p.responses k 0) (get_or p.machines k 0) (get_or (present_causes p) k false) (steady k h))

pub settled-current : (q : Page) → Ready q → UpToDate (settled q)
settled-current q g = record {
  latched = λ j k h e. settled-bit q j k h ∙ rw (sym (settled-caused q j k) ∙ e) (or-true (status_bit q j k));
  tripped = λ e. settled-trip q g ∙ rw e (or-true q.tripped);
  begun = settled-begun q;
  steady = settled-steady q g.steady;
}

-- ---- a tick sets no bit, and makes no cause

pub ticked-status : (p : Page) → (ticked p).status ≡ p.status
unfolding ticked moved
ticked-status p = refl

pub ticked-causes : (p : Page) → present_limits (ticked p) ≡ present_limits p
unfolding ticked moved present_causes present_warnings crossed causes warnings
ticked-causes p = refl

pub ticked-caused : (p : Page) (j k : ℕ) → caused (ticked p) j k ≡ caused p j k
unfolding caused
ticked-caused p j k = ap (λ (c : List Bool). any_of (shown c j k) limits) (ticked-causes p)

pub ticked-current : (p : Page) → UpToDate p → UpToDate (ticked p)
ticked-current p g = record {
  latched = λ j k h e. ap (λ (l : List ℕ). bit (get_or l j 0) k) (ticked-status p) ∙ g.latched j k h (sym (ticked-caused p j k) ∙ e);
  tripped = λ e. ticked-trip p (current-ready p g) ∙ rw e (or-true p.tripped);
  begun = ticked-begun p;
  steady = ticked-steady p g.steady;
}

-- a page that is up to date trips by no further call
pub current-trip : (p : Page) → UpToDate p → (moved p (all_at_call p.responses (present_causes p) p.machines)).tripped ≡ p.tripped
current-trip p g =
    moved-trip p _ (current-ready p g).tripped ∙ rw g.begun (either (shut_down p) (λ y. rw (y, g.tripped y)) (λ n. rw n (or-false p.tripped)))

-- ---- a present cause whose response stays off

module _ (p : Page) (g : UpToDate p) where
  machine_shuts : (n : ℕ) → n < 6 → get_or (present_causes p) n false ≡ true → stays_off (get_or p.responses n 0) ≡ true → shut_down p ≡ true
  unfolding EachAlone
  machine_shuts n h e off =
      let r = get_or p.responses n 0 in
      let b = get_or p.machines n 0 in
      let still : byte_at_call r true b ≡ b =
      ap (λ (c : Bool). byte_at_call r c b) (sym e) ∙ sym (each-alone p.responses (present_causes p) p.machines n h).0
      ∙ ap (λ (l : List ℕ). get_or l n 0) g.begun in
      rw (some_trips p.machines n h (steady_trips r b (g.steady n h) off still)) (or-true (trips_at_once (present_causes p) p.responses))

  current-shuts : get_or (present_causes p) 1 false ≡ true → eqb (get_or p.responses 1 0) 0xC0 ≡ true → shut_down p ≡ true
  current-shuts e off = rw (sym (trips-at-once (present_causes p) p.responses), e, off)

  pub cause-shuts : (n : ℕ) → n < 6 → present p n ≡ true → stays_off_by p n ≡ true → shut_down p ≡ true
  unfolding present_causes causes warnings
  cause-shuts zero h e r = machine_shuts 0 h e r
  cause-shuts (suc zero) h e r = current-shuts e r
  cause-shuts (suc (suc zero)) h e r = machine_shuts 2 h e r
  cause-shuts (suc (suc (suc zero))) h e r = machine_shuts 3 h e r
  cause-shuts (suc (suc (suc (suc zero)))) h e r = machine_shuts 4 h e r
  cause-shuts (suc (suc (suc (suc (suc zero))))) h e r = machine_shuts 5 h e r
  cause-shuts (suc (suc (suc (suc (suc (suc n)))))) h e r = absurd (omega arith)

-- ---- a page without measurements

-- it has no present cause and no warning
pub quiet : (p : Page) → present_causes p ≡ false ∷ false ∷ false ∷ false ∷ false ∷ false ∷ [] → present_warnings p ≡ false ∷ false ∷ false ∷ false ∷ false ∷ []
    → (j k : ℕ) → caused p j k ≡ false
unfolding caused causes warnings
quiet p e w j k = rw (e, w)

pub none-caused : (p : Page) → ((j k : ℕ) → caused p j k ≡ false) → (j k : ℕ) → caused p j k ≡ true → status_bit p j k ≡ true
none-caused p q j k e = absurd (false≢true (sym (q j k) ∙ e))

powered-quiet : (j k : ℕ) → caused power_on_page j k ≡ false
unfolding present_causes present_warnings crossed power_on_page causes warnings
powered-quiet = quiet power_on_page refl refl

none-quiet : (j k : ℕ) → caused no_page j k ≡ false
unfolding present_causes present_warnings crossed causes warnings
none-quiet = quiet no_page refl refl

pub powered-steady : (k : ℕ) → k < 6 → Steady (get_or power_on_page.responses k 0) (get_or power_on_page.machines k 0)
unfolding power_on_page
powered-steady zero h = steady_rest _
powered-steady (suc zero) h = steady_rest _
powered-steady (suc (suc zero)) h = steady_rest _
powered-steady (suc (suc (suc zero))) h = steady_rest _
powered-steady (suc (suc (suc (suc zero)))) h = steady_rest _
powered-steady (suc (suc (suc (suc (suc zero))))) h = steady_rest _
powered-steady (suc (suc (suc (suc (suc (suc k)))))) h = absurd (omega arith)

pub powered-current : UpToDate power_on_page
unfolding power_on_page trips_at_once any_trips all_at_call byte_at_call byte_of machine_of at_call byte_trips present_causes crossed causes warnings
powered-current = record {
  latched = λ j k h e. none-caused power_on_page powered-quiet j k e;
  tripped = λ e. absurd (false≢true e);
  begun = refl;
  steady = powered-steady;
}
