-- Pages that differ in warn limits and warnings' bits at most: every change of a page leaves them so, and they supply alike.
-- Assumes nothing.
use Prim.Native.Nat.{ℕ, ◌<◌, ◌≤◌, ◌%◌}
use mathlib.Core.Path.{◌≡◌, refl, sym, ap, ap₂, ◌∙◌}
use mathlib.Core.Bool.{Bool, true, false, cond, not, ◌&&◌, ◌||◌, and-false, or-false, or_assoc, false≢true}
use mathlib.Core.List.{List, [], ◌∷◌, ◌++◌}
use native.Mathlib.Omega.{arith}
use lib.Dec.{eqb, ltb}
use lib.ListN.{get_or, take, set}
use lib.Seq.{get_or-take, take-set-le, take-set-lt}
use borrow.Author.Tests.{ltb-true, ltb-false}
use Rattle.laws.specs.Bits.{bit}
use Rattle.laws.specs.Lists.{any_of}
use Rattle.laws.proofs.Branches.{either}
use Rattle.cause.specs.Causes.{Limit, causes, faults, warnings, register}
use Rattle.retry.specs.Machines.{all_at_call, all_at_tick}
use Rattle.page.specs.declared.Page.{Page}
use Rattle.page.specs.Page.{resting}
use Rattle.page.specs.Causes.{crossed, present_causes, present, moved, settled, ticked}
use Rattle.page.specs.Latching.{status_bit, caused}
use Rattle.page.specs.Settings.{page_valid, switches_off, set_operation, set_vout_command, set_limit, set_response, set_measurement, clear_bits}
use Rattle.page.specs.Status.{supplies}
use Rattle.page.proofs.Setters.{clear_bit}
use Rattle.page.proofs.Settled.{UpToDate, settled-bit, current-trip}
use Rattle.writes.specs.declared.asked.Setting.{Setting}
use Rattle.writes.specs.declared.asked.Write.{Write}
use Rattle.writes.specs.Asked.{page_masks}
use Rattle.writes.specs.Left.{applied, changed, cleared, page_left}
use Rattle.history.specs.Warnings.{warning_bit, AlikePages, SupplyAlike}

-- ---- lists

any_append : {A : Type 0} (f : A → Bool) (l m : List A) → any_of f (l ++ m) ≡ (any_of f l || any_of f m)
any_append f [] m = refl
any_append f (x ∷ l) m = ap (λ (b : Bool). f x || b) (any_append f l m) ∙ sym (or_assoc (f x) (any_of f l) (any_of f m))

-- where no element passes g, none passes it together with another test
none_both : {A : Type 0} (f g : A → Bool) (l : List A) → any_of g l ≡ false → any_of (λ x. f x && g x) l ≡ false
none_both f g [] h = refl
none_both f g (x ∷ l) h =
    either (g x) (λ y. absurd (false≢true (sym (rw y at h)))) (λ n. rw (n, and-false (f x)) (none_both f g l (rw n at h)))

-- the first n of a list with an element set
take-set : (n : ℕ) (l m : List ℕ) (i w : ℕ) → take n l ≡ take n m → take n (set l i w) ≡ take n (set m i w)
take-set n l m i w e =
    either (ltb i n)
    (λ y. let h = ltb-true i n y in take-set-lt n l i w h ∙ ap (λ (x : List ℕ). set x i w) e ∙ sym (take-set-lt n m i w h))
    (λ y. let h = ltb-false i n y in take-set-le n l i w h ∙ e ∙ sym (take-set-le n m i w h))

-- ---- causes

module _ (p q : Page) (a : AlikePages p q) where
  pub fault_limit : (k : ℕ) → k < 6 → get_or p.limits k 0 ≡ get_or q.limits k 0
  fault_limit k h = sym (get_or-take 6 p.limits k 0 h) ∙ ap (λ (l : List ℕ). get_or l k 0) a.limits ∙ get_or-take 6 q.limits k 0 h

  pub causes-alike : present_causes p ≡ present_causes q
  unfolding present_causes crossed causes
  causes-alike =
      rw (
        a.formats,
        a.words,
        a.measured,
        fault_limit 0 (omega arith),
        fault_limit 1 (omega arith),
        fault_limit 2 (omega arith),
        fault_limit 3 (omega arith),
        fault_limit 4 (omega arith),
        fault_limit 5 (omega arith),
      )

  pub called-alike : all_at_call p.responses (present_causes p) p.machines ≡ all_at_call q.responses (present_causes q) q.machines
  called-alike = rw (causes-alike, a.responses, a.machines)

  pub ticked-machines : all_at_tick p.responses (present_causes p) p.machines ≡ all_at_tick q.responses (present_causes q) q.machines
  ticked-machines = rw (causes-alike, a.responses, a.machines)

  -- the trip of a step that leaves the same machines
  pub trip_alike : (l m : List ℕ) → l ≡ m → (moved p l).tripped ≡ (moved q m).tripped
  unfolding moved
  trip_alike l m e = rw (causes-alike, a.tripped, a.responses, a.machines, e)

-- a bit that is no warning's has causes alone
module _ (j k : ℕ) where
  abbrev at_bit : Limit → Bool
  at_bit l = eqb (register l) j && eqb l.bit_number k

  abbrev by_causes : List Bool → Bool
  by_causes c = any_of (λ l. get_or c l.number false && at_bit l) faults

  causes-only : (p : Page) → any_of (λ l. present p l.number && at_bit l) faults ≡ by_causes (present_causes p)
  unfolding present_causes causes
  causes-only p = refl

  not_warned : (p : Page) → warning_bit j k ≡ false → caused p j k ≡ by_causes (present_causes p)
  unfolding caused warning_bit
  not_warned p h =
      any_append (λ l. present p l.number && at_bit l) faults warnings
      ∙ ap₂ ◌||◌ (causes-only p) (none_both (λ l. present p l.number) at_bit warnings h)
      ∙ or-false (by_causes (present_causes p))

  pub caused-alike : (p q : Page) → AlikePages p q → warning_bit j k ≡ false → caused p j k ≡ caused q j k
  caused-alike p q a h = not_warned p h ∙ ap by_causes (causes-alike p q a) ∙ sym (not_warned q h)

-- ---- changes

pub settled-alike : (p q : Page) → AlikePages p q → AlikePages (settled p) (settled q)
unfolding settled moved
settled-alike p q a = record {
  operation = a.operation;
  command = a.command;
  limits = a.limits;
  responses = a.responses;
  machines = called-alike p q a;
  words = a.words;
  measured = a.measured;
  bits = λ j k h n. settled-bit p j k h ∙ ap₂ ◌||◌ (a.bits j k h n) (caused-alike j k p q a n) ∙ sym (settled-bit q j k h);
  tripped = trip_alike p q a _ _ (called-alike p q a);
  formats = a.formats;
}

pub ticked-alike : (p q : Page) → AlikePages p q → AlikePages (ticked p) (ticked q)
unfolding ticked moved
ticked-alike p q a = record {
  operation = a.operation;
  command = a.command;
  limits = a.limits;
  responses = a.responses;
  machines = ticked-machines p q a;
  words = a.words;
  measured = a.measured;
  bits = a.bits;
  tripped = trip_alike p q a _ _ (ticked-machines p q a);
  formats = a.formats;
}

-- brought up to date, a page is like one that is
pub current-alike : (p q : Page) → AlikePages p q → UpToDate q → AlikePages (settled p) q
unfolding settled moved
current-alike p q a g = record {
  operation = a.operation;
  command = a.command;
  limits = a.limits;
  responses = a.responses;
  machines = called-alike p q a ∙ g.begun;
  words = a.words;
  measured = a.measured;
  bits = λ j k h n.
      settled-bit p j k h ∙ ap₂ ◌||◌ (a.bits j k h n) (caused-alike j k p q a n)
      ∙ either (caused q j k) (λ y. rw (y, g.latched j k h y)) (λ y. rw (y, or-false (status_bit q j k)));
  tripped = trip_alike p q a _ _ (called-alike p q a) ∙ current-trip q g;
  formats = a.formats;
}

applied-alike : (s : Setting) (p q : Page) → AlikePages p q → AlikePages (applied s p) (applied s q)
unfolding applied set_operation set_vout_command set_limit set_response
applied-alike (Setting.Operation x) p q a = record {
  operation = refl;
  command = a.command;
  limits = a.limits;
  responses = a.responses;
  machines = ap (λ (l : List ℕ). cond (switches_off x) resting l) a.machines;
  words = a.words;
  measured = a.measured;
  bits = a.bits;
  tripped = ap (λ (b : Bool). b && not (switches_off x)) a.tripped;
  formats = a.formats;
}
applied-alike (Setting.VoutCommand w) p q a = record {
  operation = a.operation;
  command = refl;
  limits = a.limits;
  responses = a.responses;
  machines = a.machines;
  words = a.words;
  measured = a.measured;
  bits = a.bits;
  tripped = a.tripped;
  formats = a.formats;
}
applied-alike (Setting.Limit k w) p q a = record {
  operation = a.operation;
  command = a.command;
  limits = take-set 6 p.limits q.limits (k % 11) w a.limits;
  responses = a.responses;
  machines = a.machines;
  words = a.words;
  measured = a.measured;
  bits = a.bits;
  tripped = a.tripped;
  formats = a.formats;
}
applied-alike (Setting.Response k x) p q a = record {
  operation = a.operation;
  command = a.command;
  limits = a.limits;
  responses = ap (λ (l : List ℕ). set l (k % 6) x) a.responses;
  machines = ap (λ (l : List ℕ). set l (k % 6) 0) a.machines;
  words = a.words;
  measured = a.measured;
  bits = a.bits;
  tripped = a.tripped;
  formats = a.formats;
}

cleared-alike : (ms : List ℕ) (p q : Page) → AlikePages p q → AlikePages (clear_bits p ms) (clear_bits q ms)
unfolding clear_bits
cleared-alike ms p q a = record {
  operation = a.operation;
  command = a.command;
  limits = a.limits;
  responses = a.responses;
  machines = a.machines;
  words = a.words;
  measured = a.measured;
  bits = λ j k h n.
      clear_bit p ms j k h ∙ ap (λ (b : Bool). b && not (bit (get_or ms j 0) k)) (a.bits j k h n) ∙ sym (clear_bit q ms j k h);
  tripped = a.tripped;
  formats = a.formats;
}

pub measured-alike : (quantity word : ℕ) (p q : Page) → AlikePages p q
    → AlikePages (settled (set_measurement p quantity word)) (settled (set_measurement q quantity word))
unfolding set_measurement
measured-alike quantity word p q a = settled-alike (set_measurement p quantity word) (set_measurement q quantity word) taken
  where
    taken : AlikePages (set_measurement p quantity word) (set_measurement q quantity word)
    taken = record {
      operation = a.operation;
      command = a.command;
      limits = a.limits;
      responses = a.responses;
      machines = a.machines;
      words = ap (λ (l : List ℕ). set l (quantity % 4) word) a.words;
      measured = ap (λ (l : List Bool). set l (quantity % 4) true) a.measured;
      bits = a.bits;
      tripped = a.tripped;
      formats = a.formats;
    }

pub left-alike : (w : Write) (p q : Page) → AlikePages p q → AlikePages (page_left w p) (page_left w q)
unfolding page_left changed cleared
left-alike Write.Nothing p q a = a
left-alike (Write.SelectPage x) p q a = a
left-alike (Write.Protect x) p q a = a
left-alike (Write.Change s) p q a = settled-alike (applied s p) (applied s q) (applied-alike s p q a)
left-alike (Write.Clear m) p q a =
    settled-alike (clear_bits p (page_masks m)) (clear_bits q (page_masks m)) (cleared-alike (page_masks m) p q a)
left-alike (Write.ClearCml m) p q a = a

-- ---- a warn limit

pub alike_self : (p : Page) → AlikePages p p
alike_self p = record {
  operation = refl;
  command = refl;
  limits = refl;
  responses = refl;
  machines = refl;
  words = refl;
  measured = refl;
  bits = λ j k h n. refl;
  tripped = refl;
  formats = refl;
}

-- set on a page that is up to date, with k from 6 to 10
pub warn_limit-alike : (k w : ℕ) (p : Page) → 6 ≤ k → k < 11 → UpToDate p → AlikePages (page_left (Write.Change (Setting.Limit k w)) p) p
unfolding page_left changed applied set_limit
warn_limit-alike k w p low high g = current-alike (applied (Setting.Limit k w) p) p set-aside g
  where
    set-aside : AlikePages (applied (Setting.Limit k w) p) p
    set-aside = record {
      operation = refl;
      command = refl;
      limits = take-set-le 6 p.limits (k % 11) w (omega arith);
      responses = refl;
      machines = refl;
      words = refl;
      measured = refl;
      bits = λ j k h n. refl;
      tripped = refl;
      formats = refl;
    }

-- ---- what they show

pub valid_alike : (p q : Page) → AlikePages p q → page_valid p ≡ page_valid q
unfolding page_valid
valid_alike p q a = rw (a.operation, a.responses, a.machines, a.formats)

pub supply_alike : SupplyAlike
unfolding SupplyAlike supplies
supply_alike p q a =
    rw (causes-alike p q a, a.operation, a.tripped, a.responses, a.machines)
