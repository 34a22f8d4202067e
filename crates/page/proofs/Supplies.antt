-- When a page supplies, as a list of plain facts.
-- Assumes nothing.
use Prim.Native.Nat.{ℕ, zero, suc, ◌≤◌, ◌<◌, ◌/◌, ◌%◌}
use mathlib.Core.Path.{◌≡◌, refl, sym, ◌∙◌}
use mathlib.Core.Bool.{Bool, true, false, not, ◌&&◌, and-eq-true_iff, false≢true}
use mathlib.Core.List.{List}
use native.Mathlib.Omega.{arith}
use lib.Dec.{eqb, ltb}
use lib.ListN.{get_or, get_or-append}
use borrow.Author.Tests.{eqb-true, eqb-false, eq-eqb, ltb-true, ltb-false, not-true}
use Rattle.laws.specs.Lists.{any_of}
use Rattle.laws.proofs.Branches.{either, and_yes}
use Rattle.laws.proofs.Every.{agree}
use Rattle.laws.proofs.Lists.{any_at, any_found}
use Rattle.retry.specs.Byte.{machine_of, byte_holds}
use Rattle.retry.specs.Machines.{numbers, any_holds}
use Rattle.retry.proofs.Bytes.{machine_tripped, machine_trying, machine_held}
use Rattle.cause.specs.Causes.{causes, warnings, lasts_at, response_of}
use Rattle.page.specs.declared.Page.{Page}
use Rattle.page.specs.Causes.{present_causes, present_warnings, off_while_lasts, present}
use Rattle.page.specs.Status.{supplies}
use Rattle.page.specs.Supplies.{Lasts, Held, Supplying, SuppliesExactly}

-- ---- a test of none of the six

number_at : (n : ℕ) → n < 6 → get_or numbers n 0 ≡ n
number_at n h = agree (λ n. get_or numbers n 0) (λ n. n) 6 tt n h

module _ (f : ℕ → Bool) where
  none-at : any_of f numbers ≡ false → (n : ℕ) → n < 6 → f n ≡ true → ⊥
  none-at h n small y = false≢true (sym h ∙ any_at 0 f numbers n small (rw (number_at n small) y))

  none_of : ((n : ℕ) → n < 6 → f n ≡ true → ⊥) → any_of f numbers ≡ false
  none_of h =
      either (any_of f numbers)
      (λ y. let w = any_found 0 f numbers y in
      let small : w.0 < 6 = w.1 in
      absurd (h w.0 small (rw (number_at w.0 small) at w.2)))
      (λ e. e)

-- ---- a machine's byte

held-byte : (b : ℕ) → byte_holds b ≡ true → Held b
unfolding byte_holds machine_of
held-byte b h =
    either (ltb b 8)
    (λ y. either (eqb b 0) (λ z. absurd (false≢true (rw z at h))) (λ z. absurd (false≢true (rw (z, y) at h))))
    (λ n. let low = ltb-false b 8 n in
    either (ltb b 64)
    (λ y. let high = ltb-true b 64 y in
    either (eqb (b % 8) 0)
    (λ z. let none = eqb-true (b % 8) 0 z in
    absurd (false≢true (sym (trying low high none) ∙ h)))
    (λ z. record { tries = low; ticks = eqb-false (b % 8) 0 z; untripped = high }))
    (λ m. absurd (false≢true (sym (down (ltb-false b 64 m)) ∙ h))))
  where
    trying : 8 ≤ b → b < 64 → b % 8 ≡ 0 → byte_holds b ≡ false
    trying low high none = rw (machine_trying b (omega arith) high none)

    down : 64 ≤ b → byte_holds b ≡ false
    down far = rw (machine_tripped b far)

byte-held : (b : ℕ) → Held b → byte_holds b ≡ true
unfolding byte_holds
byte-held b h = rw (machine_held b h.tries h.untripped h.ticks)

-- ---- a response byte

lasts-byte : (x : ℕ) → eqb (x / 64) 3 ≡ true → Lasts x
lasts-byte x h = let e = eqb-true (x / 64) 3 h in record { low = omega arith; high = omega arith }

byte-lasts : (x : ℕ) → Lasts x → eqb (x / 64) 3 ≡ true
byte-lasts x h = let a = h.low in let b = h.high in eq-eqb (x / 64) 3 (omega arith)

-- cause n keeps the page off while it lasts, by the table
abbrev keeps : List Bool → List ℕ → ℕ → Bool
keeps c r n = get_or c n false && lasts_at (response_of n).actions (get_or r n 0)

keeps_any : (c : List Bool) (r : List ℕ) → off_while_lasts c r ≡ any_of (keeps c r) numbers
unfolding off_while_lasts causes warnings
keeps_any c r = refl

-- each byte of a cause with a machine has the action, and none of the one without
action : (n x : ℕ) → n < 6 → (n ≡ 1 → ⊥) → lasts_at (response_of n).actions x ≡ eqb (x / 64) 3
unfolding causes warnings
action zero x h other = refl
action (suc zero) x h other = absurd (other refl)
action (suc (suc zero)) x h other = refl
action (suc (suc (suc zero))) x h other = refl
action (suc (suc (suc (suc zero)))) x h other = refl
action (suc (suc (suc (suc (suc zero))))) x h other = refl
action (suc (suc (suc (suc (suc (suc n)))))) x h other = absurd (omega arith)

no_action : (n x : ℕ) → n ≡ 1 → lasts_at (response_of n).actions x ≡ false
unfolding causes warnings
no_action n x e = rw e

module _ (p : Page) where
  cause-at : (n : ℕ) → n < 6 → present p n ≡ get_or (present_causes p) n false
  unfolding present_causes causes warnings
  cause-at n h = get_or-append (present_causes p) (present_warnings p) false n h

  abbrev off : Bool
  off = off_while_lasts (present_causes p) p.responses

  abbrev keep : ℕ → Bool
  keep = keeps (present_causes p) p.responses

  -- ---- none keeps the page off
  none-lasts : off ≡ false → (n : ℕ) → n < 6 → (n ≡ 1 → ⊥) → present p n ≡ true → Lasts (get_or p.responses n 0) → ⊥
  none-lasts h n small other e l =
      none-at keep (sym (keeps_any (present_causes p) p.responses) ∙ h) n small
      (and_yes (get_or (present_causes p) n false) _ (sym (cause-at n small) ∙ e) (action n _ small other ∙ byte-lasts _ l))

  lasts-none : ((n : ℕ) → n < 6 → (n ≡ 1 → ⊥) → present p n ≡ true → Lasts (get_or p.responses n 0) → ⊥) → off ≡ false
  lasts-none h =
      keeps_any (present_causes p) p.responses
      ∙ none_of keep
      (λ n small y.
      let b = (and-eq-true_iff (get_or (present_causes p) n false) (lasts_at (response_of n).actions (get_or p.responses n 0))).0 y in
      either (eqb n 1)
      (λ one. false≢true (sym (no_action n _ (eqb-true n 1 one)) ∙ b.1))
      (λ o. let other = eqb-false n 1 o in
      h n small other (cause-at n small ∙ b.0) (lasts-byte _ (sym (action n _ small other) ∙ b.1))))

  -- ---- none holds it off
  none-held : any_holds p.machines ≡ false → (n : ℕ) → n < 6 → Held (get_or p.machines n 0) → ⊥
  unfolding any_holds
  none-held h n small b = none-at (λ k. byte_holds (get_or p.machines k 0)) h n small (byte-held _ b)

  held_none : ((n : ℕ) → n < 6 → Held (get_or p.machines n 0) → ⊥) → any_holds p.machines ≡ false
  unfolding any_holds
  held_none h = none_of (λ k. byte_holds (get_or p.machines k 0)) (λ n small y. h n small (held-byte _ y))

  -- ---- the four together
  abbrev on : Bool
  on = eqb p.operation 0x80

  supplying : supplies p ≡ true → Supplying p
  unfolding supplies
  supplying h =
      let a = (and-eq-true_iff (on && not p.tripped && not off) (not (any_holds p.machines))).0 h in
      let b = (and-eq-true_iff (on && not p.tripped) (not off)).0 a.0 in
      let c = (and-eq-true_iff on (not p.tripped)).0 b.0 in
      record {
        on = eqb-true p.operation 0x80 c.0;
        untripped = not-true p.tripped c.1;
        lasting = none-lasts (not-true off b.1);
        held = none-held (not-true (any_holds p.machines) a.1);
      }

  supplied : Supplying p → supplies p ≡ true
  unfolding supplies
  supplied s = rw (lasts-none s.lasting, held_none s.held, eq-eqb p.operation 0x80 s.on, s.untripped)

pub supplies-exactly : SuppliesExactly
unfolding SuppliesExactly
supplies-exactly p = (supplying p, supplied p)
