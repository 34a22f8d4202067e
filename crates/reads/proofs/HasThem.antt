-- Which coefficients a page has, by the lists of codes: the same as by the meaning of the codes and the table of access.
-- Assumes nothing.
use Prim.Native.Nat.{ℕ, zero, suc, ◌≤◌, ◌<◌}
use mathlib.Core.Path.{◌≡◌, refl, sym, ap, ◌∙◌}
use mathlib.Core.Bool.{Bool, true, false, cond, ◌&&◌, ◌||◌, and-false}
use mathlib.Core.List.{List}
use native.Mathlib.Omega.{arith}
use lib.ListN.{get_or}
use lib.Dec.{eqb, ltb}
use borrow.Author.Tests.{eqb-true, ne_eqb, le-ltb, ltb-true, ltb-false}
use Rattle.laws.proofs.Branches.{either}
use Rattle.laws.proofs.Every.{agree-test}
use Rattle.cause.specs.Causes.{causes, warnings}
use Rattle.command.specs.Table.{table, lookup, entry_of}
use Rattle.command.specs.Meaning.{command_of, setting_of, fault_of, reading_of}
use Rattle.command.specs.Quantity.{carried, quantity_of}
use Rattle.value.specs.declared.format.Format.{Format}
use Rattle.value.specs.Format.{linear_format}
use Rattle.page.specs.declared.Page.{Page}
use Rattle.page.specs.Page.{is_direct}
use Rattle.reads.specs.Coefficients.{has_direction, has_coefficients}
use Rattle.reads.specs.Applies.{goes, has_them}

-- the mark of quantity q, of three marks
abbrev picked : Bool → Bool → Bool → ℕ → Bool
picked x y z q = cond (eqb q 1) x (cond (eqb q 2) y (cond (eqb q 3) z false))

is_picked : (fs : List Format) (q : ℕ)
    → is_direct fs q ≡ picked (get_or fs 0 linear_format).direct (get_or fs 1 linear_format).direct (get_or fs 2 linear_format).direct q
is_picked fs zero = refl
is_picked fs (suc zero) = refl
is_picked fs (suc (suc zero)) = refl
is_picked fs (suc (suc (suc zero))) = refl
is_picked fs (suc (suc (suc (suc q)))) =
    let k = suc (suc (suc (suc q))) in
    simp (le-ltb k 4 (omega arith), ne_eqb k 1 (λ e. omega arith), ne_eqb k 2 (λ e. omega arith), ne_eqb k 3 (λ e. omega arith), and-false)

-- both rules, of the three marks, a direction and a code
abbrev by_meaning : Bool → Bool → Bool → ℕ → ℕ → Bool
by_meaning x y z d c = picked x y z (quantity_of c) && has_direction (lookup c) d

abbrev by_lists : Bool → Bool → Bool → ℕ → ℕ → Bool
by_lists x y z d c = (x && goes 0 c d) || ((y && goes 1 c d) || ((z && goes 2 c d) || false))

-- in either direction at each of the 256 codes
same_read : (x y z : Bool) (c : ℕ) → c < 256 → by_lists x y z 1 c ≡ by_meaning x y z 1 c
unfolding quantity_of carried command_of setting_of fault_of reading_of causes warnings has_direction lookup entry_of table
same_read true true true c h = agree-test (by_lists true true true 1) (by_meaning true true true 1) 256 tt c h
same_read true true false c h = agree-test (by_lists true true false 1) (by_meaning true true false 1) 256 tt c h
same_read true false true c h = agree-test (by_lists true false true 1) (by_meaning true false true 1) 256 tt c h
same_read true false false c h = agree-test (by_lists true false false 1) (by_meaning true false false 1) 256 tt c h
same_read false true true c h = agree-test (by_lists false true true 1) (by_meaning false true true 1) 256 tt c h
same_read false true false c h = agree-test (by_lists false true false 1) (by_meaning false true false 1) 256 tt c h
same_read false false true c h = agree-test (by_lists false false true 1) (by_meaning false false true 1) 256 tt c h
same_read false false false c h = agree-test (by_lists false false false 1) (by_meaning false false false 1) 256 tt c h

same_write : (x y z : Bool) (c : ℕ) → c < 256 → by_lists x y z 0 c ≡ by_meaning x y z 0 c
unfolding quantity_of carried command_of setting_of fault_of reading_of causes warnings has_direction lookup entry_of table
same_write true true true c h = agree-test (by_lists true true true 0) (by_meaning true true true 0) 256 tt c h
same_write true true false c h = agree-test (by_lists true true false 0) (by_meaning true true false 0) 256 tt c h
same_write true false true c h = agree-test (by_lists true false true 0) (by_meaning true false true 0) 256 tt c h
same_write true false false c h = agree-test (by_lists true false false 0) (by_meaning true false false 0) 256 tt c h
same_write false true true c h = agree-test (by_lists false true true 0) (by_meaning false true true 0) 256 tt c h
same_write false true false c h = agree-test (by_lists false true false 0) (by_meaning false true false 0) 256 tt c h
same_write false false true c h = agree-test (by_lists false false true 0) (by_meaning false false true 0) 256 tt c h
same_write false false false c h = agree-test (by_lists false false false 0) (by_meaning false false false 0) 256 tt c h

-- no other direction, and no code past the bytes
same_other : (x y z : Bool) (d c : ℕ) → eqb d 1 ≡ false → eqb d 0 ≡ false → by_lists x y z d c ≡ by_meaning x y z d c
unfolding has_direction
same_other x y z d c e f = simp (e, f, and-false)

same_past : (x y z : Bool) (d c : ℕ) → 256 ≤ c → by_lists x y z d c ≡ by_meaning x y z d c
unfolding quantity_of carried command_of
same_past x y z d c h =
    simp (
      le-ltb c 0x31 (omega arith),
      le-ltb c 0x40 (omega arith),
      le-ltb c 0x5B (omega arith),
      le-ltb c 0x78 (omega arith),
      le-ltb c 0x7F (omega arith),
      le-ltb c 0x86 (omega arith),
      le-ltb c 0x99 (omega arith),
      far 0x78 (omega arith),
      far 0x79 (omega arith),
      far 0x46 (omega arith),
      far 0x4A (omega arith),
      far 0x55 (omega arith),
      far 0x57 (omega arith),
      far 0x58 (omega arith),
      far 0x59 (omega arith),
      far 0x4F (omega arith),
      far 0x51 (omega arith),
      far 0x53 (omega arith),
      far 0x8C (omega arith),
      far 0x88 (omega arith),
      far 0x8D (omega arith),
      and-false,
    )
  where
    far : (k : ℕ) → k < 256 → eqb c k ≡ false
    far k l = ne_eqb c k (λ e. omega arith)

same : (x y z : Bool) (d c : ℕ) → by_lists x y z d c ≡ by_meaning x y z d c
same x y z d c =
    either (ltb c 256)
    (λ l. let h = ltb-true c 256 l in
    either (eqb d 1) (λ e. rw (eqb-true d 1 e) (same_read x y z c h))
    (λ e. either (eqb d 0) (λ f. rw (eqb-true d 0 f) (same_write x y z c h)) (λ f. same_other x y z d c e f)))
    (λ l. same_past x y z d c (ltb-false c 256 l))

pub has_them_lem : (p : Page) (c d : ℕ) → has_coefficients p c d ≡ has_them p.formats c d
unfolding has_coefficients
has_them_lem p c d =
    ap (λ (b : Bool). b && has_direction (lookup c) d) (is_picked p.formats (quantity_of c)) ∙ sym (same _ _ _ d c)
