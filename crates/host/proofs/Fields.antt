-- The fields of a reply.
-- Assumes nothing.
use Prim.Native.Nat.{ℕ, ◌+◌, ◌*◌, ◌<◌}
use mathlib.Core.Path.{◌≡◌, refl, ap, ap₂, ◌∙◌}
use mathlib.Core.Logic.{inl, inr}
use mathlib.Core.Bool.{Bool, true, not, ◌&&◌, ◌||◌, and-eq-true_iff}
use mathlib.Core.List.{List}
use native.Mathlib.Omega.{arith}
use lib.Dec.{eqb}
use lib.ListN.{get_or}
use borrow.Author.Tests.{eqb-true, eq-eqb, ne_eqb}
use Rattle.laws.proofs.Branches.{either}
use Rattle.laws.proofs.Every.{agree-test}
use Rattle.account.specs.Account.{account, account_of}
use Rattle.command.specs.Table.{table, entry_of, lookup}
use Rattle.host.specs.Parse.{parse_answer, reply, refused_reply, fields_of, parsed}
use Rattle.host.specs.Fields.{FieldsRead, DataKinds}

-- ---- which numbers of data bytes there are, by computation over all codes

abbrev kind : ℕ → Bool
kind c =
    not (lookup c).read || (eqb (lookup c).length 1 || (eqb (lookup c).length 2 || (eqb (lookup c).length 7 && eqb c 0x86)))

every_kind : (c : ℕ) → c < 256 → kind c ≡ true
unfolding lookup table entry_of
every_kind c h = agree-test kind (λ c. true) 256 tt c h

pub data_kinds : DataKinds
unfolding DataKinds
data_kinds c h r =
    let k : (eqb (lookup c).length 1 || (eqb (lookup c).length 2 || (eqb (lookup c).length 7 && eqb c 0x86))) ≡ true =
    rw r at (every_kind c h) in
    either (eqb (lookup c).length 1) (λ y. inl (eqb-true (lookup c).length 1 y))
    (λ n1. either (eqb (lookup c).length 2) (λ y. inr (inl (eqb-true (lookup c).length 2 y)))
    (λ n2.
    let both = (and-eq-true_iff (eqb (lookup c).length 7) (eqb c 0x86)).0 (rw (n1, n2) at k) in
    inr (inr (eqb-true (lookup c).length 7 both.0, eqb-true c 0x86 both.1))))

-- ---- what is read

module _ (code : ℕ) (check : Bool) (s : List ℕ) where
  refused : (parse_answer code check s ≡ 0 → ⊥) → parsed code check s ≡ refused_reply (parse_answer code check s)
  unfolding parsed
  refused h = rw (ne_eqb (parse_answer code check s) 0 h)

  done : parse_answer code check s ≡ 0 → parsed code check s ≡ fields_of (lookup code).length s
  unfolding parsed
  done h = rw (eq-eqb (parse_answer code check s) 0 h)

module _ (s : List ℕ) where
  one : fields_of 1 s ≡ reply 0 (get_or s 0 0) 0 (account 0 0 0)
  unfolding fields_of
  one = refl

  two : fields_of 2 s ≡ reply 0 0 (get_or s 0 0 + 256 * get_or s 1 0) (account 0 0 0)
  unfolding fields_of
  two =
      let e : get_or s 0 0 + get_or s 1 0 * 256 ≡ get_or s 0 0 + 256 * get_or s 1 0 = omega arith in
      ap (λ (w : ℕ). reply 0 0 w (account 0 0 0)) e

  seven : fields_of 7 s ≡ reply 0 0 0
      (account (get_or s 1 0 + 256 * get_or s 2 0) (get_or s 3 0) (get_or s 4 0 + 256 * get_or s 5 0 + 65536 * get_or s 6 0))
  unfolding fields_of account_of
  seven =
      let e : get_or s 1 0 + get_or s 2 0 * 256 ≡ get_or s 1 0 + 256 * get_or s 2 0 = omega arith in
      let f : get_or s 4 0 + get_or s 5 0 * 256 + get_or s 6 0 * 65536 ≡ get_or s 4 0 + 256 * get_or s 5 0 + 65536 * get_or s 6 0
      = omega arith in
      ap₂ (λ (x y : ℕ). reply 0 0 0 (account x (get_or s 3 0) y)) e f

pub fields_read : FieldsRead
unfolding FieldsRead
fields_read code check s =
    record {
      refused = refused code check s;
      one = λ z e. done code check s z ∙ ap (λ (k : ℕ). fields_of k s) e ∙ one s;
      two = λ z e. done code check s z ∙ ap (λ (k : ℕ). fields_of k s) e ∙ two s;
      seven = λ z e. done code check s z ∙ ap (λ (k : ℕ). fields_of k s) e ∙ seven s;
    }
