-- A record that was taken out: it is the page of the state where the call has that page, and put back as it was it changes nothing. No call
-- with more than 96 records is accepted.
-- Assumes nothing.
use Prim.Native.Nat.{ℕ, zero, suc}
use mathlib.Core.Path.{◌≡◌, refl, ap}
use mathlib.Core.Bool.{true, false, ◌&&◌, and-eq-true_iff, and-false}
use mathlib.Core.List.{List, [], ◌∷◌}
use lib.Dec.{ltb}
use lib.ListN.{length, get_or, set, get_or-eq_default}
use borrow.Author.Tests.{ltb-true, ltb-false}
use Rattle.std.proofs.lemmas.List.{get_or_default}
use Rattle.laws.proofs.Branches.{either}
use Rattle.page.specs.declared.Page.{Page}
use Rattle.page.specs.Page.{no_page, power_on_page}
use Rattle.page.specs.Status.{supplies}
use Rattle.unpaged.specs.declared.Unpaged.{Unpaged}
use Rattle.device.specs.Device.{device, device_valid, supported}
use Rattle.device.specs.Step.{Call, answered}
use Rattle.device.proofs.States.{valid_parts}
use Rattle.records.specs.Records.{taken, put_back}

pub put_back_lem : {A : Type 0} (d : A) (l : List A) (i : ℕ) → set l i (get_or l i d) ≡ l
put_back_lem d [] i = refl
put_back_lem d (x ∷ l) zero = refl
put_back_lem d (x ∷ l) (suc i) = ap {B = List _} (λ r. x ∷ r) (put_back_lem d l i)

-- at most 96 records,
module _ (ps : List Page) (i : ℕ) (few : ltb (length ps) 97 ≡ true) where
  pub few_taken : taken ps i ≡ get_or ps i power_on_page
  unfolding taken
  few_taken = rw few

  pub few_put : (p : Page) → put_back ps i p ≡ set ps i p
  unfolding put_back
  few_put p = rw few

-- as a valid state has,
pub valid_few : (u : Unpaged) (ps : List Page) → device_valid (device u ps) ≡ true → ltb (length ps) 97 ≡ true
unfolding supported
valid_few u ps v = ((and-eq-true_iff (ltb 0 (length ps)) (ltb (length ps) 97)).0 (valid_parts (device u ps) v).number).1

-- and more
module _ (ps : List Page) (many : ltb (length ps) 97 ≡ false) where
  pub many_put : (i : ℕ) (p : Page) → put_back ps i p ≡ ps
  unfolding put_back
  many_put i p = rw many

  pub many_answered : (u : Unpaged) (c : Call) → answered (device u ps) c ≡ 15
  unfolding answered device_valid supported
  many_answered u c = rw (many, and-false (ltb 0 (length ps)))

-- no page beyond the records supplies
off : supplies power_on_page ≡ false
unfolding supplies power_on_page
off = refl

pub supplies-taken : (ps : List Page) (i : ℕ) → supplies (get_or ps i power_on_page) ≡ (ltb i (length ps) && supplies (get_or ps i no_page))
supplies-taken ps i =
    either (ltb i (length ps)) (λ y. rw (y, get_or_default ps i power_on_page no_page (ltb-true i (length ps) y)))
    (λ n. rw (n, get_or-eq_default ps power_on_page (ltb-false i (length ps) n)) off)
