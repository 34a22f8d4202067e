-- What is made or tested by a function of each machine's number, as lists of the numbers have it.
-- Assumes nothing.
use Prim.Native.Nat.{ℕ, zero, suc, ◌+◌, ◌<◌}
use mathlib.Core.Path.{◌≡◌, refl, subst, ap, ◌∙◌}
use mathlib.Core.Bool.{Bool}
use mathlib.Core.List.{List, map}
use native.Mathlib.Omega.{arith}
use lib.ListN.{length, get_or}
use denote.Param.Members.{Mut}
use Rattle.std.specs.Array.{IsFromFnResult, IsFromFnResultFrom}
use Rattle.std.specs.Fn.{Called}
use Rattle.std.specs.List.{range_with_len}
use Rattle.std.proofs.lemmas.List.FromFn.{fill_by_all}
use Rattle.laws.specs.Lists.{all_of, any_of}
use Rattle.retry.specs.Machines.{numbers}

-- `array::from_fn` of a function that gives h of each number
module _ {F : Type 0} (g : Mut F (ℕ × Unit {0}) ℕ) (f : F) (h : ℕ → ℕ) (gives : (i y : ℕ) (q : F) → Called g f (i, tt) y q → (q ≡ f) × (y ≡ h i)) where
  made-from : (ys : List ℕ) (i n : ℕ) → IsFromFnResultFrom g f ys i n → (k j : ℕ) → k < n → i + k ≡ j → get_or ys j 0 ≡ h j
  made-from ys i zero r k j l e = absurd (omega arith)
  made-from ys i (suc n) r zero j l e = let s : i ≡ j = omega arith in rw (← s) (r.2.1 0 ∙ (gives i r.1 r.0 r.3).1)
  made-from ys i (suc n) r (suc k) j l e =
      made-from ys (i + 1) n (subst (λ (p : F). IsFromFnResultFrom g p ys (i + 1) n) (gives i r.1 r.0 r.3).0 r.4) k j (omega arith) (omega arith)

  pub made : (ys : List ℕ) (n : ℕ) → IsFromFnResult g f ys n → ys ≡ map h (range_with_len 0 n)
  made ys n r = fill_by_all h ys n 0 r.long (λ k l. made-from ys 0 n r.each k k l (omega arith))

-- a test of six machines, and the test of each by its number
by_number : (xs : List ℕ) → length xs ≡ 6 → xs ≡ map (λ k. get_or xs k 0) numbers
by_number xs e = fill_by_all (λ k. get_or xs k 0) xs 6 0 e (λ k l. refl)

pub any-by_number : (p : ℕ → Bool) (xs : List ℕ) → length xs ≡ 6 → any_of p xs ≡ any_of (λ k. p (get_or xs k 0)) numbers
any-by_number p xs e = ap (any_of p) (by_number xs e)

pub all-by_number : (p : ℕ → Bool) (xs : List ℕ) → length xs ≡ 6 → all_of p xs ≡ all_of (λ k. p (get_or xs k 0)) numbers
all-by_number p xs e = ap (all_of p) (by_number xs e)
