-- What `all` and `any` over the elements of a slice answer, as the tests over lists that contracts name.
-- Assumes nothing.
use Rattle.std.proofs.Common.{◌≡◌, ℕ, ◌<◌, Bool, true, false, ◌&&◌, ◌||◌, List, [], ◌∷◌, length, refl, ap, arith}
use mathlib.Core.Path.{sym, ◌∙◌}
use Rattle.std.specs.Bool.{MatchBool}
use Rattle.std.specs.List.{list_all, list_any, AllWithin, HoldsAt}
use Rattle.std.proofs.lemmas.List.Sums.{list_all-from_AllPass}
use Rattle.std.proofs.lemmas.List.Folds.{list_all_at, list_any_at, list_any_none}
use Rattle.std.proofs.lemmas.List.Elements.{All-from_all_within}
use Rattle.std.proofs.lemmas.Iterator.{cases_from_all, cases_from_any, YieldsList-from_slice}
use Rattle.std.proofs.iter.Yields.{fronts}
use Rattle.std.specs.Fn.{Called}
use Rattle.std.specs.Iterator.{ChecksAll, ChecksAny}
use Rattle.std.specs.declared.slice.Iter.{Iter}
use Rattle.std.specs.Slice.Iter.{iter_rest}
use denote.Param.Members.{Mut}
use denote.Ref.{Bor}
use Rattle.laws.specs.Lists.{all_of, any_of}

module _ {A : Type 0} (p : A → Bool) where
  all_of-std : (l : List A) → all_of p l ≡ list_all p l
  all_of-std [] = refl
  all_of-std (x ∷ l) = ap (λ (b : Bool). p x && b) (all_of-std l)

  any_of-std : (l : List A) → any_of p l ≡ list_any p l
  any_of-std [] = refl
  any_of-std (x ∷ l) = ap (λ (b : Bool). p x || b) (any_of-std l)

  -- `all`: true where every element passes, false where one does not
  pub all_of-cases : (l : List A) (r : Bool) → MatchBool r (AllWithin (λ x. p x ≡ true) l 0 (length l)) ((k : ℕ) × (k < length l) × HoldsAt (λ x. p x ≡ false) l k) → r ≡ all_of p l
  all_of-cases l true h = sym (all_of-std l ∙ list_all-from_AllPass p l (All-from_all_within (λ x. p x ≡ true) l h))
  all_of-cases [] false (k, h, f) = grind arith
  all_of-cases (x ∷ l) false (k, h, f) = sym (all_of-std (x ∷ l) ∙ list_all_at p (x ∷ l) k x h (f x))

  -- `any`: true where some element passes, false where none does
  pub any_of-cases : (l : List A) (r : Bool) → MatchBool r ((k : ℕ) × (k < length l) × HoldsAt (λ x. p x ≡ true) l k) (AllWithin (λ x. p x ≡ false) l 0 (length l)) → r ≡ any_of p l
  any_of-cases l false h = sym (any_of-std l ∙ list_any_none p l (All-from_all_within (λ x. p x ≡ false) l h))
  any_of-cases [] true (k, h, f) = grind arith
  any_of-cases (x ∷ l) true (k, h, f) = sym (any_of-std (x ∷ l) ∙ list_any_at p (x ∷ l) k x h (f x))

-- `s.iter().all(f)` and `s.iter().any(f)`, where f answers p of each element: the call's clause `ran`, whose elements are l, and f's two answers.
module _ {A F : Type 0} {g : Mut F (Bor A × Unit {0}) Bool} {s : Iter A} (p : A → Bool) (l : List A) (u : Iter A) (f : F) (r : Bool) where
  pub all_of-iter : ChecksAll fronts g s f r u → ((x : Bor A) (q : F) → Called g f (x, tt) true q → (q ≡ f) × (p x.now ≡ true)) → ((x : Bor A) (q : F) → Called g f (x, tt) false q → p x.now ≡ false) → iter_rest s ≡ l → r ≡ all_of p l
  all_of-iter ran passes fails e = all_of-cases p l r (cases_from_all u f r (λ x. p x ≡ true) (λ x. p x ≡ false) ran (YieldsList-from_slice l e) passes fails)

  pub any_of-iter : ChecksAny fronts g s f r u → ((x : Bor A) (q : F) → Called g f (x, tt) true q → p x.now ≡ true) → ((x : Bor A) (q : F) → Called g f (x, tt) false q → (q ≡ f) × (p x.now ≡ false)) → iter_rest s ≡ l → r ≡ any_of p l
  any_of-iter ran passes fails e = any_of-cases p l r (cases_from_any u f r (λ x. p x ≡ true) (λ x. p x ≡ false) ran (YieldsList-from_slice l e) passes fails)
