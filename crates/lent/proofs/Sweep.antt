-- A loop that changes each element of a list by f and gathers whether a pair of old and new passes the test p: the facts of one turn, and of
-- the end. d stands past the end where an element is read.
-- Assumes nothing.
use Rattle.std.proofs.Common.{◌≡◌, ℕ, ◌+◌, ◌-◌, ◌<◌, ◌≤◌, Bool, ◌||◌, List, ◌++◌, length, get_or, take, drop, map, sym, ap, ◌∙◌, add-one, arith}
use Rattle.std.proofs.Math.Bool.{or-false, or_assoc}
use Rattle.std.proofs.Math.ListN.{drop_of_length-le, length-map, length-take}
use Rattle.std.proofs.Math.Seq.{drop-cons}
use Rattle.std.proofs.lemmas.List.{get_or-append_right, get_or-drop}
use Rattle.laws.specs.Lists.{any_pair}

module _ {A : Type 0} (d : A) (f : A → A) (p : A → A → Bool) (l : List A) (i : ℕ) where
  -- the element at hand is as it was
  pub swept_here : (zs : List A) → i < length l → zs ≡ map f (take i l) ++ drop i l → get_or zs i d ≡ get_or l i d
  swept_here zs h inv =
      let long : length (map f (take i l)) ≡ i = length-map (take i l) f ∙ length-take i l ∙ omega arith in
      let here : i + (i - i) ≡ i = omega arith in
      ap (λ (t : List A). get_or t i d) inv
      ∙ get_or-append_right (map f (take i l)) (drop i l) i i d long (omega arith)
      ∙ get_or-drop i l (i - i) d
      ∙ ap (λ (k : ℕ). get_or l k d) here

  pub found_more : (c r : Bool) → i < length l → r ≡ p (get_or l i d) (f (get_or l i d)) → (c || any_pair p (drop i l) (map f (drop i l))) ≡ any_pair p l (map f l)
      → ((c || r) || any_pair p (drop (i + 1) l) (map f (drop (i + 1) l))) ≡ any_pair p l (map f l)
  found_more c r h e inv = rw (e, add-one, or_assoc) (rw (drop-cons l i d h) at inv)

  pub found_all : (c : Bool) → length l ≤ i → (c || any_pair p (drop i l) (map f (drop i l))) ≡ any_pair p l (map f l) → c ≡ any_pair p l (map f l)
  found_all c h inv = sym (or-false c) ∙ (rw (drop_of_length-le l h) at inv)
