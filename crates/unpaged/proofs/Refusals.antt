-- What a refusal leaves, bit by bit: by computation at each answer; and what sets no bit leaves everything.
-- Assumes nothing.
use Prim.Native.Nat.{ℕ, ◌+◌, ◌*◌, ◌-◌, ◌/◌, ◌%◌, ◌^◌, ◌≤◌, ◌<◌, max}
use mathlib.Core.Path.{◌≡◌, refl, sym, ap, ◌∙◌}
use mathlib.Core.Bool.{Bool, true, false, cond, not, ◌&&◌, ◌||◌, or-false, false≢true}
use mathlib.Core.List.{List, [], ◌∷◌}
use native.Mathlib.Nat.{pow-le-pow_right, div-eq_of_lt}
use native.Mathlib.Omega.{arith}
use lib.Arith.{bin_ind}
use lib.Bits.{bit_or, or_step, or_zero_r}
use lib.Dec.{eqb, ltb, ltb→lt}
use lib.ListN.{get_or}
use Rattle.laws.specs.Bits.{bit}
use borrow.Author.Tests.{eqb-true, ltb-true, ltb-false}
use Rattle.laws.proofs.Bits.{or_bit, NewBit}
use Rattle.laws.proofs.Branches.{either}
use Rattle.laws.proofs.Every.{agree, agree-test, each}
use Rattle.laws.proofs.Lists.{any_at, any_found}
use Rattle.page.specs.Status.{gains}
use Rattle.page.proofs.Bits.{gains-found, gains-made, gains-none}
use Rattle.answer.specs.Answer.{unknown}
use Rattle.unpaged.specs.declared.Unpaged.{Unpaged}
use Rattle.unpaged.specs.Unpaged.{cml_bits, refused}
use Rattle.unpaged.specs.Applies.{is_in}
use Rattle.unpaged.specs.Refusals.{turns, any_turns, RefusalsLeave}

-- bits added a second time change nothing,
or_again : (x w : ℕ) → bit_or x (bit_or x w) ≡ bit_or x w
or_again =
    bin_ind (λ (x : ℕ). (w : ℕ) → bit_or x (bit_or x w) ≡ bit_or x w) (λ w. refl)
    (λ x ih w.
    let s : bit_or x w ≡ bit_or (x / 2) (w / 2) * 2 + max (x % 2) (w % 2) = or_step x w in
    let half : bit_or x w / 2 ≡ bit_or (x / 2) (w / 2) = omega arith in
    let low : bit_or x w % 2 ≡ max (x % 2) (w % 2) = omega arith in
    or_step x (bit_or x w) ∙ rw (half, low, ih (w / 2)) (omega arith))

-- so a byte gains a bit by adding some exactly where it changes
pub gains-or : (x w : ℕ) → gains x (bit_or x w) ≡ not (eqb (bit_or x w) x)
gains-or x w = ap (λ (y : ℕ). not (eqb y x)) (or_again x w)

-- a number that no refusal has is not that of one,
other : (n k x y : ℕ) → unknown n ≡ true → unknown k ≡ false → cond (eqb n k) x y ≡ y
other n k x y h f =
    either (eqb n k) (λ e. absurd (false≢true (sym f ∙ ap unknown (sym (eqb-true n k e)) ∙ h))) (λ e. rw e refl)

pub no_bits : (n : ℕ) → unknown n ≡ true → cml_bits n ≡ 0
unfolding cml_bits
no_bits n h =
    other n 3 _ _ h refl ∙ other n 5 _ _ h refl ∙ other n 6 _ _ h refl ∙ other n 7 _ _ h refl ∙ other n 8 _ _ h refl ∙ other n 9 _ _ h refl
    ∙ other n 10 _ _ h refl ∙ other n 11 _ _ h refl

-- and leaves everything
pub refused-unknown : (u : Unpaged) (n : ℕ) → unknown n ≡ true → refused u n ≡ u
unfolding refused
refused-unknown u n h = rw (no_bits n h, or_zero_r u.cml, gains-none u.cml, or-false u.alert)

pub refused-done : (u : Unpaged) → refused u 0 ≡ u
refused-done u = refused-unknown u 0 refl

abbrev places : List ℕ
places = 7 ∷ 6 ∷ 5 ∷ 4 ∷ 3 ∷ 2 ∷ 1 ∷ 0 ∷ []

-- a byte has eight bits
bit-place : (w k : ℕ) → w < 256 → bit w k ≡ true → k < 8
bit-place w k h e =
    either (ltb k 8) (λ y. ltb-true k 8 y)
    (λ n.
    let far = ltb-false k 8 n in
    let large : 256 ≤ 2 ^ k = pow-le-pow_right {n = 2} (omega arith) far in
    let less : w < 2 ^ k = omega arith in
    let gone : w / 2 ^ k ≡ 0 = div-eq_of_lt less in
    absurd (false≢true (sym (ap (λ (d : ℕ). eqb (d % 2) 1) gone) ∙ e)))

turned : (a b : Bool) → (not a && b) ≡ true → (a ≡ false) × (b ≡ true)
turned false true h = (refl, refl)
turned false false h = absurd (false≢true h)
turned true b h = absurd (false≢true h)

module _ (x w : ℕ) (byte : w < 256) where
  -- a new bit is one of the eight
  shown : NewBit x (bit_or x w) → any_turns x (bit_or x w) ≡ true
  shown b =
      let k = b.place in
      let new : bit w k ≡ true = sym (or_bit x w k ∙ ap (λ (o : Bool). o || bit w k) b.old) ∙ b.new in
      let near = bit-place w k byte new in
      let place : get_or places (7 - k) 0 ≡ k = agree (λ j. get_or places (7 - j) 0) (λ j. j) 8 tt k near in
      any_at 0 (turns x (bit_or x w)) places (7 - k) (omega arith) (rw (place, b.old, b.new) refl)

  -- the bits of w added to x: some bit is new exactly where one of the eight turns
  rises : gains x (bit_or x w) ≡ any_turns x (bit_or x w)
  rises =
      either (gains x (bit_or x w)) (λ g. g ∙ sym (shown (gains-found x (bit_or x w) g)))
      (λ g. either (any_turns x (bit_or x w))
      (λ t.
      let found = any_found 0 (turns x (bit_or x w)) places t in
      let k = get_or places found.0 0 in
      let two = turned (bit x k) (bit (bit_or x w) k) found.2 in
      absurd (false≢true (sym g ∙ gains-made x (bit_or x w) k two.0 two.1)))
      (λ f. g ∙ sym f))

module _ (u : Unpaged) (answer : ℕ) (byte : answer < 256) where
  -- one bit, where f says which answers set it
  one : (k : ℕ) (f : ℕ → Bool) → ((a : ℕ) → a < 256 → bit (cml_bits a) k ≡ f a) → bit (refused u answer).cml k ≡ (bit u.cml k || f answer)
  unfolding refused
  one k f e = or_bit u.cml (cml_bits answer) k ∙ ap (λ (b : Bool). bit u.cml k || b) (e answer byte)

  kept : (k : ℕ) → ((a : ℕ) → a < 256 → bit (cml_bits a) k ≡ false) → bit (refused u answer).cml k ≡ bit u.cml k
  kept k e = one k (λ a. false) e ∙ or-false (bit u.cml k)

  small : cml_bits answer < 256
  unfolding cml_bits
  small = ltb→lt (cml_bits answer) 256 (each (λ a. ltb (cml_bits a) 256) 256 tt answer byte)

pub refusals_leave : RefusalsLeave
unfolding RefusalsLeave refused cml_bits
refusals_leave u answer h =
    record {
      bit7 = one u answer h 7 (λ a. is_in a (3 ∷ 8 ∷ [])) (agree-test (λ a. bit (cml_bits a) 7) (λ a. is_in a (3 ∷ 8 ∷ [])) 256 tt);
      bit6 = one u answer h 6 (λ a. is_in a (6 ∷ 9 ∷ [])) (agree-test (λ a. bit (cml_bits a) 6) (λ a. is_in a (6 ∷ 9 ∷ [])) 256 tt);
      bit5 = one u answer h 5 (λ a. is_in a (7 ∷ [])) (agree-test (λ a. bit (cml_bits a) 5) (λ a. is_in a (7 ∷ [])) 256 tt);
      bit4 = kept u answer h 4 (agree-test (λ a. bit (cml_bits a) 4) (λ a. false) 256 tt);
      bit3 = kept u answer h 3 (agree-test (λ a. bit (cml_bits a) 3) (λ a. false) 256 tt);
      bit2 = kept u answer h 2 (agree-test (λ a. bit (cml_bits a) 2) (λ a. false) 256 tt);
      bit1 = one u answer h 1 (λ a. is_in a (5 ∷ 10 ∷ 11 ∷ [])) (agree-test (λ a. bit (cml_bits a) 1) (λ a. is_in a (5 ∷ 10 ∷ 11 ∷ [])) 256 tt);
      bit0 = kept u answer h 0 (agree-test (λ a. bit (cml_bits a) 0) (λ a. false) 256 tt);
      alert = ap (λ (b : Bool). u.alert || b) (rises u.cml (cml_bits answer) (small u answer h));
      page = refl;
      protect = refl;
      energy = refl;
    }
