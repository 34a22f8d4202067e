-- The answer of a reply to the totalizer is the lowest that applies, and what it leaves.
-- Assumes nothing.
use Rattle.std.proofs.Common.{◌≡◌, ℕ, ◌+◌, ◌*◌, ◌^◌, Bool, true, false, cond, not, ◌&&◌, ◌||◌, eqb, ltb, List, ◌∷◌, length, get_or, take, sym, refl, ap, ◌∙◌, subst, arith}
use mathlib.Core.Bool.{false≢true}
use borrow.Author.Tests.{eqb-false}
use Rattle.laws.proofs.Branches.{either}
use Rattle.laws.specs.Lines.{lowest}
use Rattle.pec.specs.Pec.{pec}
use Rattle.account.specs.declared.Account.{Account}
use Rattle.account.specs.Account.{account_valid, energy_reading, account_of}
use Rattle.replies.specs.Applies.{RepliesApply}
use Rattle.replies.proofs.Applies.{replies_apply}
use Rattle.totalizer.specs.declared.Totalizer.{Totalizer}
use Rattle.totalizer.specs.declared.Taken.{Taken}
use Rattle.totalizer.specs.Totalizer.{totalizer, answered, energy_answer, next_energy, next_samples, added, booked, totalize}
use Rattle.totalizer.specs.Applies.{last_in_range, room_for, take_lines, TakesApply}
use Rattle.totalizer.proofs.Outcomes.{not_full, refused-closed, start, later}

-- ---- a reply that passed

module _ (t : Totalizer) (a : Account) where
  abbrev room : Bool
  room = ltb (next_energy t a) (2 ^ 64) && ltb (next_samples t a) (2 ^ 64)

  added-done : room ≡ true → added t a ≡ answered 0 (totalizer true t.closed a (next_energy t a) (next_samples t a))
  unfolding added
  added-done r = rw r

  added_full : room ≡ false → added t a ≡ answered 24 (totalizer t.started true t.last t.energy t.samples)
  unfolding added
  added_full r = rw r

  -- a case for each outcome
  cases : (X : Taken → Type 0) → (t.closed ≡ true → X (answered 24 t))
      → (t.closed ≡ false → t.started ≡ false → X (answered 0 (totalizer true false a 0 0)))
      → (t.closed ≡ false → t.started ≡ true → room ≡ true
      → X (answered 0 (totalizer true t.closed a (next_energy t a) (next_samples t a))))
      → (t.closed ≡ false → t.started ≡ true → room ≡ false
      → X (answered 24 (totalizer t.started true t.last t.energy t.samples)))
      → X (booked t a)
  cases X f g h k =
      either t.closed (λ c. subst X (sym (refused-closed t a c)) (f c))
      (λ o. either t.started
      (λ y. either room (λ r. subst X (sym (later t a o y ∙ added-done r)) (h o y r))
      (λ r. subst X (sym (later t a o y ∙ added_full r)) (k o y r)))
      (λ n. subst X (sym (start t a o n)) (g o n)))

  -- 24 where it is closed, or started and without room
  abbrev full : Bool → Bool → Bool → ℕ
  full closed started r = cond (closed || (started && not r)) 24 0

  booked-answer : (booked t a).answer ≡ full t.closed t.started room
  booked-answer =
      cases (λ (k : Taken). k.answer ≡ full t.closed t.started room)
      (λ c. sym (ap (λ (x : Bool). full x t.started room) c))
      (λ o n. sym (ap (λ (x : Bool). full x t.started room) o ∙ ap (λ (x : Bool). full false x room) n))
      (λ o y r. sym (ap (λ (x : Bool). full x t.started room) o ∙ ap (λ (x : Bool). full false x room) y ∙ ap (full false true) r))
      (λ o y r. sym (ap (λ (x : Bool). full x t.started room) o ∙ ap (λ (x : Bool). full false x room) y ∙ ap (full false true) r))

-- the choices, by every test
chain : (v a b c d : Bool) (x : ℕ)
    → cond (not v) 15 (cond (not (eqb (cond a 20 (cond b 21 (cond c 22 (cond d 23 0)))) 0)) (cond a 20 (cond b 21 (cond c 22 (cond d 23 0)))) x)
    ≡ cond (not v) 15 (cond a 20 (cond b 21 (cond c 22 (cond d 23 x))))
chain false a b c d x = refl
chain true true b c d x = refl
chain true false true c d x = refl
chain true false false true d x = refl
chain true false false false true x = refl
chain true false false false false x = refl

module _ (code : ℕ) (t : Totalizer) (s : List ℕ) where
  answers : (totalize code t s).answer ≡ cond (not (account_valid t.last)) 15
      (cond (not (eqb (energy_answer code s) 0)) (energy_answer code s) (booked t (account_of s)).answer)
  unfolding totalize
  answers =
      either (account_valid t.last)
      (λ v. either (eqb (energy_answer code s) 0) (λ e. rw (v, e)) (λ e. rw (v, e)))
      (λ v. rw v)

  lines : energy_answer code s
      ≡ cond (not (eqb (length s) 8)) 20 (cond (not (eqb (pec (0xC0 ∷ code ∷ 0xC1 ∷ take 7 s)) (get_or s 7 0))) 21
      (cond (not (eqb (get_or s 0 0) 6)) 22 (cond (ltb 0x7FFF (get_or s 1 0 + get_or s 2 0 * 256)) 23 0)))
  unfolding RepliesApply
  lines = replies_apply code 7 true true s

  lowest-applies : (totalize code t s).answer ≡ lowest (take_lines code t s)
  unfolding account_valid account_of energy_reading next_energy next_samples
  lowest-applies =
      answers
      ∙ rw (lines, booked-answer t (account_of s))
      (chain (last_in_range t) (not (eqb (length s) 8)) (not (eqb (pec (0xC0 ∷ code ∷ 0xC1 ∷ take 7 s)) (get_or s 7 0))) (not (eqb (get_or s 0 0) 6))
      (ltb 0x7FFF (get_or s 1 0 + get_or s 2 0 * 256)) (cond (t.closed || (t.started && not (room_for t s))) 24 0))

-- ---- what is left

abbrev shut : Totalizer → Totalizer
shut t = totalizer t.started true t.last t.energy t.samples

abbrev Leaves : Totalizer → Taken → Type 0
Leaves t k = (k.answer ≡ 24 → k.totalizer ≡ shut t) × ((k.answer ≡ 0 → ⊥) → (k.answer ≡ 24 → ⊥) → k.totalizer ≡ t)

-- a closed totalizer is its own
shut_again : (t : Totalizer) → t.closed ≡ true → t ≡ shut t
shut_again t e = ap (λ (c : Bool). totalizer t.started c t.last t.energy t.samples) e

refused-leaves : (t : Totalizer) (n : ℕ) → (n ≡ 24 → ⊥) → Leaves t (answered n t)
refused-leaves t n h = (λ e. absurd (h e), λ a b. refl)

done-leaves : (t u : Totalizer) → Leaves t (answered 0 u)
done-leaves t u = (λ e. absurd (let z : ◌≡◌ {A = ℕ} 0 24 = e in omega arith), λ a b. absurd (a refl))

full_leaves : (t u : Totalizer) → u ≡ shut t → Leaves t (answered 24 u)
full_leaves t u e = (λ z. e, λ a b. absurd (b refl))

booked-leaves : (t : Totalizer) (a : Account) → Leaves t (booked t a)
booked-leaves t a =
    cases t a (Leaves t)
    (λ c. full_leaves t t (shut_again t c))
    (λ o n. done-leaves t (totalizer true false a 0 0))
    (λ o y r. done-leaves t (totalizer true t.closed a (next_energy t a) (next_samples t a)))
    (λ o y r. full_leaves t (shut t) refl)

module _ (code : ℕ) (t : Totalizer) (s : List ℕ) where
  invalid : account_valid t.last ≡ false → totalize code t s ≡ answered 15 t
  unfolding totalize
  invalid v = rw v

  failed : account_valid t.last ≡ true → eqb (energy_answer code s) 0 ≡ false → totalize code t s ≡ answered (energy_answer code s) t
  unfolding totalize
  failed v e = rw (v, e)

  passed : account_valid t.last ≡ true → eqb (energy_answer code s) 0 ≡ true → totalize code t s ≡ booked t (account_of s)
  unfolding totalize
  passed v e = rw (v, e)

  taken-leaves : Leaves t (totalize code t s)
  taken-leaves =
      either (account_valid t.last)
      (λ v. either (eqb (energy_answer code s) 0)
      (λ e. subst (Leaves t) (sym (passed v e)) (booked-leaves t (account_of s)))
      (λ e. subst (Leaves t) (sym (failed v e))
      (refused-leaves t (energy_answer code s) (eqb-false (energy_answer code s) 24 (not_full code s)))))
      (λ v. subst (Leaves t) (sym (invalid v)) (refused-leaves t 15 (λ z. omega arith)))

-- ---- what an accepted reply leaves

abbrev Books : Totalizer → Account → Taken → Type 0
Books t a k =
    (k.answer ≡ 0 → t.started ≡ false → k.totalizer ≡ totalizer true false a 0 0)
    × (k.answer ≡ 0 → t.started ≡ true → k.totalizer ≡ totalizer true false a (next_energy t a) (next_samples t a))

refused-books : (t u : Totalizer) (a : Account) (n : ℕ) → (n ≡ 0 → ⊥) → Books t a (answered n u)
refused-books t u a n h = (λ e s. absurd (h e), λ e s. absurd (h e))

booked-books : (t : Totalizer) (a : Account) → Books t a (booked t a)
booked-books t a =
    cases t a (Books t a)
    (λ c. refused-books t t a 24 (λ z. omega arith))
    (λ o n. (λ e s. refl, λ e s. absurd (false≢true (sym n ∙ s))))
    (λ o y r. (λ e s. absurd (false≢true (sym s ∙ y)), λ e s. ap (λ (c : Bool). totalizer true c a (next_energy t a) (next_samples t a)) o))
    (λ o y r. refused-books t (shut t) a 24 (λ z. omega arith))

taken-books : (code : ℕ) (t : Totalizer) (s : List ℕ) → Books t (account_of s) (totalize code t s)
taken-books code t s =
    let a = account_of s in
    either (account_valid t.last)
    (λ v. either (eqb (energy_answer code s) 0)
    (λ e. subst (Books t a) (sym (passed code t s v e)) (booked-books t a))
    (λ e. subst (Books t a) (sym (failed code t s v e)) (refused-books t t a (energy_answer code s) (eqb-false (energy_answer code s) 0 e))))
    (λ v. subst (Books t a) (sym (invalid code t s v)) (refused-books t t a 15 (λ z. omega arith)))

pub takes_apply : TakesApply
unfolding TakesApply account_of energy_reading next_energy next_samples
takes_apply code t s =
    let k = taken-leaves code t s in
    let b = taken-books code t s in
    record { answer = lowest-applies code t s; full = k.0; refused = k.1; first = b.0; later = b.1 }
