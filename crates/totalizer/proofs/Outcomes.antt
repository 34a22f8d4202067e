-- What the totalizer's definitions are at each outcome, from plain facts.
-- Assumes nothing.
use Rattle.std.proofs.Common.{◌≡◌, ℕ, zero, suc, ◌+◌, ◌-◌, ◌*◌, ◌/◌, ◌%◌, ◌<◌, Bool, true, false, eqb, ltb, List, length, get_or, ◌∙◌, arith, lt-ltb, eq-eqb, ne_eqb}
use Rattle.std.proofs.Math.Nat.{mod-mod_of_dvd, mod-add-div', add-mul-mod_self_right}
use Rattle.std.proofs.lemmas.Nat.Gcd.{dvd_of_mod-eq-zero}
use Rattle.laws.proofs.Branches.{either}
use Rattle.account.specs.declared.Account.{Account}
use Rattle.account.specs.Account.{account_valid, energy_reading, account_of}
use Rattle.account.proofs.Laws.{in_range}
use Rattle.replies.specs.Replies.{clocked_for, reply_check, check_holds, account_answer, reply_answer}
use Rattle.totalizer.specs.declared.Totalizer.{Totalizer}
use Rattle.totalizer.specs.Totalizer.{totalizer, answered, gap, energy_answer, added, booked}

-- ---- a valid account's reading has 23 bits

pub reading-lt : (a : Account) → account_valid a ≡ true → energy_reading a < 8388608
unfolding energy_reading
reading-lt a v = omega (arith, in_range a v)

-- ---- a reply of eight bytes

module _ (code : ℕ) (s : List ℕ) (l : length s ≡ 8) where
  pub bad_check : (reply_check code 7 s ≡ get_or s 7 0 → ⊥) → energy_answer code s ≡ 21
  unfolding reply_answer clocked_for check_holds
  bad_check h = rw (eq-eqb _ _ l, ne_eqb _ _ h)

  pub passes : reply_check code 7 s ≡ get_or s 7 0 → get_or s 0 0 ≡ 6 → (account_of s).accumulator < 32768 → energy_answer code s ≡ 0
  unfolding reply_answer clocked_for check_holds account_answer
  passes h k m = rw (eq-eqb _ _ l, eq-eqb _ _ h, eq-eqb _ _ k, lt-ltb _ _ m)

-- none of the tests of a reply gives 24
never_full : (code k : ℕ) (check energy : Bool) (s : List ℕ) → eqb (reply_answer code k check energy s) 24 ≡ false
unfolding reply_answer account_answer
never_full code k check energy s =
    either (eqb (length s) (clocked_for k check))
    (λ e. either (check_holds code k check s)
    (λ f. either energy
    (λ g. either (eqb (get_or s 0 0) 6)
    (λ h. either (ltb (account_of s).accumulator 32768) (λ i. rw (e, f, g, h, i)) (λ i. rw (e, f, g, h, i)))
    (λ h. rw (e, f, g, h)))
    (λ g. rw (e, f, g)))
    (λ f. rw (e, f)))
    (λ e. rw e)

pub not_full : (code : ℕ) (s : List ℕ) → eqb (energy_answer code s) 24 ≡ false
not_full code s = never_full code _ _ _ s

-- ---- a difference in words of 32 bits

-- where m divides w, and a number below m is taken away, it is the same whether the difference wraps at w or at m
pub gap-wrapped : (w m last new : ℕ) → 0 < w → w % m ≡ 0 → last < m → (new + (w - last)) % w % m ≡ gap m last new
gap-wrapped w m last new pos divides lt =
    mod-mod_of_dvd m (new + (w - last)) (dvd_of_mod-eq-zero m divides)
    ∙ times (w / m) (let e = mod-add-div' w m in omega arith)
  where
    times : (q : ℕ) → q * m ≡ w → (new + (w - last)) % m ≡ gap m last new
    times zero e = absurd (omega arith)
    times (suc k) e =
        let more : new + (w - last) ≡ new + m - last + k * m = omega arith in
        rw more (add-mul-mod_self_right (new + m - last) k m)

-- ---- an account that passed

module _ (t : Totalizer) (a : Account) where
  pub refused-closed : t.closed ≡ true → booked t a ≡ answered 24 t
  unfolding booked
  refused-closed h = rw h

  pub start : t.closed ≡ false → t.started ≡ false → booked t a ≡ answered 0 (totalizer true false a 0 0)
  unfolding booked
  start h k = rw (h, k)

  pub later : t.closed ≡ false → t.started ≡ true → booked t a ≡ added t a
  unfolding booked
  later h k = rw (h, k)
