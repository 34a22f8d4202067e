-- Which writes get answer 0.
-- Assumes nothing.
use Prim.Native.Nat.{ℕ, ◌+◌, ◌-◌, ◌≤◌}
use mathlib.Core.Path.{◌≡◌, refl}
use mathlib.Core.Logic.{◌⊎◌, inl, inr, ⊎_elim}
use mathlib.Core.Bool.{Bool, true, false, cond}
use mathlib.Core.List.{List}
use native.Mathlib.Omega.{arith}
use lib.ListN.{length, get_or, take}
use lib.Dec.{ltb, eqb}
use borrow.Author.Tests.{ltb-false, le-ltb, eqb-true, eqb-false, eq-eqb, ne_eqb}
use Rattle.laws.proofs.Branches.{either}
use Rattle.pec.specs.Pec.{pec}
use Rattle.command.specs.Table.{lookup}
use Rattle.unpaged.specs.declared.Unpaged.{Unpaged}
use Rattle.writes.specs.declared.asked.Write.{Write}
use Rattle.writes.specs.Asked.{asked, valid_write}
use Rattle.writes.specs.Answers.{permitted, data_answer, length_answer, code_answer, addressed_answer, write_answer, check_right}
use Rattle.writes.specs.Accepted.{code_of, RightPec, Acceptable, Accepted}

-- a choice that comes to 0 though one side does not
only_yes : (b : Bool) (x y : ℕ) → (y ≡ 0 → ⊥) → cond b x y ≡ 0 → (b ≡ true) × (x ≡ 0)
only_yes true x y never h = (refl, h)
only_yes false x y never h = absurd (never h)

only_no : (b : Bool) (x y : ℕ) → (x ≡ 0 → ⊥) → cond b x y ≡ 0 → (b ≡ false) × (y ≡ 0)
only_no true x y never h = absurd (never h)
only_no false x y never h = (refl, h)

module _ (n : ℕ) (u : Unpaged) (s : List ℕ) where
  data_valid : (code : ℕ) (w : Write) → data_answer n u code w ≡ 0 → (permitted u.protect code ≡ true) × (valid_write n w ≡ true)
  unfolding data_answer
  data_valid code w h =
      let a = only_yes (permitted u.protect code) (cond (valid_write n w) 0 9) 8 (λ e. omega arith) h in
      (a.0, (only_yes (valid_write n w) 0 9 (λ e. omega arith) a.1).0)

  sized : (k code : ℕ) (w : Write) → 2 ≤ length s → length_answer n u s k code w ≡ 0
      → ((length s ≡ 2 + k) ⊎ ((length s ≡ 2 + k + 1) × RightPec s)) × (data_answer n u code w ≡ 0)
  unfolding length_answer check_right
  sized k code w two h =
      let done = data_answer n u code w in
      let more = cond (eqb (length s - 2 - k) 1) (cond (check_right s) done 7) 6 in
      let a = only_no (ltb (length s - 2) k) 5 (cond (eqb (length s - 2) k) done more) (λ e. omega arith) h in
      either (eqb (length s - 2) k)
      (λ e. let m = eqb-true (length s - 2) k e in (inl (omega arith), rw e at a.1))
      (λ e. let z : more ≡ 0 = rw e at a.1 in
      let b = only_yes (eqb (length s - 2 - k) 1) (cond (check_right s) done 7) 6 (λ e. omega arith) z in
      let c = only_yes (check_right s) done 7 (λ z. omega arith) b.1 in
      let m = eqb-true (length s - 2 - k) 1 b.0 in
      let l = ltb-false (length s - 2) k a.0 in
      (inr (omega arith, eqb-true _ _ c.0), c.1))

  pub acceptable : write_answer n u s ≡ 0 → Acceptable n u s
  unfolding write_answer addressed_answer code_answer
  acceptable h =
      let code = get_or s 1 0 in
      let entry = lookup code in
      let a = only_no (eqb (length s) 0) 2 (cond (eqb (get_or s 0 0) 0xC0) (cond (eqb (length s) 1) 2 (addressed_answer n u s)) 1) (λ e. omega arith) h in
      let b = only_yes (eqb (get_or s 0 0) 0xC0) (cond (eqb (length s) 1) 2 (addressed_answer n u s)) 1 (λ e. omega arith) a.1 in
      let c = only_no (eqb (length s) 1) 2 (addressed_answer n u s) (λ e. omega arith) b.1 in
      let d = only_yes entry.written (length_answer n u s entry.length code (asked s)) 3 (λ e. omega arith) c.1 in
      let zero = eqb-false (length s) 0 a.0 in
      let one = eqb-false (length s) 1 c.0 in
      let long : 2 ≤ length s = omega arith in
      let l = sized entry.length code (asked s) long d.1 in
      let v = data_valid code (asked s) l.1 in
      record {
        formed = record { two = long; address = eqb-true (get_or s 0 0) 0xC0 b.0; marked = d.0; data_bytes = l.0 };
        allowed = v.0;
        valid = v.1;
      }

  pub accepting : Acceptable n u s → write_answer n u s ≡ 0
  unfolding write_answer addressed_answer code_answer length_answer data_answer check_right
  accepting a =
      let f = a.formed in
      let two = f.two in
      let zero = ne_eqb (length s) 0 (λ e. omega arith) in
      let one = ne_eqb (length s) 1 (λ e. omega arith) in
      let k = (lookup (code_of s)).length in
      rw (zero, eq-eqb (get_or s 0 0) 0xC0 f.address, one, f.marked)
      (⊎_elim
      (λ (e : length s ≡ 2 + k). rw (le-ltb (length s - 2) k (omega arith), eq-eqb (length s - 2) k (omega arith), a.allowed, a.valid))
      (λ (e : (length s ≡ 2 + k + 1) × RightPec s). let l = e.0 in
      rw (
        le-ltb (length s - 2) k (omega arith),
        ne_eqb (length s - 2) k (λ z. omega arith),
        eq-eqb (length s - 2 - k) 1 (omega arith),
        eq-eqb (pec (take (length s - 1) s)) (get_or s (length s - 1) 0) e.1,
        a.allowed,
        a.valid,
      ))
      f.data_bytes)

pub accepted : Accepted
unfolding Accepted
accepted n u s = (acceptable n u s, accepting n u s)
