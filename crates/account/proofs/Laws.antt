-- Laws of the energy account: a sample keeps it valid, moves its reading by itself and its count by one, and the reply's bytes give it back.
-- Assumes nothing.
use mathlib.Core.Path.{◌≡◌}
use mathlib.Core.Bool.{true, ◌&&◌, and-eq-true_iff}
use mathlib.Core.List.{List, [], ◌++◌}
use Prim.Native.Nat.{ℕ, ◌+◌, ◌*◌, ◌%◌, ◌/◌, ◌<◌, ◌≤◌}
use native.Mathlib.Omega.{arith}
use lib.Dec.{ltb}
use borrow.Author.Tests.{lt-ltb, le-ltb, ltb-true, ltb-false}
use Rattle.laws.specs.Lists.{Bytes}
use Rattle.laws.proofs.Branches.{either}
use Rattle.account.specs.declared.Account.{Account}
use Rattle.account.specs.Account.{account_valid, added, sampled, energy_reading, ein_bytes, account_of}

-- a valid account, as facts on numbers
pub record InRange (a : Account) : Type 0 where
  pub accumulator_lt : a.accumulator < 32768
  pub rollover_lt : a.rollover < 256
  pub count_lt : a.count < 16777216

pub in_range : (a : Account) → account_valid a ≡ true → InRange a
unfolding account_valid
in_range a v =
    let p = (and-eq-true_iff (ltb a.accumulator 32768 && ltb a.rollover 256) (ltb a.count 16777216)).0 v in
    let q = (and-eq-true_iff (ltb a.accumulator 32768) (ltb a.rollover 256)).0 p.0 in
    record {
      accumulator_lt = ltb-true a.accumulator 32768 q.0;
      rollover_lt = ltb-true a.rollover 256 q.1;
      count_lt = ltb-true a.count 16777216 p.1;
    }

pub range_valid : (a : Account) → InRange a → account_valid a ≡ true
unfolding account_valid
range_valid a h =
    rw (lt-ltb a.accumulator 32768 h.accumulator_lt, lt-ltb a.rollover 256 h.rollover_lt, lt-ltb a.count 16777216 h.count_lt)

module _ (a : Account) (sample : ℕ) where
  -- the two outcomes of a sample
  pub taken : sample < 32768 → sampled a sample ≡ record { account = added a sample; answer = 0 }
  unfolding sampled
  taken h = rw (lt-ltb sample 32768 h)

  pub refused : 32768 ≤ sample → sampled a sample ≡ record { account = a; answer = 13 }
  unfolding sampled
  refused h = rw (le-ltb sample 32768 h)

  -- each sample counts once
  pub added-count : (added a sample).count ≡ (a.count + 1) % 16777216
  unfolding added
  added-count = either (ltb (a.accumulator + sample) 32768) (λ e. rw e) (λ e. rw e)

  module _ (v : account_valid a ≡ true) (h : sample < 32768) where
    -- rollover and accumulator together are one counter of 23 bits
    pub added-energy : energy_reading (added a sample) ≡ (energy_reading a + sample) % 8388608
    unfolding added energy_reading
    added-energy =
        let r = in_range a v in
        either (ltb (a.accumulator + sample) 32768)
        (λ e. let k : a.accumulator + sample < 32768 = ltb-true (a.accumulator + sample) 32768 e in rw e (omega arith))
        (λ e. let k : 32768 ≤ a.accumulator + sample = ltb-false (a.accumulator + sample) 32768 e in rw e (omega arith))

    pub added-valid : account_valid (added a sample) ≡ true
    unfolding added
    added-valid =
        let r = in_range a v in
        range_valid (added a sample)
        (either (ltb (a.accumulator + sample) 32768)
        (λ e. let k : a.accumulator + sample < 32768 = ltb-true (a.accumulator + sample) 32768 e in rw e (omega arith))
        (λ e. let k : 32768 ≤ a.accumulator + sample = ltb-false (a.accumulator + sample) 32768 e in rw e (omega arith)))

pub sampled-valid : (a : Account) (sample : ℕ) → account_valid a ≡ true → account_valid (sampled a sample).account ≡ true
sampled-valid a sample v =
    either (ltb sample 32768)
    (λ e. let h : sample < 32768 = ltb-true sample 32768 e in rw (taken a sample h) (added-valid a sample v h))
    (λ e. let h : 32768 ≤ sample = ltb-false sample 32768 e in rw (refused a sample h) v)

pub ein_bytes_lem : (a : Account) → Bytes (ein_bytes a)
unfolding ein_bytes Bytes
ein_bytes_lem a = (omega arith, (omega arith, (omega arith, (omega arith, (omega arith, (omega arith, (omega arith, tt)))))))

-- the bytes give the account back, also where others follow them
pub reply-back : (a : Account) (rest : List ℕ) → account_valid a ≡ true → account_of (ein_bytes a ++ rest) ≡ a
unfolding ein_bytes account_of
reply-back a rest v =
    let r = in_range a v in
    let x : a.accumulator % 256 + a.accumulator / 256 % 256 * 256 ≡ a.accumulator = omega arith in
    let y : a.rollover % 256 ≡ a.rollover = omega arith in
    let z : a.count % 256 + a.count / 256 % 256 * 256 + a.count / 65536 % 256 * 65536 ≡ a.count = omega arith in
    rw (x, y, z)

pub read_back : (a : Account) → account_valid a ≡ true → account_of (ein_bytes a) ≡ a
unfolding ein_bytes
read_back a v = reply-back a [] v
