-- What holds of an account, its totalizer and their history from power-on on; it is kept by a sample and by a changed copy.
-- Assumes nothing.
use Prim.Native.Nat.{ℕ, ◌+◌, ◌%◌, ◌^◌, ◌<◌, ◌≤◌}
use mathlib.Core.Path.{◌≡◌, refl, ap}
use mathlib.Core.Logic.{◌⊎◌, inl, inr, ⊎_elim}
use mathlib.Core.Bool.{true, false}
use mathlib.Core.List.{List, ◌∷◌}
use native.Mathlib.Omega.{arith}
use lib.Dec.{ltb}
use lib.ListN.{length}
use borrow.Author.Tests.{ltb-true}
use Rattle.laws.proofs.Branches.{either}
use Rattle.account.specs.declared.Account.{Account}
use Rattle.account.specs.Account.{account, account_valid, sampled, energy_reading}
use Rattle.account.proofs.Laws.{added-valid, added-energy, added-count}
use Rattle.totalizer.specs.declared.Totalizer.{Totalizer}
use Rattle.totalizer.specs.declared.Taken.{Taken}
use Rattle.totalizer.specs.Totalizer.{answered, fresh_totalizer}
use Rattle.energy.specs.Reply.{Copy, changed}
use Rattle.energy.specs.Events.{Entry, got, Log, fresh_log, log_sample}
use Rattle.energy.specs.Tally.{is_intact, is_accepted, some, up_to, since, sum_of, SumAndNumber, tally, samples_between, in_bounds}
use Rattle.energy.specs.Claim.{answer_due, AtEachCopy}

-- while the totalizer is open, every intact copy was accepted, and the account has gone on from the last one by the samples since
pub record Open (a : Account) (t : Totalizer) (h : List Entry) : Type 0 where
  pub is_open : t.closed ≡ false
  pub begun : t.started ≡ some is_intact h
  pub same_some : some is_intact h ≡ some is_accepted h
  pub same_since : since is_intact h ≡ since is_accepted h
  pub latest : tally (up_to is_accepted h) ≡ tally h
  pub energy_is : energy_reading a ≡ (energy_reading t.last + sum_of (since is_intact h)) % 8388608
  pub count_is : a.count ≡ (t.last.count + length (since is_intact h)) % 16777216

-- a number has reached 2^64
abbrev pub Over : SumAndNumber → Type 0
Over y = (2 ^ 64 ≤ y.sum) ⊎ (2 ^ 64 ≤ y.number)

-- once it is closed, the tally is over for good
pub record Shut (t : Totalizer) (h : List Entry) : Type 0 where
  pub is_shut : t.closed ≡ true
  pub begun : some is_intact h ≡ true
  pub over : Over (tally h)

abbrev pub totals_of : Totalizer → SumAndNumber
totals_of t = record { sum = t.energy; number = t.samples }

-- the totals are those at the latest accepted copy
pub record Totalled (t : Totalizer) (h : List Entry) : Type 0 where
  pub total : totals_of t ≡ tally (up_to is_accepted h)
  pub samples : in_bounds h ≡ true → totals_of t ≡ samples_between h

pub record Kept (a : Account) (t : Totalizer) (h : List Entry) : Type 0 where
  pub account-valid : account_valid a ≡ true
  pub last-valid : account_valid t.last ≡ true
  pub totalled : Totalled t h
  pub state : Open a t h ⊎ Shut t h
  pub claims : AtEachCopy h

abbrev pub Good : Account → Log → Type 0
Good a l = Kept a l.totalizer l.history

pub at_start : Good (account 0 0 0) fresh_log
unfolding fresh_totalizer account_valid AtEachCopy tally samples_between energy_reading
at_start =
    record {
      account-valid = refl;
      last-valid = refl;
      totalled = record { total = refl; samples = λ e. refl };
      state = inl (record { is_open = refl; begun = refl; same_some = refl; same_since = refl; latest = refl; energy_is = refl; count_is = refl });
      claims = tt;
    }

-- ---- a sample

pub after-sample : (a : Account) (l : Log) (n : ℕ) → Good a l → Good (sampled a n).account (log_sample l n (sampled a n).answer)
unfolding sampled AtEachCopy tally samples_between in_bounds
after-sample a l n g =
    either (ltb n 32768)
    (λ e.
    let small : n < 32768 = ltb-true n 32768 e in
    rw e
    (record {
      account-valid = added-valid a n g.account-valid small;
      last-valid = g.last-valid;
      totalled = record { total = g.totalled.total; samples = g.totalled.samples };
      state =
          ⊎_elim
          (λ o.
          inl
          (record {
            is_open = o.is_open;
            begun = o.begun;
            same_some = o.same_some;
            same_since = ap (λ (l : List ℕ). n ∷ l) o.same_since;
            latest = o.latest;
            energy_is = omega (arith, o.energy_is, added-energy a n g.account-valid small);
            count_is = omega (arith, o.count_is, added-count a n);
          }))
          (λ s. inr (record { is_shut = s.is_shut; begun = s.begun; over = s.over })) g.state;
      claims = g.claims;
    }))
    (λ e. rw e g)

-- ---- a copy

module _ (a : Account) (t : Totalizer) (h : List Entry) (g : Kept a t h) where
  -- what is to be shown at any
  pub copied : (c : Copy) (k : Taken) → k.answer ≡ answer_due c (tally (got c k ∷ h)) → account_valid k.totalizer.last ≡ true
      → Totalled k.totalizer (got c k ∷ h) → Open a k.totalizer (got c k ∷ h) ⊎ Shut k.totalizer (got c k ∷ h)
      → Kept a k.totalizer (got c k ∷ h)
  unfolding AtEachCopy
  copied c k e l b s =
      record {
        account-valid = g.account-valid;
        last-valid = l;
        totalled = b;
        state = s;
        claims = (record { answer = e; total = b.total; samples = b.samples }, g.claims);
      }

  pub after-changed : (s : List ℕ) → Kept a t (got (changed s) (answered 21 t) ∷ h)
  unfolding tally samples_between in_bounds answer_due
  after-changed s =
      copied (changed s) (answered 21 t) refl g.last-valid (record { total = g.totalled.total; samples = g.totalled.samples })
      (⊎_elim
      (λ o.
      inl
      (record {
        is_open = o.is_open;
        begun = o.begun;
        same_some = o.same_some;
        same_since = o.same_since;
        latest = o.latest;
        energy_is = o.energy_is;
        count_is = o.count_is;
      }))
      (λ z. inr (record { is_shut = z.is_shut; begun = z.begun; over = z.over })) g.state)
