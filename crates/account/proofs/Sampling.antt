-- A sample adds itself, and the reply carries the account.
-- Assumes nothing.
use mathlib.Core.Path.{refl}
use Rattle.account.specs.Sampling.{AccountCounts}
use Rattle.account.proofs.Laws.{taken, refused, added-count, added-energy, added-valid, read_back}

pub account-counts : AccountCounts
unfolding AccountCounts
account-counts a v = (
  λ n. record {
    taken = λ h. rw (taken a n h)
        (refl, record { energy = added-energy a n v h; count = added-count a n; valid = added-valid a n v h });
    refused = λ h. rw (refused a n h) (refl, refl);
  },
  read_back a v,
)
