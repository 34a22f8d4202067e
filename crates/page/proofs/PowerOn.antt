-- A page after power-on: nothing has happened yet.
-- Assumes nothing.
use Prim.Native.Nat.{ℕ, ◌<◌}
use mathlib.Core.Path.{◌≡◌, refl}
use mathlib.Core.Bool.{false}
use lib.ListN.{get_or}
use Rattle.laws.specs.Bits.{bit}
use Rattle.laws.proofs.Bits.{bit-nonzero}
use Rattle.laws.proofs.Branches.{either}
use Rattle.laws.proofs.Every.{agree, agree-test}
use Rattle.cause.specs.Causes.{causes, warnings}
use Rattle.page.specs.Page.{power_on_page}
use Rattle.page.specs.Causes.{present_causes, present_warnings, crossed, present}
use Rattle.page.specs.declared.PageChoice.{PageChoice}
use Rattle.page.specs.Choice.{chosen_page}
use Rattle.page.specs.Latching.{status_bit}
use Rattle.page.specs.Status.{supplies}
use Rattle.page.specs.PowerOn.{PowerOnQuiet}
use Rattle.page.proofs.Chosen.{chosen_reading}

-- no bit of 0 is 1
bit-clear : (x k : ℕ) → x ≡ 0 → bit x k ≡ false
bit-clear x k e = either (bit x k) (λ y. absurd (bit-nonzero x k y e)) (λ n. n)

module _ (c : PageChoice) where
  absent : (n : ℕ) → n < 11 → present (chosen_page c) n ≡ false
  unfolding chosen_page power_on_page present_causes present_warnings crossed causes warnings
  absent n h = agree-test (λ n. present (chosen_page c) n) (λ n. false) 11 tt n h

  clear : (j k : ℕ) → j < 4 → status_bit (chosen_page c) j k ≡ false
  unfolding chosen_page power_on_page
  clear j k h = bit-clear _ k (agree (λ j. get_or (chosen_page c).status j 0) (λ j. 0) 4 tt j h)

  untripped : (chosen_page c).tripped ≡ false
  unfolding chosen_page power_on_page
  untripped = refl

  resting : (k : ℕ) → k < 6 → get_or (chosen_page c).machines k 0 ≡ 0
  unfolding chosen_page power_on_page
  resting k h = agree (λ k. get_or (chosen_page c).machines k 0) (λ k. 0) 6 tt k h

  off : supplies (chosen_page c) ≡ false
  unfolding chosen_page power_on_page supplies
  off = refl

  unmeasured : (q : ℕ) → q < 4 → get_or (chosen_page c).measured q false ≡ false
  unfolding chosen_page power_on_page
  unmeasured q h = agree-test (λ q. get_or (chosen_page c).measured q false) (λ q. false) 4 tt q h

pub power_on-quiet : PowerOnQuiet
unfolding PowerOnQuiet
power_on-quiet c = record {
  absent = absent c;
  clear = clear c;
  untripped = untripped c;
  resting = resting c;
  off = off c;
  unmeasured = unmeasured c;
  zero = chosen_reading c;
}
