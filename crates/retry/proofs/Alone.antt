-- The machines of a page side by side: each alone.
-- Assumes nothing.
use Prim.Native.Nat.{ℕ, zero, suc, ◌<◌}
use mathlib.Core.Path.{◌≡◌, refl}
use mathlib.Core.Bool.{false}
use mathlib.Core.List.{map}
use lib.ListN.{get_or}
use native.Mathlib.Nat.{le_of_suc-le-suc, not-suc-le-zero}
use Rattle.retry.specs.Byte.{byte_at_call, byte_at_tick}
use Rattle.retry.specs.Machines.{numbers, all_at_call, all_at_tick, EachAlone}

at_six : (f : ℕ → ℕ) (k : ℕ) → k < 6 → get_or (map f numbers) k 0 ≡ f k
at_six f zero h = refl
at_six f (suc zero) h = refl
at_six f (suc (suc zero)) h = refl
at_six f (suc (suc (suc zero))) h = refl
at_six f (suc (suc (suc (suc zero)))) h = refl
at_six f (suc (suc (suc (suc (suc zero))))) h = refl
at_six f (suc (suc (suc (suc (suc (suc k)))))) h =
    absurd (not-suc-le-zero (le_of_suc-le-suc (le_of_suc-le-suc (le_of_suc-le-suc (le_of_suc-le-suc (le_of_suc-le-suc (le_of_suc-le-suc h)))))))

pub each-alone : EachAlone
unfolding EachAlone all_at_call all_at_tick
each-alone rs ps ms k h = (
  at_six (λ k. byte_at_call (get_or rs k 0) (get_or ps k false) (get_or ms k 0)) k h,
  at_six (λ k. byte_at_tick (get_or rs k 0) (get_or ps k false) (get_or ms k 0)) k h,
)
