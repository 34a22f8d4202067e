-- Elements of a list and the default.
-- Assumes nothing.
use Prim.Native.Nat.{ℕ, zero, suc, ◌<◌}
use mathlib.Core.Path.{◌≡◌, refl}
use mathlib.Core.List.{List, [], ◌∷◌}
use native.Mathlib.Nat.{not-suc-le-zero, le_of_suc-le-suc}
use lib.ListN.{length, get_or}

-- within the list the default does not matter
pub within : {A : Type 0} (l : List A) (i : ℕ) (a b : A) → i < length l → get_or l i a ≡ get_or l i b
within [] i a b h = absurd (not-suc-le-zero h)
within (x ∷ l) zero a b h = refl
within (x ∷ l) (suc i) a b h = within l i a b (le_of_suc-le-suc h)
