-- The limits by name: their lines in the table, and what an order says on a side.
-- Assumes nothing.
use mathlib.Core.Path.{◌≡◌, refl}
use mathlib.Core.Logic.{◌⊎◌, inl, inr}
use Rattle.std.specs.declared.cmp.Ordering.{Ordering}
use Rattle.std.specs.declared.cmp.Ordering.TheVariants.{Less, Equal, Greater}
use Rattle.std.specs.Ordering.{is_lt, is_gt}
use Rattle.cause.specs.declared.Limit.{Limit}
use Rattle.cause.specs.Causes.{above, below, limit_of, causes, warnings}
use Rattle.cause.specs.Kinds.{limit_number}
use Rattle.page.specs.Causes.{on_side}

pub number : (l : Limit) → (limit_of (limit_number l)).number ≡ limit_number l
unfolding causes warnings
number Limit.VoutOvFault = refl
number Limit.IoutOcFault = refl
number Limit.OtFault = refl
number Limit.UtFault = refl
number Limit.VinOvFault = refl
number Limit.VinUvFault = refl
number Limit.VoutOvWarn = refl
number Limit.IoutOcWarn = refl
number Limit.OtWarn = refl
number Limit.VinOvWarn = refl
number Limit.VinUvWarn = refl

pub crossed-below : (l : Limit) → (l ≡ Limit.UtFault) ⊎ ((l ≡ Limit.VinUvFault) ⊎ (l ≡ Limit.VinUvWarn)) → (limit_of (limit_number l)).side ≡ below
unfolding causes warnings
crossed-below l (inl e) = rw e
crossed-below l (inr (inl e)) = rw e
crossed-below l (inr (inr e)) = rw e

pub crossed-above : (l : Limit) → (l ≡ Limit.UtFault → ⊥) → (l ≡ Limit.VinUvFault → ⊥) → (l ≡ Limit.VinUvWarn → ⊥) → (limit_of (limit_number l)).side ≡ above
unfolding causes warnings
crossed-above Limit.VoutOvFault f g h = refl
crossed-above Limit.IoutOcFault f g h = refl
crossed-above Limit.OtFault f g h = refl
crossed-above Limit.UtFault f g h = absurd (f refl)
crossed-above Limit.VinOvFault f g h = refl
crossed-above Limit.VinUvFault f g h = absurd (g refl)
crossed-above Limit.VoutOvWarn f g h = refl
crossed-above Limit.IoutOcWarn f g h = refl
crossed-above Limit.OtWarn f g h = refl
crossed-above Limit.VinOvWarn f g h = refl
crossed-above Limit.VinUvWarn f g h = absurd (h refl)

pub less-below : (o : Ordering) → is_lt o ≡ on_side below o
unfolding on_side
less-below Less = refl
less-below Equal = refl
less-below Greater = refl

pub greater-above : (o : Ordering) → is_gt o ≡ on_side above o
unfolding on_side
greater-above Less = refl
greater-above Equal = refl
greater-above Greater = refl
