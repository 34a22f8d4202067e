-- The numbers of the kinds that the code has by name: the places in a page's lists, and the numbers of the table of causes.
-- Assumes nothing.
use Rattle.std.specs.Prelude.{◌≡◌, ℕ, ◌<◌, Result, MatchResult}
use Rattle.cause.specs.declared.Quantity.{Quantity}
use Rattle.cause.specs.declared.Cause.{Cause}
use Rattle.cause.specs.declared.Limit.{Limit}
use Rattle.cause.specs.declared.Register.{Register}
use Rattle.cause.specs.declared.UnknownQuantity.{UnknownQuantity}

abbrev pub quantity_number : Quantity → ℕ
quantity_number Quantity.Vout = 0
quantity_number Quantity.Iout = 1
quantity_number Quantity.Vin = 2
quantity_number Quantity.Temperature = 3

abbrev pub cause_number : Cause → ℕ
cause_number Cause.VoutOv = 0
cause_number Cause.IoutOc = 1
cause_number Cause.Ot = 2
cause_number Cause.Ut = 3
cause_number Cause.VinOv = 4
cause_number Cause.VinUv = 5

abbrev pub limit_number : Limit → ℕ
limit_number Limit.VoutOvFault = 0
limit_number Limit.IoutOcFault = 1
limit_number Limit.OtFault = 2
limit_number Limit.UtFault = 3
limit_number Limit.VinOvFault = 4
limit_number Limit.VinUvFault = 5
limit_number Limit.VoutOvWarn = 6
limit_number Limit.IoutOcWarn = 7
limit_number Limit.OtWarn = 8
limit_number Limit.VinOvWarn = 9
limit_number Limit.VinUvWarn = 10

abbrev pub register_number : Register → ℕ
register_number Register.Vout = 0
register_number Register.Iout = 1
register_number Register.Input = 2
register_number Register.Temperature = 3

-- the quantity with this number, or an error where there is none
abbrev pub NamesQuantity : ℕ → Result Quantity UnknownQuantity → Type 0
NamesQuantity n r = MatchResult r (λ q. quantity_number q ≡ n) (λ e. (e.0 ≡ n) × (3 < n))
