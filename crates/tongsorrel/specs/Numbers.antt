-- The numbers that stand for an order outside of Rattle, alone and beside an answer.
-- Assumes nothing.
use Rattle.std.specs.Prelude.{ℕ}
use Rattle.std.specs.declared.cmp.Ordering.{Ordering}
use Rattle.std.specs.declared.cmp.Ordering.TheVariants.{Less, Equal, Greater}
use Rattle.value.specs.Format as ordered
use Rattle.tongsorrel.specs.declared.values.Compared.{Compared}

unfoldable pub order_number : Ordering → ℕ
order_number Less = 0
order_number Equal = 1
order_number Greater = 2

abbrev pub compared : ordered.Compared → Compared
compared c = record { answer = c.answer; order = order_number c.order }
