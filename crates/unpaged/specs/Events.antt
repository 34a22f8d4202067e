-- The answers of a measurement and of an alert response (data sheet 11.4).
-- Assumes nothing.
use Rattle.std.specs.Prelude.{ℕ, Bool, cond, ltb, leb, eqb}

-- 12: no such page, of n, or no such quantity, of four
unfoldable pub measure_answer : ℕ → ℕ → ℕ → ℕ
measure_answer n page quantity = cond (leb n page) 12 (cond (ltb 3 quantity) 12 0)

-- 2: another number of bytes than one; 14: the alert is down
unfoldable pub alert_answer : Bool → ℕ → ℕ
alert_answer alert n = cond (eqb n 1) (cond alert 0 14) 2
