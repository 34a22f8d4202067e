-- The proved lines of the bench sheet (data sheet 14.1): what is worked out, and what it has to be.
-- Values of Linear11 words are scaled by 65,536.
-- Assumes nothing.
use Rattle.std.specs.Prelude.{ℕ, ◌*◌, ◌≡◌, refl, true, false, cond, List, [], ◌∷◌, map, ℤ, pos, neg_ℤ}
use Rattle.linear11.specs.Linear11.{signed_of, mantissa, exponent, scaled_of, word_order, order_of, linear_order}
use Rattle.pec.specs.Pec.{pec, pec_from, pec_byte, pec_bit}
use Rattle.account.specs.declared.Account.{Account}
use Rattle.account.specs.Account.{account, account_valid, added, sampled, energy_reading, ein_bytes, account_of}
use Rattle.replies.specs.Replies.{clocked_for, reply_check, check_holds, account_answer, reply_answer}
use Rattle.totalizer.specs.declared.Taken.{Taken}
use Rattle.totalizer.specs.Totalizer.{totalizer, next_energy, next_samples, booked, totalize}
use Rattle.totalizer.specs.Totalizer as totalizing
use Rattle.energy.specs.Reply.{energy_reply}
use Rattle.page.specs.Page.{power_on_page}
use Rattle.cause.specs.Causes.{causes, warnings}
use Rattle.page.specs.Settings.{set_measurement}
use Rattle.page.specs.Causes.{order_by, on_side, crossed, present_causes, present}

-- numbers as they stand in a row
abbrev numbers : List ℕ → List ℤ
numbers ns = map pos ns

abbrev fields : Account → List ℤ
fields a = numbers (a.accumulator ∷ a.rollover ∷ a.count ∷ [])

abbrev outcome : Taken → List ℤ
outcome k = numbers (k.answer ∷ k.totalizer.energy ∷ k.totalizer.samples ∷ [])

-- whether the cause VOUT_OV is present after a measurement of VOUT on a page as power-on leaves it
abbrev overvoltage : ℕ → List ℤ
overvoltage word = numbers (cond (present (set_measurement power_on_page 0 word) 0) 1 0 ∷ [])

abbrev pub table : List (List ℤ × List ℤ)
table =
    (scaled_of 0xD280 ∷ [], pos (10 * 65536) ∷ [])  -- D280h is 10
    ∷ (scaled_of 0xC3F5 ∷ [], pos (1013 * 256) ∷ [])  -- C3F5h is 1013/256
    ∷ (scaled_of 0x0001 ∷ [], scaled_of 0xF802 ∷ [])  -- 0001h equals F802h
    ∷ (scaled_of 0x7C00 ∷ [], neg_ℤ (pos (33554432 * 65536)) ∷ [])  -- 7C00h is -33,554,432
    ∷ (scaled_of 0x7BFF ∷ [], pos (33521664 * 65536) ∷ [])  -- 7BFFh is 33,521,664
    ∷ (scaled_of 0x8001 ∷ [], pos 1 ∷ [])  -- 8001h is 1/65536
    ∷ (scaled_of 0xEEC0 ∷ [], neg_ℤ (pos (40 * 65536)) ∷ [])  -- EEC0h is -40
    ∷ (numbers (pec (0x01 ∷ []) ∷ []), numbers (0x07 ∷ []))  -- PEC of 01h is 07h
    -- a rollover; the sample is counted
    ∷ (fields (sampled (account 0x7FFE 0 0) 3).account, numbers (1 ∷ 1 ∷ 1 ∷ []))
    -- the wrap of both counters: answer 0, totals 1 and 1
    ∷ (
      outcome (totalize 0x86 (totalizer true false (account 0x7FFF 255 16777215) 0 0) (energy_reply 0x86 (account 0 0 0))),
      numbers (0 ∷ 1 ∷ 1 ∷ []),
    )
    ∷ (overvoltage 0x2A3D, numbers (0 ∷ []))  -- VOUT 2A3Dh no cause
    ∷ (overvoltage 0x2A3E, numbers (1 ∷ []))  -- VOUT 2A3Eh cause
    ∷ []

-- every row agrees
pub sheet : map (λ row. row.0) table ≡ map (λ row. row.1) table
unfolding
    scaled_of mantissa exponent signed_of word_order order_of linear_order pec pec_from pec_byte pec_bit account_valid added sampled
    energy_reading ein_bytes account_of clocked_for reply_check check_holds account_answer reply_answer next_energy next_samples booked totalize
    totalizing.added energy_reply power_on_page
    set_measurement order_by on_side crossed present_causes causes warnings
sheet = refl
