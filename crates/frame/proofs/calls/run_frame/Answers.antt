-- `frame::calls::run_frame` meets its contract: the call is the one that the bytes name, and it is told with its reply.
-- Assumes nothing.
use mathlib.Core.Path.{refl, ◌∙◌}
use native.Mathlib.Omega.{arith}
use lib.ListN.{get_or, drop}
use lib.Seq.{length-take-le}
use Rattle.writes.specs.Asked.{word_of}
use Rattle.device.specs.Step.{step, read, alert_response}
use Rattle.frame.specs.Frame.{outcome}
use Rattle.frame.proofs.Outcomes.{part_to_end, told_as, told_reply, is-write, is-read, is-measure, is-sample, is-alert_response, is-tick, is_none}
use Rattle.frame.proofs.calls.run_frame.Goals as goal

pub returns-in-7 : goal.returns-in-7
unfolding outcome step
returns-in-7 c = rw (is-tick c.args.frame.now (omega arith) (omega arith)) (told_as c.tick.ensures refl c.told.ensures)

pub returns-in-5 : goal.returns-in-5
unfolding outcome
returns-in-5 c =
    let b = c.args.frame.now in
    let e = c.alert_response-done.ensures in
    rw (is-alert_response b (omega arith) (omega arith))
    (told_reply c.args.d (λ n. alert_response n) (get_or b 1 0) _ e.value e.reply_after c.told-in-5.ensures (length-take-le _ _ (omega arith) ∙ c.from.ensures))

pub returns-in-4 : goal.returns-in-4
unfolding outcome step word_of
returns-in-4 c =
    rw (is-sample c.args.frame.now (omega arith) (omega arith))
    (told_as (rw c.from_le_bytes-power.ensures at c.sample.ensures) refl c.told-in-4.ensures)

pub returns-in-3 : goal.returns-in-3
unfolding outcome step word_of
returns-in-3 c =
    rw (is-measure c.args.frame.now (omega arith) (omega arith))
    (told_as (rw c.from_le_bytes-word.ensures at c.measure.ensures) refl c.told-in-3.ensures)

pub returns-in-2 : goal.returns-in-2
unfolding outcome
returns-in-2 c =
    let b = c.args.frame.now in
    let e = c.read-done.ensures in
    rw (is-read b (grind arith) (grind arith))
    (told_reply c.args.d (λ n. read (drop 2 b) n) (get_or b 1 0) _ (rw part_to_end at e.value) (rw part_to_end at e.reply_after) c.told-in-2.ensures (length-take-le _ _ (omega arith) ∙ c.from-in-2.ensures))

pub returns-in-1 : goal.returns-in-1
unfolding outcome step
returns-in-1 c =
    rw (is-write c.args.frame.now (grind arith)) (told_as (rw part_to_end at c.write.ensures) refl c.told-in-1.ensures)

pub returns-in_default : goal.returns-in_default
unfolding outcome
returns-in_default c =
    rw (is_none c.args.frame.now (λ e h. grind arith) (λ e h. grind arith) (λ e h. grind arith) (λ e h. grind arith) (λ e h. grind arith) (λ e h. grind arith))
    (told_as refl refl c.told-in_default.ensures)
