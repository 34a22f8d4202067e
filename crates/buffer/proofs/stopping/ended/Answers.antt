-- `buffer::stopping::ended` meets its contract.
-- Assumes nothing.
use Rattle.std.proofs.Common.{arith}
use borrow.Author.Tests.{eq-eqb, ne_eqb}
use Rattle.buffer.proofs.Ending.{ended_in, end_write, end_read, end_disorder}
use Rattle.buffer.proofs.stopping.ended.Goals as goal

pub returns-in-1 : goal.returns-in-1
returns-in-1 c =
    let r = c.written.ensures in
    ended_in _ _ _ _ _ c.in-Some.ensures.cases.same (end_write _ _ _ _ (eq-eqb _ _ c.in-1.is) r.answer r.left)

pub returns-in-3 : goal.returns-in-3
returns-in-3 c =
    let r = c.finished.ensures in
    ended_in _ _ _ _ _ c.in-Some.ensures.cases.same (end_read _ _ _ _ (ne_eqb _ _ (λ e. omega (arith, c.in-3.is))) (eq-eqb _ _ c.in-3.is) r.answer r.left)

pub returns-in_default-phase : goal.returns-in_default-phase
returns-in_default-phase c =
    let r = c.disordered.ensures in
    let n = c.in_default-phase in
    ended_in _ _ _ _ _ c.in-Some.ensures.cases.same (end_disorder _ _ _ _ (ne_eqb _ _ (λ e. omega arith)) (ne_eqb _ _ (λ e. omega arith)) r.answer r.left)
