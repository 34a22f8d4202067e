-- `value::format::compare_words` meets its contract.
-- Assumes nothing.
use mathlib.Core.Path.{sym, ◌∙◌}
use native.Mathlib.Omega.{arith}
use borrow.Author.Rules.{rules}
use Rattle.value.proofs.Shared.{by_linear, by_direct}
use Rattle.value.proofs.format.compare_words.Goals as goal

pub compare_direct-requires : goal.compare_direct-requires
compare_direct-requires c = search rules

pub returns-then-f : goal.returns-then-f
returns-then-f c =
    let a = c.args in
    c.compare_direct.ensures ∙ sym (by_direct a.f a.a a.b (omega arith) (omega arith) c.if-f.true (omega arith))

pub compare_linear11-requires : goal.compare_linear11-requires
compare_linear11-requires c = search rules

pub returns : goal.returns
returns c =
    let a = c.args in
    c.compare_linear11.ensures ∙ sym (by_linear a.f a.a a.b (omega arith) (omega arith) c.if-f.false)
