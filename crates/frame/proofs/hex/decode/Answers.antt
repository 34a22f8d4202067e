-- `frame::hex::decode` meets its contract: the pairs so far are digits, and their bytes stand at the front of the buffer.
-- Assumes nothing.
use Prim.Native.Nat.{◌%◌}
use mathlib.Core.Path.{◌≡◌, sym, ◌∙◌}
use mathlib.Core.Bool.{true, false}
use mathlib.Core.List.{[], map}
use mathlib.Core.Logic.{⊎_elim}
use native.Mathlib.Omega.{arith}
use borrow.Author.Tests.{eqb-true, eqb-false}
use lib.ListN.{length, length-map}
use lib.Seq.{take_all}
use Rattle.std.proofs.lemmas.List.{get_or-map}
use Rattle.laws.proofs.Folds.{all_step, all_end}
use Rattle.frame.proofs.Digits.{two_digits, pair_byte}
use Rattle.frame.proofs.Lines.{too_long, odd, bad_pairs, good_pairs}
use Rattle.frame.proofs.Storing.{store_step, take-sets}
use Rattle.frame.proofs.hex.decode.Goals as goal

pub returns-then-not-is_empty : goal.returns-then-not-is_empty
returns-then-not-is_empty c =
    let s = c.args.line.now in
    ⊎_elim (λ h. sym (odd s (λ e. eqb-false _ _ (sym c.is_empty.ensures ∙ h) (omega arith)))) (λ h. sym (too_long s (omega arith)))
    c.then-not-is_empty.either

pub returns-in_default : goal.returns-in_default
returns-in_default c =
    let s = c.args.line.now in
    let a = c.as_chunks.ensures in
    let p = c.as_chunks.result.0.now in
    let even : length s % 2 ≡ 0 = omega (arith, eqb-true _ _ (sym c.is_empty.ensures ∙ c.if-not-is_empty.false)) in
    bad_pairs s p a.front even (all_step two_digits [] p true false c.loop-i.i (omega arith) (sym c.in_default.ensures) c.loop-i.invariant.0)

pub loop-i-preserved : goal.loop-i-preserved
loop-i-preserved c =
    let p = c.as_chunks.result.0.now in
    let i = c.loop-i.i in
    let h = c.in-Some.ensures in (
      all_step two_digits [] p true true i (omega arith) (sym h.0) c.loop-i.invariant.0,
      cc (store_step c.args.bytes.now (map pair_byte p) 0 i (omega (arith, length-map p pair_byte)), get_or-map pair_byte p i [] 0 (omega arith)),
    )

pub returns : goal.returns
returns c =
    let s = c.args.line.now in
    let a = c.as_chunks.ensures in
    let p = c.as_chunks.result.0.now in
    let q = map pair_byte p in
    let n = length-map p pair_byte in
    let even : length s % 2 ≡ 0 = omega (arith, eqb-true _ _ (sym c.is_empty.ensures ∙ c.if-not-is_empty.false)) in
    let digits = all_end two_digits [] p true c.loop-i.i (omega arith) c.loop-i.invariant.0 in
    cc (
      take_all c.loop-i.i q (omega (arith, n)),
      take-sets c.args.bytes.now q (omega (arith, n)),
      n,
      good_pairs s p a.front even (omega arith) digits,
    )
