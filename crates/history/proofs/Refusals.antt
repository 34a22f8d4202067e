-- A refusal that sets no bit of STATUS_CML changes nothing.
-- Assumes nothing.
use Prim.Native.Nat.{ℕ}
use mathlib.Core.Path.{◌≡◌, ap, ◌∙◌}
use mathlib.Core.Bool.{true}
use native.Mathlib.Omega.{arith}
use lib.Dec.{ltb, eqb, ltb→lt}
use lib.ListN.{get_or}
use borrow.Author.Tests.{eqb-true}
use Rattle.laws.proofs.Every.{each, agree}
use Rattle.laws.proofs.Lists.{any_found}
use Rattle.unpaged.specs.Unpaged.{cml_bits}
use Rattle.device.proofs.Refused.{device-stays}
use Rattle.history.specs.Run.{answer}
use Rattle.history.specs.Refusals.{Unchanged, silent_answers, silent}
use Rattle.history.proofs.Outcomes.{refused-next}

silent-sets_none : (a : ℕ) → silent a ≡ true → (cml_bits a ≡ 0) × (a ≡ 0 → ⊥)
unfolding silent cml_bits
silent-sets_none a h =
    let r = any_found 0 (eqb a) silent_answers h in
    let i = r.0 in
    let same = eqb-true a (get_or silent_answers i 0) r.2 in
    let some = ltb→lt 0 (get_or silent_answers i 0) (each (λ k. ltb 0 (get_or silent_answers k 0)) 6 tt i r.1) in
    (ap cml_bits same ∙ agree (λ k. cml_bits (get_or silent_answers k 0)) (λ k. 0) 6 tt i r.1, λ zero. omega arith)

pub unchanged : Unchanged
unfolding Unchanged
unchanged d c h =
    let n = silent-sets_none (answer d c) h in
    refused-next d c n.1 ∙ device-stays d (answer d c) n.0
