-- `unpaged::after` meets its contract.
-- Assumes nothing.
use Rattle.unpaged.specs.Unpaged.{refused}
use Rattle.unpaged.proofs.Refusals.{gains-or}
use Rattle.unpaged.proofs.after.Goals as goal
use Rattle.unpaged.proofs.after.Goals.{then-u, else-u}

pub returns : goal.returns
unfolding refused
returns c =
    let e = gains-or c.args.u.cml c.bit_of.result in
    elim c.if-u.branch [ then-u w ↦ rw (w.result-is, w.if-u.true) (cc) | else-u w ↦ rw (w.result-is, w.if-u.false) (cc) ]
