-- `retry::machines::all_at_call` meets its contract.
-- Assumes nothing.
use lib.ListN.{get_or}
use mathlib.Core.Bool.{false}
use borrow.Author.Rules.{rules}
use Rattle.retry.specs.Byte.{byte_at_call}
use Rattle.retry.specs.Machines.{all_at_call}
use Rattle.retry.proofs.Turns.{made}
use Rattle.retry.proofs.machines.all_at_call.Goals as goal

pub returns : goal.returns
unfolding all_at_call
returns c =
    let a = c.args in
    made _ _ (λ k. byte_at_call (get_or a.responses k 0) (get_or a.present k false) (get_or a.machines k 0)) (λ i y q k. search rules) c.from_fn.result 6 c.from_fn.ensures.items
