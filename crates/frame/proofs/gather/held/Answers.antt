-- `frame::gather::held` meets its contract.
-- Assumes nothing.
use Prim.Native.Nat.{ℕ}
use mathlib.Core.Bool.{cond}
use mathlib.Core.List.{List}
use mathlib.Core.Logic.{⊎_elim}
use mathlib.Core.Path.{◌≡◌, ap, ◌∙◌}
use native.Mathlib.Omega.{arith}
use borrow.Author.Tests.{lt-ltb, le-ltb}
use denote.Ref.{Bor}
use lib.Dec.{ltb}
use lib.ListN.{length, take}
use Rattle.std.proofs.Common.{Option, Some, None, unwrap_or}
use Rattle.std.specs.Slice.{IsGetRangeResult}
use Rattle.std.proofs.lemmas.Slice.{between_from_start}
use Rattle.laws.proofs.Branches.{either}
use Rattle.frame.specs.Gather.{whole_of, held_in}
use Rattle.frame.proofs.gather.held.Goals as goal

-- `get(..n)`, or d where the list is shorter
front_or : (s : List ℕ) (n : ℕ) (r : Option (Bor (List ℕ))) (d : Bor (List ℕ))
    → IsGetRangeResult s 0 n r → (unwrap_or r d).now ≡ cond (ltb (length s) n) d.now (take n s)
front_or s n None d h = ⊎_elim (λ k. absurd (omega arith)) (λ k. rw (lt-ltb (length s) n k)) h.0
front_or s n (Some x) d h = rw (le-ltb (length s) n h.0.1) (h.0.2 ∙ between_from_start s n)

pub returns : goal.returns
unfolding whole_of held_in
returns c =
    let s = c.args.line.now in
    let e = ap (λ (x : Bor (List ℕ)). x.now) c.unwrap_or.ensures ∙ front_or s c.args.n c.get.result _ c.get.ensures.lookup in
    either (ltb (length s) c.args.n) (λ t. rw t (rw t at e)) (λ t. rw t (rw t at e))
