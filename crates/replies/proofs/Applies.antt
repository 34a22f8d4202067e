-- The answer of a reply is the lowest that applies.
-- Assumes nothing.
use Prim.Native.Nat.{ℕ, ◌+◌, ◌*◌}
use mathlib.Core.Path.{◌≡◌, refl}
use mathlib.Core.Bool.{Bool, true, false, cond, not, ◌&&◌}
use mathlib.Core.List.{◌∷◌}
use native.Mathlib.Omega.{arith}
use lib.Dec.{ltb, eqb}
use lib.ListN.{length, take, get_or}
use borrow.Author.Tests.{ltb-true, ltb-false, lt-ltb, le-ltb}
use Rattle.laws.proofs.Branches.{either}
use Rattle.pec.specs.Pec.{pec}
use Rattle.account.specs.Account.{account_of}
use Rattle.replies.specs.Replies.{clocked_for, reply_check, check_holds, account_answer, reply_answer}
use Rattle.replies.specs.Applies.{RepliesApply}

-- below 8000h and over 7FFFh are opposites
bound : (x : ℕ) → ltb x 32768 ≡ not (ltb 0x7FFF x)
bound x =
    either (ltb 0x7FFF x)
    (λ y. let h = ltb-true 0x7FFF x y in rw y (le-ltb x 32768 (omega arith)))
    (λ n. let h = ltb-false 0x7FFF x n in rw n (lt-ltb x 32768 (omega arith)))

-- the choices of the chain, by every test
chain : (l p c a check energy : Bool) → ◌≡◌ {A = ℕ}
    (cond l (cond (cond check p true) (cond energy (cond c (cond (not a) 0 23) 22) 0) 21) 20)
    (cond (not l) 20 (cond (check && not p) 21 (cond (energy && not c) 22 (cond (energy && a) 23 0))))
chain false p c a check energy = refl
chain true false c a true energy = refl
chain true false c a false false = refl
chain true false false a false true = refl
chain true false true false false true = refl
chain true false true true false true = refl
chain true true c a true false = refl
chain true true c a false false = refl
chain true true false a true true = refl
chain true true false a false true = refl
chain true true true false true true = refl
chain true true true true true true = refl
chain true true true false false true = refl
chain true true true true false true = refl

clocked : (k : ℕ) (check : Bool) → clocked_for k check ≡ cond check (k + 1) k
unfolding clocked_for
clocked k true = refl
clocked k false = omega arith

pub replies_apply : RepliesApply
unfolding RepliesApply reply_answer check_holds reply_check account_answer account_of
replies_apply code k check energy s =
    rw (clocked k check, bound (get_or s 1 0 + get_or s 2 0 * 256))
    (chain (eqb (length s) (cond check (k + 1) k)) (eqb (pec (0xC0 ∷ code ∷ 0xC1 ∷ take k s)) (get_or s k 0)) (eqb (get_or s 0 0) 6)
    (ltb 0x7FFF (get_or s 1 0 + get_or s 2 0 * 256)) check energy)
