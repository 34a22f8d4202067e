-- What the totalizer makes of an intact and of a changed copy of an energy reply.
-- Assumes nothing.
use Prim.Native.Nat.{ℕ, ◌<◌}
use mathlib.Core.Path.{◌≡◌, refl, sym, ◌∙◌}
use mathlib.Core.Bool.{true}
use mathlib.Core.List.{List}
use native.Mathlib.Omega.{arith}
use lib.Dec.{lit<}
use lib.ListN.{length, get_or}
use Rattle.laws.specs.Lists.{Bytes}
use Rattle.pec.specs.Pec.{pec, pec_from}
use Rattle.pec.specs.Burst.{Changed}
use Rattle.pec.proofs.Laws.{pec-lt}
use Rattle.pec.proofs.Burst.{not_both}
use Rattle.account.specs.declared.Account.{Account}
use Rattle.account.specs.Account.{account_valid, ein_bytes, account_of}
use Rattle.account.proofs.Laws.{in_range, reply-back}
use Rattle.replies.specs.Replies.{read_header, reply_check}
use Rattle.totalizer.specs.declared.Totalizer.{Totalizer}
use Rattle.totalizer.specs.Totalizer.{answered, energy_answer, booked, totalize}
use Rattle.totalizer.proofs.Outcomes.{bad_check, passes}
use Rattle.energy.specs.Reply.{energy_reply}

-- ---- the reply is eight bytes, and its last is its check

check_lt : (s : List ℕ) → pec s < 256
unfolding pec
check_lt s = pec-lt 0 s (lit< tt)

reply-bytes : (code : ℕ) (a : Account) → Bytes (energy_reply code a)
unfolding energy_reply ein_bytes Bytes
reply-bytes code a =
    (omega arith, (omega arith, (omega arith, (omega arith, (omega arith, (omega arith, (omega arith, (check_lt _, tt))))))))

reply-length : (code : ℕ) (a : Account) → length (energy_reply code a) ≡ 8
unfolding energy_reply ein_bytes
reply-length code a = refl

own_check : (code : ℕ) (a : Account) → reply_check code 7 (energy_reply code a) ≡ get_or (energy_reply code a) 7 0
unfolding reply_check energy_reply ein_bytes
own_check code a = refl

-- ---- intact: the totalizer reads the account back

read_back : (code : ℕ) (a : Account) → account_valid a ≡ true → account_of (energy_reply code a) ≡ a
unfolding energy_reply
read_back code a v = reply-back a _ v

count_byte : (code : ℕ) (a : Account) → get_or (energy_reply code a) 0 0 ≡ 6
unfolding energy_reply ein_bytes
count_byte code a = refl

module _ (code : ℕ) (t : Totalizer) (a : Account) (l : account_valid t.last ≡ true) where
  pub intact_booked : account_valid a ≡ true → totalize code t (energy_reply code a) ≡ booked t a
  unfolding totalize
  intact_booked v =
      let b = read_back code a v in
      let n : energy_answer code (energy_reply code a) ≡ 0 =
      passes code (energy_reply code a) (reply-length code a) (own_check code a) (count_byte code a) (rw b (omega (arith, in_range a v))) in
      rw (l, n, b)

  -- ---- changed: the check is wrong

  wrong_check : (s : List ℕ) → Changed (energy_reply code a) s → Bytes s → reply_check code 7 s ≡ get_or s 7 0 → ⊥
  unfolding reply_check pec pec_from
  wrong_check s c h e =
      not_both (pec (read_header code)) 7 (energy_reply code a) s (check_lt (read_header code)) (reply-length code a) (reply-bytes code a) h c
      (own_check code a) e

  pub changed-refused : (s : List ℕ) → Changed (energy_reply code a) s → Bytes s → totalize code t s ≡ answered 21 t
  unfolding totalize
  changed-refused s c h =
      let n : energy_answer code s ≡ 21 =
      bad_check code s (sym c.same_length ∙ reply-length code a) (wrong_check s c h) in
      rw (l, n)
