-- Who gets NACK.
-- Assumes nothing.
use Prim.Native.Nat.{ℕ, ◌+◌}
use mathlib.Core.Path.{◌≡◌, refl, sym, ◌∙◌}
use mathlib.Core.Bool.{Bool, true, false, not, and-eq-true_iff, and-false, false≢true}
use mathlib.Core.List.{List, [], ◌∷◌}
use native.Mathlib.Omega.{arith}
use lib.ListN.{length, get_or}
use lib.Dec.{eqb}
use borrow.Author.Tests.{ltb-false, le-ltb, eqb-true, eqb-false, eq-eqb, ne_eqb}
use Rattle.laws.proofs.Branches.{either, cond_same}
use Rattle.laws.specs.Lists.{all_of, any_of}
use Rattle.command.specs.Table.{Row, table, row_in, entry_of, lookup}
use Rattle.bus.specs.Ack.{known, room_behind, orderly, acked_first, acked_second, Absent, AbsentExactly, Wrong, wrong_address, absent_code, Refused, after_wrong, other_address, other_code, past_data, RefusedSecond, second_after_wrong, other_second, NackedFirst, NackedSecond}

-- ---- absent codes

-- a row of the code c, and one with an access
abbrev of_code : ℕ → Row → Bool
of_code c r = eqb r.0 c

abbrev used : Row → Bool
used r = not (eqb r.1 0)

row-used : (l : List Row) (c : ℕ) → all_of used l ≡ true → used (row_in l c) ≡ any_of (of_code c) l
row-used [] c h = refl
row-used (r ∷ l) c h =
    let both = (and-eq-true_iff (used r) (all_of used l)).0 h in
    either (eqb r.0 c) (λ y. rw y both.0) (λ n. rw n (row-used l c both.1))

all_used : all_of used table ≡ true
unfolding table
all_used = refl

known-rows : (c : ℕ) → known c ≡ any_of (of_code c) table
unfolding known lookup entry_of
known-rows c = row-used table c all_used

absent : (c : ℕ) → known c ≡ false → Absent c
unfolding Absent
absent c e = sym (known-rows c) ∙ e

unknown : (c : ℕ) → Absent c → known c ≡ false
unfolding Absent
unknown c e = known-rows c ∙ e

pub absent_exactly : AbsentExactly
unfolding AbsentExactly
absent_exactly c = (absent c, unknown c)

-- ---- NACK

module _ (s : List ℕ) where
  wrong : orderly s ≡ false → Wrong s
  unfolding orderly
  wrong h =
      either (eqb (length s) 0)
      (λ e. absurd (false≢true (sym (rw e at h))))
      (λ e. let none = eqb-false (length s) 0 e in
      either (eqb (get_or s 0 0) 0xC0)
      (λ a. either (eqb (length s) 1)
      (λ o. absurd (false≢true (sym (rw (e, a, o) at h))))
      (λ o. let one = eqb-false (length s) 1 o in absent_code (omega arith) (absent (get_or s 1 0) (rw (e, a, o) at h))))
      (λ a. wrong_address (omega arith) (eqb-false (get_or s 0 0) 0xC0 a)))

  not_orderly : Wrong s → orderly s ≡ false
  unfolding orderly
  not_orderly (wrong_address l n) = rw (ne_eqb (length s) 0 (λ e. omega arith), ne_eqb (get_or s 0 0) 0xC0 n)
  not_orderly (absent_code l k) =
      rw (ne_eqb (length s) 0 (λ e. omega arith), ne_eqb (length s) 1 (λ e. omega arith), unknown (get_or s 1 0) k)
      (cond_same (eqb (get_or s 0 0) 0xC0) false)

  module _ (b : ℕ) where
    refused : acked_first s b ≡ false → Refused s b
    unfolding acked_first room_behind
    refused h =
        let c = get_or s 1 0 in
        either (eqb (length s) 0)
        (λ e. other_address (eqb-true (length s) 0 e) (eqb-false b 0xC0 (rw e at h)))
        (λ e. let none = eqb-false (length s) 0 e in
        either (eqb (get_or s 0 0) 0xC0)
        (λ a. either (eqb (length s) 1)
        (λ o. other_code (eqb-true (length s) 1 o) (absent b (rw (e, a, o) at h)))
        (λ o. let one = eqb-false (length s) 1 o in
        either (known c)
        (λ k. past_data (omega arith) (ltb-false (length s) ((lookup c).length + 3) (rw (e, a, o, k) at h)))
        (λ k. after_wrong (absent_code (omega arith) (absent c k)))))
        (λ a. after_wrong (wrong_address (omega arith) (eqb-false (get_or s 0 0) 0xC0 a))))

    nack_first : Refused s b → acked_first s b ≡ false
    unfolding acked_first room_behind
    nack_first (after_wrong (wrong_address l n)) = rw (ne_eqb (length s) 0 (λ e. omega arith), ne_eqb (get_or s 0 0) 0xC0 n)
    nack_first (after_wrong (absent_code l k)) =
        rw (ne_eqb (length s) 0 (λ e. omega arith), ne_eqb (length s) 1 (λ e. omega arith), unknown (get_or s 1 0) k)
        (cond_same (eqb (get_or s 0 0) 0xC0) false)
    nack_first (other_address e n) = rw (eq-eqb (length s) 0 e) (ne_eqb b 0xC0 n)
    nack_first (other_code e k) =
        rw (ne_eqb (length s) 0 (λ z. omega arith), eq-eqb (length s) 1 e, unknown b k) (cond_same (eqb (get_or s 0 0) 0xC0) false)
    nack_first (past_data l m) =
        rw (
          ne_eqb (length s) 0 (λ z. omega arith),
          ne_eqb (length s) 1 (λ z. omega arith),
          le-ltb (length s) ((lookup (get_or s 1 0)).length + 3) m,
          and-false (known (get_or s 1 0)),
        )
        (cond_same (eqb (get_or s 0 0) 0xC0) false)

    refused-second : acked_second s b ≡ false → RefusedSecond s b
    unfolding acked_second
    refused-second h =
        either (orderly s) (λ o. other_second (eqb-false b 0xC1 (rw o at h))) (λ o. second_after_wrong (wrong o))

    nack_second : RefusedSecond s b → acked_second s b ≡ false
    unfolding acked_second
    nack_second (second_after_wrong w) = rw (not_orderly w)
    nack_second (other_second n) = rw (ne_eqb b 0xC1 n) (and-false (orderly s))

pub nacked_first : NackedFirst
unfolding NackedFirst
nacked_first s b = (refused s b, nack_first s b)

pub nacked_second : NackedSecond
unfolding NackedSecond
nacked_second s b = (refused-second s b, nack_second s b)
