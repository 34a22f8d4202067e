-- The answer of a write is the lowest that applies.
-- Assumes nothing.
use Prim.Native.Nat.{ℕ, ◌+◌, ◌-◌, ◌<◌}
use mathlib.Core.Path.{◌≡◌, refl, sym, ap, ◌∙◌}
use mathlib.Core.Bool.{Bool, true, false, cond, not, ◌&&◌, ◌||◌}
use mathlib.Core.List.{List, [], ◌∷◌}
use native.Mathlib.Omega.{arith}
use lib.ListN.{length, get_or, take}
use lib.Dec.{ltb, eqb}
use borrow.Author.Tests.{eqb-true, eqb-false, ltb-false, eq-eqb, ne_eqb, lt-ltb, le-ltb}
use Rattle.laws.specs.Lines.{lowest}
use Rattle.laws.specs.Lists.{Bytes}
use Rattle.laws.proofs.Branches.{either}
use Rattle.laws.proofs.Every.{agree, agree-test}
use Rattle.laws.proofs.Lists.{byte-lt}
use Rattle.pec.specs.Pec.{pec}
use Rattle.cause.specs.Causes.{Actions, voltage, current, causes, response_of, valid_at}
use Rattle.command.specs.Table.{lookup}
use Rattle.command.specs.Meaning.{command_of, setting_of, fault_of, reading_of}
use Rattle.command.specs.declared.meaning.Command.{Command}
use Rattle.command.specs.declared.meaning.Command.TheVariants.{SelectPage, Operation, ClearFaults, WriteProtect, Capability, VoutMode, VoutCommand, Limit, Response, StatusByte, StatusWord, Status, ReadEin, Reading, Revision, Absent, Coefficients}
use Rattle.page.specs.Settings.{valid_operation, valid_response}
use Rattle.unpaged.specs.declared.Unpaged.{Unpaged}
use Rattle.unpaged.specs.Unpaged.{valid_page, valid_protect}
use Rattle.unpaged.specs.Applies.{is_in}
use Rattle.writes.specs.Asked.{clear_faults, clear_status, write_of, asked, valid_setting, valid_write}
use Rattle.writes.specs.Answers.{check_right, permitted, data_answer, length_answer, code_answer, addressed_answer, write_answer}
use Rattle.writes.specs.Applies.{permitted_at, valid_for, code, given, due, AnswersApply}

-- ---- what is permitted: each level for itself, and the codes by computation

module _ (c : ℕ) (byte : c < 256) where
  permitted-same : (level : ℕ) → permitted level c ≡ permitted_at level c
  unfolding permitted
  permitted-same level =
      either (eqb level 0x00) (λ y. rw y)
      (λ n0. either (eqb level 0x20)
      (λ y. rw (eqb-true level 0x20 y) (agree-test (λ c. permitted 0x20 c) (λ c. permitted_at 0x20 c) 256 tt c byte))
      (λ n20. either (eqb level 0x40)
      (λ y. rw (eqb-true level 0x40 y) (agree-test (λ c. permitted 0x40 c) (λ c. permitted_at 0x40 c) 256 tt c byte))
      (λ n40. rw (n0, n20, n40) (agree-test (λ c. permitted 0x80 c) (λ c. permitted_at 0x80 c) 256 tt c byte))))

-- ---- which data are valid: the commands fall into five groups, and so do the codes

-- the valid bytes of a group
abbrev valid_in : ℕ → ℕ → ℕ → Bool
valid_in group n x =
    cond (eqb group 0) (ltb x n || eqb x 0xFF)
    (cond (eqb group 1) (is_in x (0x00 ∷ 0x40 ∷ 0x80 ∷ []))
    (cond (eqb group 2) (is_in x (0x00 ∷ 0x20 ∷ 0x40 ∷ 0x80 ∷ []))
    (cond (eqb group 3) (is_in x (0x00 ∷ 0xC0 ∷ []))
    true)))

abbrev group_of_actions : Actions → ℕ
group_of_actions voltage = 4
group_of_actions current = 3

abbrev group_of : Command → ℕ
group_of SelectPage = 0
group_of Operation = 1
group_of WriteProtect = 2
group_of (Response k) = group_of_actions (response_of k).actions
group_of ClearFaults = 4
group_of Capability = 4
group_of VoutMode = 4
group_of VoutCommand = 4
group_of (Limit k) = 4
group_of StatusByte = 4
group_of StatusWord = 4
group_of (Status k) = 4
group_of ReadEin = 4
group_of (Reading q) = 4
group_of Revision = 4
group_of Absent = 4
group_of Coefficients = 4

abbrev group_at : ℕ → ℕ
group_at c =
    cond (eqb c 0x00) 0
    (cond (eqb c 0x01) 1
    (cond (eqb c 0x10) 2
    (cond (eqb c 0x47) 3
    4)))

same_groups : (c : ℕ) → c < 256 → group_of (command_of c) ≡ group_at c
unfolding command_of setting_of fault_of reading_of causes
same_groups c h = agree (λ c. group_of (command_of c)) group_at 256 tt c h

valid_code : (n c x : ℕ) → valid_for n c x ≡ valid_in (group_at c) n x
valid_code n c x =
    either (eqb c 0x00) (λ y. rw y)
    (λ a. either (eqb c 0x01) (λ y. rw (a, y))
    (λ b. either (eqb c 0x10) (λ y. rw (a, b, y))
    (λ d. either (eqb c 0x47) (λ y. rw (a, b, d, y)) (λ e. rw (a, b, d, e)))))

module _ (n x w : ℕ) (byte : x < 256) where
  valid_actions : (a : Actions) → valid_at a x ≡ valid_in (group_of_actions a) n x
  valid_actions voltage = refl
  valid_actions current = agree-test (valid_at current) (λ x. is_in x (0x00 ∷ 0xC0 ∷ [])) 256 tt x byte

  valid_command : (k : Command) → valid_write n (write_of k x w) ≡ valid_in (group_of k) n x
  unfolding valid_write write_of valid_setting valid_operation valid_response valid_page valid_protect clear_faults clear_status
  valid_command SelectPage = refl
  valid_command Operation = agree-test valid_operation (λ x. is_in x (0x00 ∷ 0x40 ∷ 0x80 ∷ [])) 256 tt x byte
  valid_command WriteProtect = agree-test valid_protect (λ x. is_in x (0x00 ∷ 0x20 ∷ 0x40 ∷ 0x80 ∷ [])) 256 tt x byte
  valid_command (Response k) = valid_actions (response_of k).actions
  valid_command ClearFaults = refl
  valid_command Capability = refl
  valid_command VoutMode = refl
  valid_command VoutCommand = refl
  valid_command (Limit k) = refl
  valid_command StatusByte = refl
  valid_command StatusWord = refl
  valid_command (Status k) = either (eqb k 4) (λ y. rw y) (λ e. rw e)
  valid_command ReadEin = refl
  valid_command (Reading q) = refl
  valid_command Revision = refl
  valid_command Absent = refl
  valid_command Coefficients = refl

module _ (n : ℕ) (u : Unpaged) (s : List ℕ) (bytes : Bytes s) where
  valid_same : valid_write n (asked s) ≡ valid_for n (code s) (get_or s 2 0)
  unfolding asked
  valid_same =
      valid_command n (get_or s 2 0) _ (byte-lt s bytes 2) (command_of (code s))
      ∙ ap (λ (g : ℕ). valid_in g n (get_or s 2 0)) (same_groups (code s) (byte-lt s bytes 1))
      ∙ sym (valid_code n (code s) (get_or s 2 0))

  -- ---- the chain, from its end

  abbrev wrong : Bool
  wrong = not (eqb (pec (take (length s - 1) s)) (get_or s (length s - 1) 0))

  abbrev protected : Bool
  protected = not (permitted_at u.protect (code s))

  abbrev invalid : Bool
  invalid = not (valid_for n (code s) (get_or s 2 0))

  by_data : data_answer n u (code s) (asked s) ≡ lowest ((8, protected) ∷ (9, invalid) ∷ [])
  unfolding data_answer
  by_data =
      rw (permitted-same (code s) (byte-lt s bytes 1) u.protect, valid_same)
      (turn (permitted_at u.protect (code s)) (valid_for n (code s) (get_or s 2 0)))
    where
      turn : (p v : Bool) → ◌≡◌ {A = ℕ} (cond p (cond v 0 9) 8) (cond (not p) 8 (cond (not v) 9 0))
      turn true true = refl
      turn true false = refl
      turn false v = refl

  -- for a code with k data bytes
  by_length : (k : ℕ) → length_answer n u s k (code s) (asked s)
      ≡ lowest ((5, ltb (given s) k) ∷ (6, ltb (k + 1) (given s)) ∷ (7, eqb (given s) (k + 1) && wrong) ∷ (8, protected) ∷ (9, invalid) ∷ [])
  unfolding length_answer check_right
  by_length k =
      either (ltb (given s) k) (λ few. rw few)
      (λ enough. let e = ltb-false (given s) k enough in
      either (eqb (given s) k)
      (λ exact. let x = eqb-true (given s) k exact in
      rw (enough, exact, le-ltb (k + 1) (given s) (omega arith), ne_eqb (given s) (k + 1) (omega arith)) by_data)
      (λ more. let m = eqb-false (given s) k more in
      either (eqb (given s - k) 1)
      (λ one. let o = eqb-true (given s - k) 1 one in
      rw (enough, more, one, le-ltb (k + 1) (given s) (omega arith), eq-eqb (given s) (k + 1) (omega arith), by_data)
      (turn (eqb (pec (take (length s - 1) s)) (get_or s (length s - 1) 0)) (lowest ((8, protected) ∷ (9, invalid) ∷ []))))
      (λ two. let t = eqb-false (given s - k) 1 two in
      rw (enough, more, two, lt-ltb (k + 1) (given s) (omega arith)) refl)))
    where
      turn : (r : Bool) (d : ℕ) → cond r d 7 ≡ cond (not r) 7 d
      turn true d = refl
      turn false d = refl

pub answers_apply : AnswersApply
unfolding AnswersApply write_answer addressed_answer code_answer
answers_apply n u s bytes =
    either (eqb (length s) 0) (λ none. rw none)
    (λ some. either (eqb (get_or s 0 0) 0xC0)
    (λ ours. either (eqb (length s) 1) (λ one. rw (some, ours, one))
    (λ two. rw (some, ours, two)
    (rw (by_length n u s bytes (due s)) (turn (lookup (code s)).written _))))
    (λ other. rw (some, other)))
  where
    turn : (w : Bool) (d : ℕ) → cond w d 3 ≡ cond (not w) 3 d
    turn true d = refl
    turn false d = refl
