-- What the device sends is read back into the fields that it was made of.
-- Assumes nothing.
use Prim.Native.Nat.{ℕ, ◌+◌, ◌*◌, ◌/◌, ◌%◌, ◌<◌}
use mathlib.Core.Path.{◌≡◌, refl, sym, ap, ◌∙◌}
use mathlib.Core.Bool.{Bool, true, false, false≢true}
use mathlib.Core.List.{List, [], ◌∷◌, ◌++◌}
use native.Mathlib.Omega.{arith}
use lib.Bits.{or_lt}
use lib.Dec.{eqb}
use lib.ListN.{length, get_or, take, length-append}
use lib.Seq.{take_at, get_or_at}
use borrow.Author.Tests.{lt-ltb, eq-eqb, eqb-true}
use Rattle.laws.specs.Lists.{Bytes}
use Rattle.laws.proofs.Branches.{either}
use Rattle.pec.specs.Pec.{pec}
use Rattle.account.specs.declared.Account.{Account}
use Rattle.account.specs.Account.{account_valid, ein_bytes}
use Rattle.account.proofs.Laws.{in_range, reply-back}
use Rattle.command.specs.Table.{Row, lookup, entry_of}
use Rattle.command.specs.Meaning.{command_of, reading_of}
use Rattle.command.specs.Agreement.{row_of, TableAgrees}
use Rattle.command.specs.declared.meaning.Command.{Command}
use Rattle.command.specs.declared.meaning.Command.TheVariants.{SelectPage, Operation, ClearFaults, WriteProtect, Capability, VoutMode, VoutCommand, Limit, Response, StatusByte, StatusWord, Status, ReadEin, Reading, Revision, Absent, Coefficients}
use Rattle.command.proofs.Agreement.{table-agrees}
use Rattle.page.specs.declared.Page.{Page}
use Rattle.page.specs.Causes.{weigh}
use Rattle.page.specs.Status.{status_byte}
use Rattle.unpaged.specs.declared.Unpaged.{Unpaged}
use Rattle.reads.specs.Data.{word_bytes, read_data}
use Rattle.device.specs.declared.Device.{Device}
use Rattle.device.specs.Device.{device_valid, page_shown}
use Rattle.device.proofs.States.{valid_parts}
use Rattle.replies.specs.Replies.{clocked_for, reply_check, check_holds, account_answer, reply_answer}
use Rattle.host.specs.Parse.{is_account, parse_answer, fields_of, parsed}
use Rattle.host.proofs.Frames.{read_right}
use Rattle.dialogue.specs.Transactions.{Buildable}
use Rattle.dialogue.specs.Understood.{data_of, ReadsUnderstood, field_bytes, Heard, RepliesHeard}
use Rattle.dialogue.proofs.Sent.{more, data_long}
use Rattle.dialogue.proofs.Understood.{reads_understood}

module _ (code : ℕ) (bytes : List ℕ) where
  right_length : (check : Bool) → length (bytes ++ more code bytes check) ≡ clocked_for (length bytes) check
  unfolding clocked_for
  right_length true = length-append bytes (pec (0xC0 ∷ code ∷ 0xC1 ∷ bytes) ∷ [])
  right_length false = length-append bytes []

  check_right_lem : (check : Bool) → check_holds code (length bytes) check (bytes ++ more code bytes check) ≡ true
  unfolding check_holds reply_check
  check_right_lem true =
      let x = pec (0xC0 ∷ code ∷ 0xC1 ∷ bytes) in
      eq-eqb (pec (0xC0 ∷ code ∷ 0xC1 ∷ take (length bytes) (bytes ++ (x ∷ [])))) (get_or (bytes ++ (x ∷ [])) (length bytes) 0)
      (ap (λ (l : List ℕ). pec (0xC0 ∷ code ∷ 0xC1 ∷ l)) (take_at bytes (x ∷ []) (length bytes) refl)
      ∙ sym (get_or_at bytes x [] 0 (length bytes) refl))
  check_right_lem false = refl

  passes : (check energy : Bool) → (energy ≡ true → account_answer (bytes ++ more code bytes check) ≡ 0)
      → reply_answer code (length bytes) check energy (bytes ++ more code bytes check) ≡ 0
  unfolding reply_answer
  passes check true h = rw (eq-eqb _ _ (right_length check), check_right_lem check) (h refl)
  passes check false h = rw (eq-eqb _ _ (right_length check), check_right_lem check)

-- ---- the fields, by command

word-again : (low high : ℕ) → low < 256 → word_bytes (low + high * 256) ≡ low ∷ high ∷ []
word-again low high h =
    let a : (low + high * 256) % 256 ≡ low = omega arith in
    let b : (low + high * 256) / 256 ≡ high = omega arith in
    rw (a, b)

seven : (a : Account) → length (ein_bytes a) ≡ 7
unfolding ein_bytes
seven a = refl

ein_again : (a : Account) (rest : List ℕ) → account_valid a ≡ true
    → field_bytes (length (ein_bytes a)) (fields_of (length (ein_bytes a)) (ein_bytes a ++ rest)) ≡ ein_bytes a
unfolding fields_of
ein_again a rest v = ap (λ (k : ℕ). field_bytes k (fields_of k (ein_bytes a ++ rest))) (seven a) ∙ ap ein_bytes (reply-back a rest v)

-- STATUS_BYTE is a byte
weight : (b : Bool) (w : ℕ) → w < 256 → weigh b w < 256
unfolding weigh
weight true w h = h
weight false w h = omega arith

status_lt : (p : Page) (cml : ℕ) → status_byte p cml < 256
unfolding status_byte
status_lt p cml =
    let or = or_lt 8 in
    or _ _ (or _ _ (or _ _ (or _ _ (or _ _ (or _ _ (weight _ 64 (omega arith)) (weight _ 32 (omega arith))) (weight _ 16 (omega arith)))
    (weight _ 8 (omega arith))) (weight _ 4 (omega arith))) (weight _ 2 (omega arith))) (weight _ 1 (omega arith))

module _ (u : Unpaged) (p : Page) (c : ℕ) (rest : List ℕ) where
  again : (m : Command) → (entry_of (row_of c m)).read ≡ true → account_valid u.energy ≡ true
      → field_bytes (length (read_data u p m)) (fields_of (length (read_data u p m)) (read_data u p m ++ rest)) ≡ read_data u p m
  unfolding entry_of row_of read_data fields_of
  again SelectPage r v = refl
  again Operation r v = refl
  again ClearFaults r v = absurd (false≢true r)
  again WriteProtect r v = refl
  again Capability r v = refl
  again VoutMode r v = refl
  again VoutCommand r v = word-again _ _ (omega arith)
  again (Limit k) r v = word-again _ _ (omega arith)
  again (Response k) r v = refl
  again StatusByte r v = refl
  again StatusWord r v = word-again _ _ (status_lt p u.cml)
  again (Status k) r v = refl
  again ReadEin r v = ein_again u.energy rest v
  again (Reading q) r v = word-again _ _ (omega arith)
  again Revision r v = refl
  again Absent r v = absurd (false≢true r)
  again Coefficients r v = absurd (false≢true r)

-- ---- an account passes its own tests

six : (a : Account) (rest : List ℕ) → get_or (ein_bytes a ++ rest) 0 0 ≡ 6
unfolding ein_bytes
six a rest = refl

answer-zero : (k : ℕ) (s : List ℕ) → (fields_of k s).answer ≡ 0
unfolding fields_of
answer-zero k s =
    either (eqb k 1) (λ y. rw y) (λ n. rw n (either (eqb k 2) (λ y. rw y) (λ n. rw n)))

eq_account : (code : ℕ) → code ≡ 0x86 → is_account code ≡ true
unfolding is_account
eq_account code e = eq-eqb code 0x86 e

ein_account : (a : Account) (rest : List ℕ) → account_valid a ≡ true → (fields_of (length (ein_bytes a)) (ein_bytes a ++ rest)).account ≡ a
unfolding fields_of
ein_account a rest v = ap (λ (k : ℕ). (fields_of k (ein_bytes a ++ rest)).account) (seven a) ∙ reply-back a rest v

ein_passes : (a : Account) (rest : List ℕ) → account_valid a ≡ true → account_answer (ein_bytes a ++ rest) ≡ 0
unfolding account_answer
ein_passes a rest v =
    let r = in_range a v in
    rw (six a rest, reply-back a rest v, lt-ltb a.accumulator 32768 (omega arith))

module _ (code : ℕ) (b : code < 256) where
  row_read : (lookup code).read ≡ true → (entry_of (row_of code (command_of code))).read ≡ true
  unfolding lookup TableAgrees
  row_read r = sym (ap (λ (w : Row). (entry_of w).read) (table-agrees code b).row) ∙ r

module _ (u : Unpaged) (p : Page) (code : ℕ) where
  energy_data : is_account code ≡ true → read_data u p (command_of code) ≡ ein_bytes u.energy
  unfolding is_account command_of reading_of read_data
  energy_data e = let z = eqb-true code 0x86 e in rw z

-- what is read of the data and whatever comes behind them
module _ (d : Device) (code : ℕ) (b : code < 256) (v : device_valid d ≡ true) (r : (lookup code).read ≡ true) (check : Bool) where
  abbrev s : List ℕ
  s = data_of d code

  valid : account_valid d.unpaged.energy ≡ true
  valid = (valid_parts d v).energy

  long : length s ≡ (lookup code).length
  long = data_long d.unpaged (page_shown d) code b r

  accepted : parse_answer code check (s ++ more code s check) ≡ 0
  unfolding parse_answer
  accepted =
      rw r
      (ap (λ (k : ℕ). reply_answer code k check (is_account code) (s ++ more code s check)) (sym long)
      ∙ passes code s check (is_account code)
      (λ w. let z = energy_data d.unpaged (page_shown d) code w in
      rw z (ein_passes d.unpaged.energy (more code (ein_bytes d.unpaged.energy) check) valid)))

  read_so : parsed code check (s ++ more code s check) ≡ fields_of (length s) (s ++ more code s check)
  unfolding parsed
  read_so = rw accepted (ap (λ (k : ℕ). fields_of k (s ++ more code s check)) (sym long))

  heard-data : Heard d code (fields_of (length s) (s ++ more code s check))
  heard-data =
      record {
        answer = answer-zero (length s) (s ++ more code s check);
        same =
            ap (λ (k : ℕ). field_bytes k (fields_of (length s) (s ++ more code s check))) (sym long)
            ∙ again d.unpaged (page_shown d) code (more code s check) (command_of code) (row_read code b r) valid;
        energy = λ e.
            let z = energy_data d.unpaged (page_shown d) code (eq_account code e) in
            ap (λ (l : List ℕ). (fields_of (length l) (l ++ more code s check)).account) z
            ∙ ein_account d.unpaged.energy (more code s check) valid;
      }

pub replies_heard : RepliesHeard
unfolding RepliesHeard Buildable Bytes ReadsUnderstood
replies_heard d code check v b n =
    let sent = (reads_understood d code check v b).reply n in
    let code-byte = b.0.0 in
    let r = read_right code b.1 in
    rw (sent, read_so d code code-byte v r check) (heard-data d code code-byte v r check)
