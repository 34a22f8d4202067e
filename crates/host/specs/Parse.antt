-- A reply read into its fields: a byte, a word or an account, by the number of data bytes that the table gives the code (data sheet 18.6).
-- Assumes nothing.
use Rattle.std.specs.Prelude.{ℕ, ◌+◌, ◌*◌, Bool, cond, List, eqb, get_or, Result, Ok, Err}
use Rattle.answer.specs.declared.Refusal.{Refusal}
use Rattle.answer.specs.Answer.{number_of}
use Rattle.account.specs.declared.Account.{Account}
use Rattle.account.specs.Account.{account, account_of}
use Rattle.command.specs.Table.{Entry, lookup}
use Rattle.replies.specs.Replies.{reply_answer}
use Rattle.host.specs.declared.parse.Reply.{Reply}
use Rattle.host.specs.declared.parse.Fields.{Fields}
use Rattle.host.specs.declared.parse.Fields.TheVariants.{Byte, Word, Account as Counted}

-- the codes whose data are an account: READ_EIN
unfoldable pub is_account : ℕ → Bool
is_account code = eqb code 0x86

-- 3 for a code that is not read, then the tests that the totalizer makes of its replies (data sheet 18.7)
abbrev pub row_parse_answer : Entry → ℕ → Bool → List ℕ → ℕ
row_parse_answer e code check s = cond e.read (reply_answer code e.length check (is_account code) s) 3

unfoldable pub parse_answer : ℕ → Bool → List ℕ → ℕ
parse_answer code check s = row_parse_answer (lookup code) code check s

abbrev pub reply : ℕ → ℕ → ℕ → Account → Reply
reply answer byte word a = record { answer = answer; byte = byte; word = word; account = a }

-- under a refusal all fields are 0,
abbrev pub refused_reply : ℕ → Reply
refused_reply answer = reply answer 0 0 (account 0 0 0)

-- what C sees of the fields, or of why there are none
abbrev pub reply_of : Result Fields Refusal → Reply
reply_of (Ok (Byte x)) = reply 0 x 0 (account 0 0 0)
reply_of (Ok (Word w)) = reply 0 0 w (account 0 0 0)
reply_of (Ok (Counted a)) = reply 0 0 0 a
reply_of (Err refusal) = reply (number_of refusal) 0 0 (account 0 0 0)

-- else those that a code with k data bytes does not have
unfoldable pub fields_of : ℕ → List ℕ → Reply
fields_of k s =
    cond (eqb k 1) (reply 0 (get_or s 0 0) 0 (account 0 0 0))
    (cond (eqb k 2) (reply 0 0 (get_or s 0 0 + get_or s 1 0 * 256) (account 0 0 0))
    (reply 0 0 0 (account_of s)))

unfoldable pub parsed : ℕ → Bool → List ℕ → Reply
parsed code check s =
    cond (eqb (parse_answer code check s) 0) (fields_of (lookup code).length s) (refused_reply (parse_answer code check s))
