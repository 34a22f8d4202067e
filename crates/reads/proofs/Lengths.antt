-- How many bytes are sent: the table's number of data bytes, or the six of COEFFICIENTS, and one more for the packet check.
-- Assumes nothing.
use Prim.Native.Nat.{ℕ, ◌≤◌}
use mathlib.Core.Path.{◌≡◌, refl}
use mathlib.Core.Bool.{true, false≢true}
use mathlib.Core.List.{List, [], ◌∷◌, ◌++◌}
use native.Mathlib.Omega.{arith}
use lib.Dec.{eqb}
use lib.ListN.{length, length-append}
use Rattle.std.specs.Prelude.{Result, Ok, Err}
use Rattle.laws.proofs.Branches.{either}
use Rattle.pec.specs.Pec.{pec}
use Rattle.account.specs.Account.{ein_bytes}
use Rattle.command.specs.Meaning.{command_of}
use Rattle.command.specs.Table.{entry_of}
use Rattle.command.specs.Agreement.{row_of}
use Rattle.command.specs.declared.meaning.Command.{Command}
use Rattle.command.specs.declared.meaning.Command.TheVariants.{SelectPage, Operation, ClearFaults, WriteProtect, Capability, VoutMode, VoutCommand, Limit, Response, StatusByte, StatusWord, Status, ReadEin, Reading, Revision, Absent}
use Rattle.page.specs.declared.Page.{Page}
use Rattle.unpaged.specs.declared.Unpaged.{Unpaged}
use Rattle.reads.specs.Answers.{answers_data}
use Rattle.reads.specs.declared.request.Request.{Request}
use Rattle.reads.specs.Coefficients.{coefficient_bytes}
use Rattle.reads.specs.Data.{read_data, request_data, covered, checked, read_stream}
use Rattle.reads.specs.Reply.{alert_stream}

-- the data bytes of a command that is read are as many as its row says; of any command at most seven
module _ (u : Unpaged) (p : Page) where
  pub data_length : (c : Command) → ((entry_of (row_of 0 c)).read ≡ true → length (read_data u p c) ≡ (row_of 0 c).2) × (length (read_data u p c) ≤ 7)
  unfolding read_data row_of entry_of ein_bytes
  data_length SelectPage = (λ r. refl, omega arith)
  data_length Operation = (λ r. refl, omega arith)
  data_length ClearFaults = (λ r. refl, omega arith)
  data_length WriteProtect = (λ r. refl, omega arith)
  data_length Capability = (λ r. refl, omega arith)
  data_length VoutMode = (λ r. refl, omega arith)
  data_length VoutCommand = (λ r. refl, omega arith)
  data_length (Limit k) = (λ r. refl, omega arith)
  data_length (Response k) = (λ r. refl, omega arith)
  data_length StatusByte = (λ r. refl, omega arith)
  data_length StatusWord = (λ r. refl, omega arith)
  data_length (Status k) = (λ r. refl, omega arith)
  data_length ReadEin = (λ r. refl, omega arith)
  data_length (Reading q) = (λ r. refl, omega arith)
  data_length Revision = (λ r. refl, omega arith)
  data_length Absent = (λ r. refl, omega arith)
  data_length Command.Coefficients = (λ r. absurd (false≢true r), omega arith)

  -- and so are those of a request
  pub request_length : (r : Result Request ℕ) → length (request_data u p r) ≤ 7
  unfolding request_data coefficient_bytes
  request_length (Err answer) = omega arith
  request_length (Ok (Request.Plain code k)) = (data_length (command_of code)).1
  request_length (Ok (Request.Coefficients code direction)) = omega arith

  pub stream-length : (answer : ℕ) (r : Result Request ℕ) (header : List ℕ) → length (read_stream u p answer r header) ≤ 8
  unfolding read_stream checked
  stream-length answer r header =
      let l = request_data u p r in
      let short = request_length r in
      either (answers_data answer)
      (λ y. rw y (let e = length-append l (pec (covered header ++ l) ∷ []) in omega arith))
      (λ n. rw n (omega arith))

pub alert_length : (answer : ℕ) → length (alert_stream answer) ≤ 8
unfolding alert_stream
alert_length answer = either (eqb answer 0) (λ y. rw y (omega arith)) (λ n. rw n (omega arith))
