-- Devices that differ in warn limits, warnings' bits and the alert at most reply alike to reads of codes that show no warnings.
-- Assumes nothing.
use Prim.Native.Nat.{ℕ, ◌<◌, ◌%◌}
use mathlib.Core.Path.{◌≡◌, refl}
use mathlib.Core.Logic.{⊎_elim}
use mathlib.Core.Bool.{Bool, true, false, ◌||◌, false≢true}
use native.Mathlib.Omega.{arith}
use lib.Dec.{eqb, ltb}
use lib.ListN.{get_or}
use borrow.Author.Tests.{ltb-true}
use Rattle.laws.proofs.Branches.{either}
use Rattle.laws.proofs.Every.{agree-test}
use Rattle.laws.proofs.Lists.{byte-lt}
use Rattle.cause.specs.Causes.{warnings}
use Rattle.command.specs.declared.meaning.Command.{Command}
use Rattle.command.specs.declared.meaning.Command.TheVariants.{SelectPage, Operation, ClearFaults, WriteProtect, Capability, VoutMode, VoutCommand, Limit, Response, StatusByte, StatusWord, Status, ReadEin, Reading, Revision, Absent, Coefficients}
use Rattle.command.specs.Meaning.{command_of, setting_of, fault_of, reading_of}
use Rattle.page.specs.declared.Page.{Page}
use Rattle.page.specs.Status.{reading}
use Rattle.unpaged.specs.declared.Unpaged.{Unpaged}
use Rattle.reads.specs.Answers.{answers_data}
use Rattle.reads.specs.Data.{status_register, read_data, request_data, read_stream}
use Rattle.device.specs.Device.{page_shown}
use Rattle.device.specs.Step.{read, sent, step}
use Rattle.history.specs.Run.{answer}
use Rattle.history.specs.Warnings.{warn_limit, shows_warnings, AlikePages, AnswerAlike, ReplyAlike}
use Rattle.history.proofs.AlikePages.{fault_limit}
use Rattle.history.proofs.Outcomes.{sends_data}
use Rattle.history.proofs.Warnings.{answer-alike, page-shown}

-- a command whose data show no warning
abbrev plain : Command → Bool
plain SelectPage = true
plain Operation = true
plain ClearFaults = true
plain WriteProtect = true
plain Capability = true
plain VoutMode = true
plain VoutCommand = true
plain (Limit k) = ltb k 6
plain (Response k) = true
plain StatusByte = false
plain StatusWord = false
plain (Status k) = eqb k 4
plain ReadEin = true
plain (Reading q) = true
plain Revision = true
plain Absent = true
plain Coefficients = true

plain_code : (c : ℕ) → c < 256 → shows_warnings c ≡ false → plain (command_of c) ≡ true
unfolding shows_warnings warn_limit warnings command_of setting_of fault_of reading_of
plain_code c h n =
    let both = agree-test (λ c. shows_warnings c || plain (command_of c)) (λ c. true) 256 tt c h in
    rw n at both

module _ (u v : Unpaged) (page : u.page ≡ v.page) (protect : u.protect ≡ v.protect) (cml : u.cml ≡ v.cml) (energy : u.energy ≡ v.energy)
    (p q : Page) (a : AlikePages p q) where
  data_alike : (k : Command) → plain k ≡ true → read_data u p k ≡ read_data v q k
  unfolding read_data status_register reading
  data_alike SelectPage h = rw page
  data_alike Operation h = rw a.operation
  data_alike ClearFaults h = refl
  data_alike WriteProtect h = rw protect
  data_alike Capability h = refl
  data_alike VoutMode h = refl
  data_alike VoutCommand h = rw a.command
  data_alike (Limit k) h =
      let small = ltb-true k 6 h in
      let same : k % 11 ≡ k = omega arith in
      rw (same, fault_limit p q a k small)
  data_alike (Response k) h = rw a.responses
  data_alike StatusByte h = absurd (false≢true h)
  data_alike StatusWord h = absurd (false≢true h)
  data_alike (Status k) h = rw (h, cml)
  data_alike ReadEin h = rw energy
  data_alike (Reading x) h = rw (a.words, a.measured)
  data_alike Revision h = refl
  data_alike Absent h = refl
  data_alike Coefficients h = refl

pub reply-alike : ReplyAlike
unfolding ReplyAlike step sent read_stream request_data AnswerAlike
reply-alike d e header n a b h =
    let code = get_or header 1 0 in
    let same : answer d (read header n) ≡ answer e (read header n) = answer-alike d e a (read header n) in
    let bytes = data_alike d.unpaged e.unpaged a.page a.protect a.cml a.energy (page_shown d) (page_shown e)
    (page-shown d e a) (command_of code) (plain_code code (byte-lt header b 1) h) in
    either (answers_data (answer e (read header n)))
    (λ y. ⊎_elim (λ s. rw (same, s.asks, bytes)) (λ s. rw (same, s.asks, (page-shown d e a).formats)) (sends_data e header n y))
    (λ no. rw (same, no))
