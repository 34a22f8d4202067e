-- What was built asks for that command with those data.
-- Assumes nothing.
use Prim.Native.Nat.{ℕ, ◌+◌, ◌-◌, ◌<◌}
use mathlib.Core.Path.{◌≡◌, refl, ap, ap₂, ◌∙◌}
use mathlib.Core.Logic.{◌⊎◌, inl, inr}
use mathlib.Core.Bool.{Bool, true, false, cond, ◌&&◌}
use mathlib.Core.List.{List, [], ◌∷◌, ◌++◌}
use native.Mathlib.Omega.{arith}
use lib.Dec.{eqb}
use lib.ListN.{length, get_or, take, length-append, get_or-append}
use borrow.Author.Tests.{le-ltb, eq-eqb, ne_eqb}
use Rattle.laws.specs.Lists.{Bytes}
use Rattle.laws.proofs.Branches.{either}
use Rattle.pec.specs.Pec.{pec}
use Rattle.command.specs.Table.{lookup, entry_of}
use Rattle.command.specs.Meaning.{command_of}
use Rattle.command.specs.Paged.{paged}
use Rattle.command.specs.Agreement.{row_of, TableAgrees}
use Rattle.command.specs.declared.meaning.Command.{Command}
use Rattle.command.specs.declared.meaning.Command.TheVariants.{SelectPage, Operation, ClearFaults, WriteProtect, Capability, VoutMode, VoutCommand, Limit, Response, StatusByte, StatusWord, Status, ReadEin, Reading, Revision, Absent, Coefficients}
use Rattle.command.proofs.Agreement.{table-agrees}
use Rattle.page.specs.declared.Page.{Page}
use Rattle.unpaged.specs.declared.Unpaged.{Unpaged}
use Rattle.unpaged.specs.Unpaged.{every_page}
use Rattle.writes.specs.declared.asked.Write.{Write}
use Rattle.writes.specs.Asked.{word_of, write_of, asked, valid_write}
use Rattle.writes.specs.Answers.{check_right, permitted, data_answer, length_answer, code_answer, addressed_answer, write_answer}
use Rattle.reads.specs.Request.{plain_of, addressed_of, request_of}
use Rattle.reads.specs.Answers as reading
use Rattle.reads.specs.Answers.{request_answer, read_answer}
use Rattle.reads.specs.Data.{read_stream}
use Rattle.reads.specs.Reply.{reply_of}
use Rattle.device.specs.declared.Device.{Device}
use Rattle.device.specs.Device.{page_shown}
use Rattle.device.specs.Step.{write, read, answer_of, answered, effect, refused_device, left, sent, done, step}
use Rattle.device.proofs.States.{answered-of}
use Rattle.replies.specs.Replies.{read_header, clocked_for}
use Rattle.host.specs.Build.{write_frame, read_count}
use Rattle.host.proofs.Frames.{write_right, read_right}
use Rattle.dialogue.specs.Transactions.{Buildable, call_of}
use Rattle.dialogue.specs.Understood.{commanded, command_answer, WritesUnderstood, unreadable, ReadsUnderstood}
use Rattle.dialogue.proofs.Inverse.{right_pec}
use Rattle.dialogue.proofs.Sent.{sent-bytes}

-- the write of a command whose data are the first bytes of l
abbrev of_command : Command → List ℕ → Write
of_command m l = write_of m (get_or l 0 0) (word_of (get_or l 0 0) (get_or l 1 0))

at : (bytes more : List ℕ) (i : ℕ) → i < length bytes → get_or (bytes ++ more) i 0 ≡ get_or bytes i 0
at bytes more i h = get_or-append bytes more 0 i h

-- the bytes behind the data make no difference
module _ (c : ℕ) (bytes more : List ℕ) where
  one : (f : ℕ → Write) → length bytes ≡ 1 → f (get_or (bytes ++ more) 0 0) ≡ f (get_or bytes 0 0)
  one f e = ap f (at bytes more 0 (omega arith))

  two : (f : ℕ → Write) → length bytes ≡ 2
      → f (word_of (get_or (bytes ++ more) 0 0) (get_or (bytes ++ more) 1 0)) ≡ f (word_of (get_or bytes 0 0) (get_or bytes 1 0))
  two f e = ap f (ap₂ word_of (at bytes more 0 (omega arith)) (at bytes more 1 (omega arith)))

  data_alone : (m : Command) → length bytes ≡ (row_of c m).2 → of_command m (bytes ++ more) ≡ of_command m bytes
  unfolding write_of row_of
  data_alone SelectPage e = one (λ x. write_of SelectPage x 0) e
  data_alone Operation e = one (λ x. write_of Operation x 0) e
  data_alone ClearFaults e = refl
  data_alone WriteProtect e = one (λ x. write_of WriteProtect x 0) e
  data_alone Capability e = refl
  data_alone VoutMode e = refl
  data_alone VoutCommand e = two (λ w. write_of VoutCommand 0 w) e
  data_alone (Limit k) e = two (λ w. write_of (Limit k) 0 w) e
  data_alone (Response k) e = one (λ x. write_of (Response k) x 0) e
  data_alone StatusByte e = refl
  data_alone StatusWord e = refl
  data_alone (Status k) e = one (λ x. write_of (Status k) x 0) e
  data_alone ReadEin e = refl
  data_alone (Reading q) e = refl
  data_alone Revision e = refl
  data_alone Absent e = refl
  data_alone Coefficients e = refl

module _ (code : ℕ) (bytes : List ℕ) (b : code < 256) (e : length bytes ≡ (lookup code).length) where
  by_row : length bytes ≡ (row_of code (command_of code)).2
  unfolding lookup entry_of TableAgrees
  by_row = e ∙ ap (λ r. r.2) (table-agrees code b).row

  command_meant : (check : Bool) → asked (write_frame code bytes check) ≡ commanded code bytes
  unfolding asked write_frame
  command_meant true = data_alone code bytes (pec (0xC0 ∷ code ∷ bytes) ∷ []) (command_of code) by_row
  command_meant false = refl

  answer-meant : (check : Bool) → (lookup code).written ≡ true → (n : ℕ) (u : Unpaged)
      → write_answer n u (write_frame code bytes check) ≡ data_answer n u code (asked (write_frame code bytes check))
  unfolding write_frame write_answer addressed_answer code_answer length_answer check_right
  answer-meant true w n u =
      let s : List ℕ = 0xC0 ∷ code ∷ bytes ++ (pec (0xC0 ∷ code ∷ bytes) ∷ []) in
      let k = (lookup code).length in
      let l = length-append bytes (pec (0xC0 ∷ code ∷ bytes) ∷ []) in
      rw (
        ne_eqb (length s) 0 (λ z. omega arith),
        ne_eqb (length s) 1 (λ z. omega arith),
        w,
        le-ltb (length s - 2) k (omega arith),
        ne_eqb (length s - 2) k (λ z. omega arith),
        eq-eqb (length s - 2 - k) 1 (omega arith),
        eq-eqb (pec (take (length s - 1) s)) (get_or s (length s - 1) 0) (right_pec (0xC0 ∷ code ∷ bytes)),
      )
  answer-meant false w n u =
      let s : List ℕ = 0xC0 ∷ code ∷ bytes in
      let k = (lookup code).length in
      rw (
        ne_eqb (length s) 0 (λ z. omega arith),
        ne_eqb (length s) 1 (λ z. omega arith),
        w,
        le-ltb (length s - 2) k (omega arith),
        eq-eqb (length s - 2) k (omega arith),
      )

-- protection and data alone decide
only-these : (n : ℕ) (u : Unpaged) (code : ℕ) (w : Write)
    → (data_answer n u code w ≡ 0) ⊎ ((data_answer n u code w ≡ 8) ⊎ (data_answer n u code w ≡ 9))
unfolding data_answer
only-these n u code w =
    either (permitted u.protect code)
    (λ p. either (valid_write n w) (λ v. rw (p, v) (inl refl)) (λ v. rw (p, v) (inr (inr refl))))
    (λ p. rw p (inr (inl refl)))

pub writes_understood : WritesUnderstood
unfolding WritesUnderstood Buildable Bytes step left effect answer_of call_of
writes_understood d code bytes check v b =
    let f = write_right code (length bytes) b.1 in
    let n = length d.pages in
    let m = command_meant code bytes b.0.0 f.1 check in
    let a : answered d (write (write_frame code bytes check)) ≡ command_answer d code bytes =
    answered-of d (write (write_frame code bytes check)) v
    ∙ answer-meant code bytes b.0.0 f.1 check f.0 n d.unpaged ∙ ap (data_answer n d.unpaged code) m in
    record {
      command = m;
      done = rw (a, m);
      form = only-these n d.unpaged code (commanded code bytes);
    }

-- ---- reads

module _ (code : ℕ) (r : (lookup code).read ≡ true) where
  read_answer_lem : (check : Bool) (u : Unpaged) (p : Page)
      → read_answer u p (read_header code) (read_count code check) ≡ cond (every_page u && paged code) 9 0
  unfolding read_answer request_answer reading.data_answer request_of addressed_of plain_of read_count clocked_for
  read_answer_lem true u p =
      let k = (lookup code).length in
      rw (r, le-ltb (k + 1) k (omega arith), le-ltb (k + 1) (k + 1) (omega arith))
  read_answer_lem false u p =
      let k = (lookup code).length in
      rw (r, le-ltb (k + 0) k (omega arith), le-ltb (k + 1) (k + 0) (omega arith))

-- the answer of a read, and what it leaves
module _ (d : Device) (header : List ℕ) (n : ℕ) where
  read_done : (a : ℕ) → answered d (read header n) ≡ a → (step d (read header n)).done ≡ done (cond (eqb a 0) d (refused_device d a)) a
  unfolding step left effect
  read_done a e = rw e

  read_sent_lem : answered d (read header n) ≡ 0
      → (step d (read header n)).reply ≡ reply_of (read_stream d.unpaged (page_shown d) 0 (request_of header) header) n
  unfolding step sent
  read_sent_lem e = rw e

pub reads_understood : ReadsUnderstood
unfolding ReadsUnderstood Buildable Bytes answer_of call_of
reads_understood d code check v b =
    let r = read_right code b.1 in
    let n = read_count code check in
    let a : answered d (read (read_header code) n) ≡ cond (unreadable d code) 9 0 =
    answered-of d (read (read_header code) n) v ∙ read_answer_lem code r check d.unpaged (page_shown d) in
    record {
      done =
          either (unreadable d code)
          (λ y. rw y (read_done d (read_header code) n 9 (a ∙ ap (λ (x : Bool). cond x 9 0) y)))
          (λ f. rw f (read_done d (read_header code) n 0 (a ∙ ap (λ (x : Bool). cond x 9 0) f)));
      reply = λ f.
          read_sent_lem d (read_header code) n (a ∙ ap (λ (x : Bool). cond x 9 0) f)
          ∙ sent-bytes d.unpaged (page_shown d) code b.0.0 r check;
    }
