-- What the device sends to a read that was built: its data, and the packet check where it is clocked.
-- Assumes nothing.
use Prim.Native.Nat.{ℕ, ◌+◌, ◌<◌}
use mathlib.Core.Path.{◌≡◌, sym, ap, ◌∙◌}
use mathlib.Core.Bool.{Bool, true, false, cond}
use mathlib.Core.List.{List, [], ◌∷◌, ◌++◌, append_assoc, append-nil}
use native.Mathlib.Omega.{arith}
use lib.ListN.{length, take, replicate, length-append}
use lib.Seq.{take_at}
use Rattle.pec.specs.Pec.{pec}
use Rattle.command.specs.Table.{lookup}
use Rattle.command.specs.Meaning.{command_of}
use Rattle.page.specs.declared.Page.{Page}
use Rattle.unpaged.specs.declared.Unpaged.{Unpaged}
use Rattle.reads.specs.Request.{plain_of, addressed_of, request_of}
use Rattle.reads.specs.Answers.{answers_data}
use Rattle.reads.specs.Data.{read_data, request_data, checked, read_stream}
use Rattle.reads.specs.Reply.{reply_of}
use Rattle.reads.proofs.Replies.{replies_follow}
use Rattle.replies.specs.Replies.{read_header, clocked_for}
use Rattle.host.specs.Build.{read_count}

-- behind the data
abbrev pub more : ℕ → List ℕ → Bool → List ℕ
more code bytes check = cond check (pec (0xC0 ∷ code ∷ 0xC1 ∷ bytes) ∷ []) []

module _ (code : ℕ) (bytes : List ℕ) where
  clocked-reply : (check : Bool)
      → reply_of (checked (read_header code) bytes) (clocked_for (length bytes) check) ≡ bytes ++ more code bytes check
  unfolding checked clocked_for
  clocked-reply true =
      let x = pec (0xC0 ∷ code ∷ 0xC1 ∷ bytes) in
      take_at (bytes ++ (x ∷ [])) (replicate (length bytes + 1) 255) (length bytes + 1) (length-append bytes (x ∷ []))
  clocked-reply false =
      let x = pec (0xC0 ∷ code ∷ 0xC1 ∷ bytes) in
      let n : length bytes ≡ length bytes + 0 = omega arith in
      ap (take (length bytes + 0)) (append_assoc bytes (x ∷ []) (replicate (length bytes + 0) 255))
      ∙ take_at bytes (x ∷ replicate (length bytes + 0) 255) (length bytes + 0) n ∙ sym (append-nil bytes)

module _ (u : Unpaged) (p : Page) (code : ℕ) (b : code < 256) where
  pub data_long : (lookup code).read ≡ true → length (read_data u p (command_of code)) ≡ (lookup code).length
  data_long r = (replies_follow.of_code u p code 0 b r).as_due

  pub sent-bytes : (lookup code).read ≡ true → (check : Bool)
      → reply_of (read_stream u p 0 (request_of (read_header code)) (read_header code)) (read_count code check)
      ≡ read_data u p (command_of code) ++ more code (read_data u p (command_of code)) check
  unfolding read_stream answers_data read_count request_of addressed_of plain_of request_data
  sent-bytes r check =
      let s = read_data u p (command_of code) in
      rw r (ap (λ (k : ℕ). reply_of (checked (read_header code) s) (clocked_for k check)) (sym (data_long r)) ∙ clocked-reply code s check)
