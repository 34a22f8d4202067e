-- What a read of each code gives: by computation at each line, and at each of the 256 codes.
-- Assumes nothing.
use mathlib.Core.Path.{refl}
use mathlib.Core.List.{map}
use native.Mathlib.Nat.{le_refl}
use lib.ListN.{replicate, length-replicate}
use lib.Seq.{take_all}
use borrow.Author.Tests.{ne_eqb}
use Rattle.laws.proofs.Every.{agree-test}
use Rattle.account.specs.Account.{ein_bytes}
use Rattle.command.specs.Table.{table, lookup, entry_of}
use Rattle.command.specs.Meaning.{command_of, setting_of, fault_of, reading_of}
use Rattle.page.specs.Status.{reading}
use Rattle.unpaged.specs.Applies.{is_in}
use Rattle.reads.specs.Data.{status_register, read_data}
use Rattle.reads.specs.Reply.{alert_stream}
use Rattle.reads.specs.Gives.{given, ReadsGive, AlertReplies}

pub reads_give : ReadsGive
unfolding ReadsGive read_data status_register reading ein_bytes command_of setting_of fault_of reading_of lookup table entry_of
reads_give u p = (refl, agree-test (λ c. (lookup c).read) (λ c. is_in c (map (λ l. l.0) (given u p))) 256 tt)

pub alert_replies : AlertReplies
unfolding AlertReplies alert_stream
alert_replies answer n =
    record {
      answered = λ e one. rw (e, one);
      nothing = λ e. rw (ne_eqb answer 0 e) (take_all n (replicate n 255) (rw (length-replicate) (le_refl n)));
    }
