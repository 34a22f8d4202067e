-- Everything that is guaranteed of host and device together: the table of contents of this folder. proofs/Claims.antt proves the whole, so
-- that none goes missing.
-- Assumes nothing.
use Rattle.host.specs.Claims.{HostClaims}
use Rattle.dialogue.specs.Transactions.{AllMeant, ExactlyOne}
use Rattle.dialogue.specs.Understood.{WritesUnderstood, ReadsUnderstood, RepliesHeard}
use Rattle.dialogue.specs.Lent.{LentUnderstood, LentHeard}
use Rattle.dialogue.specs.Streamed.{AsCall, StreamUnderstood, StreamHeard, WriteAcked, ReadAcked}

pub record DialogueClaims : Type 0 where
  -- ---- the host by itself: answers, each byte of its buffer, the fields of a reply (crate host)
  pub host : HostClaims
  -- ---- the transactions (Transactions.antt; data sheet 18.10)
  -- what is built is a well-formed write, or a read clocked as the table says
  pub all_meant : AllMeant
  -- and each of these is built by exactly one code, data and choice of the packet check
  pub exactly_one : ExactlyOne
  -- ---- the device with whole transactions, of any number of pages (Understood.antt; data sheet 18.9, 18.11)
  -- a write does what its command does with its data
  pub writes_understood : WritesUnderstood
  -- a read is answered by the data
  pub reads_understood : ReadsUnderstood
  -- and its reply read back into them
  pub replies_heard : RepliesHeard
  -- ---- the same over lent records (Lent.antt)
  pub lent_understood : LentUnderstood
  pub lent_heard : LentHeard
  -- ---- and event by event (Streamed.antt)
  -- the bytes fed one by one are the whole call
  pub as_call : AsCall
  pub stream-understood : StreamUnderstood
  pub stream-heard : StreamHeard
  -- each byte that was built is ACKed
  pub write_acked : WriteAcked
  pub read_acked : ReadAcked
