-- What is said of the host in other words than its definitions: the table of contents of these files. proofs/Claims.antt proves the whole.
-- Assumes nothing.
use Rattle.replies.specs.Applies.{RepliesApply}
use Rattle.totalizer.specs.Applies.{TakesApply}
use Rattle.host.specs.Applies.{WritesApply, ReadsApply, ParsesApply}
use Rattle.host.specs.Stored.{WritesStored, ReadsStored}
use Rattle.host.specs.Fields.{DataKinds, FieldsRead}

pub record HostClaims : Type 0 where
  -- ---- building (Applies.antt, Stored.antt; data sheet 18.2 to 18.5)
  -- the answer of a write is the lowest of 3, 5, 6 and 26 that applies, and the numbers handed back are those of the frame
  pub writes_apply : WritesApply
  -- of a read the lowest of 3 and 26, with the count to clock
  pub reads_apply : ReadsApply
  -- each byte of the buffer after a write,
  pub writes_stored : WritesStored
  -- and after a read
  pub reads_stored : ReadsStored
  -- ---- replies (Applies.antt, Fields.antt; data sheet 18.6, 18.7)
  -- the answer is the lowest of 20 to 23 that applies to the bytes, for host and totalizer,
  pub replies_apply : RepliesApply
  -- after 3 for a code that is not read
  pub parses_apply : ParsesApply
  -- the data of a code are a byte, a word, or those of 86h
  pub data_kinds : DataKinds
  -- and what the fields then are
  pub fields_read : FieldsRead
  -- ---- the totalizer, by code (crate totalizer; data sheet 18.8)
  -- its answer is the lowest of 15 and 20 to 24 that applies, and which of them change it
  pub takes_apply : TakesApply
