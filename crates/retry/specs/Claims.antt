-- Everything that is guaranteed of a machine, a line for each statement. proofs/Claims.antt proves the whole, so that none goes missing.
-- Assumes nothing.
use Rattle.retry.specs.Claim.{LetsOn, LetsOnAt, TripsAt, Latest, AtMost, ZeroAsOne, ForEver, NoRetry, StaysTripped, UpToDate, StaysValid, ValidOccurs}
use Rattle.retry.specs.Looks.{Gone, AllTries, NoMachine, Blind, Looks}
use Rattle.retry.specs.Machines.{EachAlone}
use Rattle.retry.specs.Table.{Table}

pub record RetryClaims : Type 0 where
  -- ---- while the cause lasts (Claim.antt; data sheet 7.8)
  -- with 1 to 6 retries a machine lets its page on at most as many times, and exactly as many within 56 ticks of its start
  pub lets_on_lem : LetsOn
  -- with any retries at the very ticks
  pub lets_on-at : LetsOnAt
  -- it trips its page at the tick of the look after the last of them
  pub trips-at : TripsAt
  -- the latest of all these ticks is 54
  pub latest : Latest
  -- ---- whatever the cause does (Claim.antt)
  -- from one rest to the next a machine lets its page on at most as many times as its retries say
  pub at_most : AtMost
  -- delay 0 counts as 1
  pub zero_as_one : ZeroAsOne
  -- with 7 retries it never trips its page
  pub for_ever : ForEver
  -- with none it never holds it off
  pub no_retry : NoRetry
  -- a machine that has tripped its page stays so until it is put to rest
  pub stays-tripped : StaysTripped
  -- a further call that changes nothing of the cause changes nothing of the machine
  pub up-to_date : UpToDate
  -- ---- looks at the cause (Looks.antt; data sheet 7.8, 7.10)
  -- one that finds it gone rests the machine, and its tries are forgotten
  pub gone : Gone
  -- a machine that starts has all its tries
  pub all_tries : AllTries
  -- actions 00 and 11 work without a machine
  pub no_machine : NoMachine
  -- between looks the cause changes nothing
  pub blind : Blind
  -- and at a look it decides
  pub looks : Looks
  -- ---- response bytes and their ticks, worked out by hand (Table.antt; data sheet 3.6, 7.10)
  pub table : Table
  -- ---- the machines of a page (Machines.antt)
  -- each moves by its own response byte and cause alone
  pub each-alone : EachAlone
  -- ---- the byte's values (Claim.antt; data sheet 7.12)
  -- every step gives one of the sixty-five
  pub stays-valid : StaysValid
  -- and each of them is reached from rest
  pub valid_occurs : ValidOccurs
