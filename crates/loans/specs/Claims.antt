-- Everything that is guaranteed of the device over lent records: the table of contents of this folder. proofs/Claims.antt proves the whole.
-- Assumes nothing.
use Rattle.history.specs.Claims.{Claims}
use Rattle.loans.specs.Alike.{AnswerAlike, ReplyAlike, PowerOnAlike, PowerOnByAlike, SuppliesAlike}
use Rattle.loans.specs.Changes.{FifteenExactly, RecordsStay, FifteenLeaves, FifteenReplies, PowerOnLeaves, PowerOnByLeaves}
use Rattle.loans.specs.Runs.{RefusedStarts, StraysDropOut, CarriesOver, LentEnergy}

pub record LentClaims : Type 1 where
  -- ---- with eight records it is the eight-page device (Alike.antt): from equal fields every kind of call
  -- answers and changes alike,
  pub answer-alike : AnswerAlike
  -- replies alike,
  pub reply-alike : ReplyAlike
  -- power-on leaves the same,
  pub power_on-alike : PowerOnAlike
  -- by eight choices too, with the same answer,
  pub power_on-by_alike : PowerOnByAlike
  -- and the same pages supply
  pub supplies-alike : SuppliesAlike
  -- ---- answer 15, and which records a call changes (Changes.antt)
  -- 15 goes exactly to records and an unpaged part that are not valid
  pub fifteen-exactly : FifteenExactly
  -- a call with 15 changes no record, nor the unpaged part,
  pub fifteen-leaves : FifteenLeaves
  -- and replies FFh throughout
  pub fifteen-replies : FifteenReplies
  -- power-on with no record or more than ninety-six gets 15 and touches none
  pub power_on-leaves : PowerOnLeaves
  -- by choices also 27 where they are not as many as the records or one is not granted, and every record as power-on leaves it; otherwise each record
  -- by the choice of its own number
  pub power_on-by_leaves : PowerOnByLeaves
  -- a write changes the selected record, or under FFh any, a measurement that of its page, a tick any, a read, a sample and an alert response none
  pub records_stay : RecordsStay
  -- ---- runs of 1 to 96 records, with calls that get 15 between, whatever is lent to them (Runs.antt)
  -- power-on with 27 begins one, of pages for which nothing else is chosen
  pub refused-starts : RefusedStarts
  -- calls that get 15 make no difference: state, answers and replies are those of the run without them,
  pub strays_drop_out : StraysDropOut
  -- of which crate history claims everything else, with any number of pages;
  pub runs : Claims
  -- what it claims of reached states carries over,
  pub carries_over : CarriesOver
  -- and the energy guarantee holds
  pub lent_energy : LentEnergy
