-- Everything that is guaranteed of the streaming device, over single events and over runs: the table of contents of this folder and of
-- crates bus and stream, a line for each statement. proofs/Claims.antt proves the whole, so that none goes missing.
-- Assumes nothing.
use Rattle.bus.specs.Ack.{AbsentExactly, NackedFirst, NackedSecond}
use Rattle.bus.specs.Orders.{EveryOrder, OrdersLead, BreachLasts}
use Rattle.bus.specs.Places.{NoArrow}
use Rattle.bus.specs.Fields.{ValidFields}
use Rattle.stream.specs.Claims.{WriteByEleven, ReadByEleven, Written, Read, EveryEnd, AckedFirst, AckedSecond, Breach, NoStart, Dropped, Fifteen, PartStays}
use Rattle.traffic.specs.Traffic.{WritesBetween, ReadsBetween, AcksBetween}
use Rattle.traffic.specs.Breach.{BreachBetween}
use Rattle.traffic.specs.Nacks.{NackExactly}
use Rattle.traffic.specs.Fifteen.{FifteenExactly}
use Rattle.traffic.specs.Runs.{NoFifteen, AsRun, SameOutcomes, Reaches, UntilStop}
use Rattle.traffic.specs.Underway.{ByOrders}
use Rattle.traffic.specs.Whole.{AsCalls, TransactionsAlike}
use Rattle.traffic.specs.Energy.{StreamEnergy}
use Rattle.traffic.specs.EnergyExample.{ReadsExample}
use Rattle.traffic.specs.Occurs.{PhaseOccurs, CountOccurs, ClockedOccurs, BytesOccur, ReplyOccurs}
use Rattle.traffic.specs.Buffers.{Decodes, EventsDecode, CallsDecode, PowerDecodes, LengthStays, GivesSame, LeftAlone, WrongLength, BufferRuns, AlwaysReady}
use Rattle.traffic.specs.Transactions.{OverBuffer}

pub record StreamClaims : Type 0 where
  -- ---- a transaction (stream's Claims.antt; data sheet 17.5, 17.6)
  -- of a write the first eleven bytes decide,
  pub write_by_eleven : WriteByEleven
  -- and of a read those of its header, and whether eight or fewer bytes are clocked or more
  pub read_by_eleven : ReadByEleven
  -- a write, fed event by event, leaves and answers what the whole call does
  pub written : Written
  -- and a read leaves, answers and sends it
  pub read : Read
  -- so every list of events between START and STOP is a write, a read, or nothing orderly, which answers 2 and changes nothing
  pub every_end : EveryEnd
  -- the same of a lent buffer, in the words of what is exported (Transactions.antt)
  pub over-buffer : OverBuffer
  -- ---- ACK and NACK (bus' Ack.antt, stream's Claims.antt; data sheet 17.4)
  -- a code is absent where the table has no row for it
  pub absent_exactly : AbsentExactly
  -- NACK before a repeated START: to a wrong address, an absent code, everything after these, and everything past data and packet check
  pub nacked_first : NackedFirst
  -- and behind it: to another byte than C1h, and after a wrong address or an absent code
  pub nacked_second : NackedSecond
  -- after START and any bytes the next one gets ACK or NACK by these
  pub acked_first_lem : AckedFirst
  -- and after a repeated START
  pub acked_second_lem : AckedSecond
  -- all in one: after START, with calls between or not, NACK goes exactly to these and to bytes out of their places (Nacks.antt)
  pub nack_exactly : NackExactly
  -- ---- order (bus' Orders.antt and Places.antt, Breach.antt; data sheet 17.3, 17.8, 17.9)
  -- every list of events since START is a write, a read, the beginning of a read, or a breach of order
  pub every_order : EveryOrder
  -- and each of the orders leads to its phase
  pub orders_lead : OrdersLead
  -- a breach lasts until START or STOP
  pub breach_lasts : BreachLasts
  -- a byte out of its place gets NACK, a clocked byte FFh, and so does all that comes behind it until START or STOP
  pub no_arrow : NoArrow
  -- after a breach STOP answers 2 and changes nothing
  pub breach : Breach
  -- the same without START
  pub no_start : NoStart
  -- with other calls between the events, of which the own changes stay
  pub breach_between : BreachBetween
  -- START without STOP drops what was under way, and nothing has changed
  pub dropped : Dropped
  -- until STOP nothing but the other calls changes the device (Runs.antt)
  pub until_stop : UntilStop
  -- ---- other calls between the events of a transaction (Traffic.antt; data sheet 17.7)
  -- the answer is as without them, and a write does at STOP what it does to the state as it is then
  pub writes_between : WritesBetween
  -- a read sends what was made of the state at the second address byte
  pub reads_between : ReadsBetween
  -- ACK and NACK are as without them
  pub acks_between : AcksBetween
  -- ---- answer 15 (bus' Fields.antt, stream's Claims.antt, Fifteen.antt, Occurs.antt; data sheet 17.11)
  -- what is kept of a transaction is valid by three numbers
  pub valid_fields : ValidFields
  -- 15 goes exactly to a state that is not valid, by its fields
  pub fifteen-exactly : FifteenExactly
  -- and changes nothing of it
  pub fifteen : Fifteen
  -- what is kept stays valid,
  pub part_stays : PartStays
  -- so that no event and no call of a run from power-on gets 15
  pub no_fifteen : NoFifteen
  -- each number that is let through occurs in some run: phases,
  pub phase_occurs : PhaseOccurs
  -- counts of bytes kept,
  pub count_occurs : CountOccurs
  -- counts of bytes clocked,
  pub clocked-occurs : ClockedOccurs
  -- all bytes kept,
  pub bytes_occur : BytesOccur
  -- and each byte of a reply
  pub reply-occurs : ReplyOccurs
  -- ---- runs (Underway.antt, Whole.antt, Runs.antt; data sheet 17.13)
  -- what is under way, told by the turns, is what the two orders say
  pub by_orders : ByOrders
  -- every run of events and calls is a run of whole calls, with the same device and the same answers, and the turns tell which calls
  pub as_calls : AsCalls
  -- behind every run a transaction with nothing between leaves, answers and sends what the whole call does
  pub transactions_alike : TransactionsAlike
  -- every device of a run is one that whole calls reach
  pub reaches : Reaches
  -- a list of transactions with nothing between, and of other calls, is the list of the whole calls,
  pub as_run : AsRun
  -- with the same answers and the same bytes sent
  pub same_outcomes : SameOutcomes
  -- ---- energy (Energy.antt; data sheet 15.7)
  -- the host's totals are those of the samples that the device took, in every run, with calls between the events of a read as well
  pub stream-energy : StreamEnergy
  -- there are such runs: two reads, with a sample taken while each reply is on its way (EnergyExample.antt)
  pub reads_example : ReadsExample
  -- ---- the lent buffer (Buffers.antt; data sheet 17.11 to 17.13)
  -- the bytes of a state hold it
  pub decodes : Decodes
  -- an event leaves the bytes of what the rules leave,
  pub events-decode : EventsDecode
  -- so does a call,
  pub calls_decode : CallsDecode
  -- and power-on
  pub power_decodes : PowerDecodes
  -- none changes the buffer's length
  pub length-stays : LengthStays
  -- what is given is what the rules give
  pub gives_same : GivesSame
  -- a buffer that is not ready is left alone,
  pub left_alone : LeftAlone
  -- one of another length by power-on too
  pub wrong_length : WrongLength
  -- a run over a buffer is a run of the rules
  pub buffer_runs : BufferRuns
  -- and the buffer is ready all along
  pub always_ready : AlwaysReady
