-- The retry machines over runs (data sheet 7.8 to 7.11): what puts one to rest, and how often one lets its page on while its cause lasts.
-- Assumes nothing.
use Rattle.std.specs.Prelude.{ℕ, suc, ◌<◌, ◌≤◌, ◌≡◌, ◌↔◌, Bool, true, false, cond, not, ◌&&◌, ◌||◌, List, [], ◌∷◌, eqb, length, get_or}
use Rattle.retry.specs.Response.{waits_first, holds_at_once, retries}
use Rattle.retry.specs.Machine.{Machine, rest, at_call, at_tick, at_rest, trips, lets_on}
use Rattle.retry.specs.Byte.{machine_of}
use Rattle.retry.specs.Claim.{look_tick, on_tick, allows}
use Rattle.cause.specs.Causes.{response_of}
use Rattle.page.specs.Causes.{present}
use Rattle.unpaged.specs.Unpaged.{acts_on}
use Rattle.device.specs.declared.Device.{Device}
use Rattle.device.specs.Device.{Choice, number_of, granted, page_of}
use Rattle.device.specs.Step.{Call, write, read, measure, sample, alert_response, tick}
use Rattle.history.specs.Run.{next, run, reached}
use Rattle.history.specs.Clearing.{accepted_write}
use Rattle.history.specs.Tripping.{untripping}

-- the writes that put machine k to rest, by code and data: OPERATION 00h or 40h, and its response, whatever the byte
unfoldable pub resting : ℕ → ℕ → ℕ → Bool
resting k code x = untripping code x || eqb code (response_of k).response_code

-- c puts machine k of page i to rest
unfoldable pub rests : Device → Call → ℕ → ℕ → Bool
rests d c i k = accepted_write d c (resting k) && acts_on d.unpaged i

-- machine k of page i, its response byte, and whether its cause is present
abbrev pub byte_at : ℕ → ℕ → Device → ℕ
byte_at i k d = get_or (page_of d i).machines k 0

abbrev pub machine_at : ℕ → ℕ → Device → Machine
machine_at i k d = machine_of (byte_at i k d)

abbrev pub response_at : ℕ → ℕ → Device → ℕ
response_at i k d = get_or (page_of d i).responses k 0

abbrev pub present_at : ℕ → ℕ → Device → Bool
present_at i k d = present (page_of d i) k

abbrev pub is_tick : Call → Bool
is_tick (write s) = false
is_tick (read header n) = false
is_tick (measure page quantity word) = false
is_tick (sample n) = false
is_tick (alert_response n) = false
is_tick tick = true

-- a tick sets no bit and leaves the alert, on any device (data sheet 7.9)
unfoldable pub TickQuiet : Type 0
TickQuiet =
    (d : Device) → ((next d tick).unpaged ≡ d.unpaged) × ((i : ℕ) → i < length d.pages → (page_of (next d tick) i).status ≡ (page_of d i).status)

-- One equation for each call of a run (data sheet 7.8 to 7.11): a tick is a tick of each machine, and any other call is the end of a call for
-- it, which finds it at rest where the call puts it to rest; with its response byte and its cause as they are after the call. A refused call
-- changes neither of these, and so leaves the machine.
unfoldable pub MachineMoves : Type 0
MachineMoves =
    (x : Choice) (cs : List Call) (c : Call) (i k : ℕ) → granted x ≡ true → i < number_of x → k < 6
    → let d = reached x cs in let e = next d c in
    machine_at i k e
    ≡ cond (is_tick c) (at_tick (response_at i k e) (present_at i k e) (machine_at i k d))
    (at_call (response_at i k e) (present_at i k e) (cond (rests d c i k) rest (machine_at i k d)))

-- a machine that has tripped its page stays so until it is put to rest: no clearing, no tick and no going of the cause does that (data sheet 7.11)
unfoldable pub StaysDown : Type 0
StaysDown =
    (x : Choice) (cs : List Call) (c : Call) (i k : ℕ) → granted x ≡ true → i < number_of x → k < 6 → trips (machine_at i k (reached x cs)) ≡ true
    → rests (reached x cs) c i k ≡ false → trips (machine_at i k (next (reached x cs) c)) ≡ true

-- c starts the machine: at rest or put to rest by c, it finds the cause present after c and the action 10 or 01
unfoldable pub starts_at : ℕ → ℕ → Device → Call → Bool
starts_at i k d c =
    present_at i k (next d c) && (rests d c i k || at_rest (machine_at i k d))
    && (holds_at_once (response_at i k (next d c)) || waits_first (response_at i k (next d c)))

-- the cause lasts through the calls cs from d on: after each it is present, and none puts the machine to rest
unfoldable pub lasts_through : ℕ → ℕ → Device → List Call → Bool
lasts_through i k d [] = true
lasts_through i k d (c ∷ cs) = (present_at i k (next d c) && not (rests d c i k)) && lasts_through i k (next d c) cs

-- the times that the machine lets its page on in them,
unfoldable pub times_let_on : ℕ → ℕ → Device → List Call → ℕ
times_let_on i k d [] = 0
times_let_on i k d (c ∷ cs) =
    cond (lets_on (machine_at i k d) (machine_at i k (next d c))) (suc (times_let_on i k (next d c) cs)) (times_let_on i k (next d c) cs)

-- and the ticks among them
unfoldable pub ticks : List Call → ℕ
ticks [] = 0
ticks (c ∷ cs) = cond (is_tick c) (suc (ticks cs)) (ticks cs)

-- A machine with 1 to 6 retries that c starts in a run lets its page on at most as many times while its cause lasts, and exactly as many once 56
-- ticks have passed, whatever else the calls do.
unfoldable pub LetsOnAgain : Type 0
LetsOnAgain =
    (x : Choice) (cs : List Call) (c : Call) (ds : List Call) (i k : ℕ) → granted x ≡ true → i < number_of x → k < 6
    → let d = reached x cs in let e = next d c in
    1 ≤ retries (response_at i k e) → retries (response_at i k e) ≤ 6 → starts_at i k d c ≡ true → lasts_through i k e ds ≡ true
    → (times_let_on i k e ds ≤ retries (response_at i k e)) × (56 ≤ ticks ds → times_let_on i k e ds ≡ retries (response_at i k e))

-- With any retries: the page has been let on j times or more exactly when the response byte allows as many and the tick of the j-th, counted from
-- the start, has come.
unfoldable pub LetsOnByTicks : Type 0
LetsOnByTicks =
    (x : Choice) (cs : List Call) (c : Call) (ds : List Call) (i k : ℕ) → granted x ≡ true → i < number_of x → k < 6
    → let d = reached x cs in let e = next d c in
    starts_at i k d c ≡ true → lasts_through i k e ds ≡ true → (j : ℕ) → 1 ≤ j
    → (j ≤ times_let_on i k e ds) ↔ ((allows (response_at i k e) j ≡ true) × (on_tick (response_at i k e) j ≤ ticks ds))

-- The machine has tripped its page exactly when its retries are 6 or fewer and the tick of the look after the last try has come; and then the
-- page is tripped.
unfoldable pub TripsByTicks : Type 0
TripsByTicks =
    (x : Choice) (cs : List Call) (c : Call) (ds : List Call) (i k : ℕ) → granted x ≡ true → i < number_of x → k < 6
    → let d = reached x cs in let e = next d c in let f = run e ds in
    starts_at i k d c ≡ true → lasts_through i k e ds ≡ true
    → ((trips (machine_at i k f) ≡ true)
    ↔ ((retries (response_at i k e) ≤ 6) × (look_tick (response_at i k e) (retries (response_at i k e)) ≤ ticks ds)))
    × (trips (machine_at i k f) ≡ true → (page_of f i).tripped ≡ true)

-- the machine is under way through the calls cs from d on: none puts it to rest, and after none is it at rest
unfoldable pub under_way : ℕ → ℕ → Device → List Call → Bool
under_way i k d [] = true
under_way i k d (c ∷ cs) = (not (rests d c i k) && not (at_rest (machine_at i k (next d c)))) && under_way i k (next d c) cs

-- Whatever the cause does, from one rest to the next: from any state of a run on, a machine with 6 retries or fewer lets its page on at most
-- as many times through all calls on which it stays under way. A cause that goes and comes back between looks begins no new count.
unfoldable pub AtMost : Type 0
AtMost =
    (x : Choice) (cs ds : List Call) (i k : ℕ) → granted x ≡ true → i < number_of x → k < 6
    → let d = reached x cs in
    retries (response_at i k d) ≤ 6 → under_way i k d ds ≡ true → times_let_on i k d ds ≤ retries (response_at i k d)
