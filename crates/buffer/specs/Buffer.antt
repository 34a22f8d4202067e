-- The streaming device over a lent buffer: what each call leaves of the bytes, and what it gives.
-- Assumes nothing.
use Rattle.std.specs.Prelude.{ℕ, suc, ◌+◌, Bool, cond, ◌&&◌, List, [], ◌∷◌, length, eqb}
use Rattle.page.specs.declared.Page.{Page}
use Rattle.reads.specs.Reply.{reply_of}
use Rattle.device.specs.declared.Device.{Device}
use Rattle.device.specs.declared.Done.{Done}
use Rattle.device.specs.Device.{choice, usual, power_on, power_on_by}
use Rattle.device.specs.Step.{Call, write, answered, clocked, done, step}
use Rattle.device.specs.Supply.{supplies_at}
use Rattle.device.specs.Touches.{touches}
use Rattle.bus.specs.declared.Part.{Part}
use Rattle.bus.specs.Part.{writing, heard, idle}
use Rattle.bus.specs.Automaton.{Event, start, byte, again, clock, stop, clock_byte}
use Rattle.bus.specs.Ack.{ack_of}
use Rattle.stream.specs.Stream.{state, part_next, ended}
use Rattle.layout.specs.Layout.{part_form, unpaged_form, page_form, size, pages_from, unpaged_at, choices_size, choices_in}
use Rattle.layout.specs.State.{encode, ready, part_of, device_of}

-- ---- what is left of the buffer

-- the pages that pass the test are stored, the first of all of them at o; the bytes of the others stay
abbrev pub store_pages : (ℕ → Bool) → List ℕ → ℕ → List Page → List ℕ
store_pages t s o [] = s
store_pages t s o (p ∷ l) = store_pages (λ i. t (suc i)) (cond (t 0) (page_form.store s o p) s) (o + page_form.width) l

-- a device over the one that s holds: those of its pages that pass the test, and its unpaged part
unfoldable pub store_device : (ℕ → Bool) → List ℕ → Device → List ℕ
store_device t s d = unpaged_form.store (store_pages t s pages_from d.pages) unpaged_at d.unpaged

-- an accepted call stores the pages that it touches
unfoldable pub stores : Device → Call → ℕ → Bool
stores d c i = eqb (answered d c) 0 && touches d c i

unfoldable pub call_fed : List ℕ → Call → List ℕ
call_fed s c = cond (ready s) (store_device (stores (device_of s) c) s (step (device_of s) c).done.device) s

-- and at STOP an accepted write those that it touches
unfoldable pub end_stores : Device → Part → ℕ → Bool
end_stores d p i = eqb p.phase writing && stores d (write (heard p)) i

-- STOP: nothing is kept of the transaction, and what it did to the device is stored
unfoldable pub stop_fed : List ℕ → List ℕ
stop_fed s = store_device (end_stores (device_of s) (part_of s)) (part_form.store s 0 idle) (ended (device_of s) (part_of s)).device

-- of every other event the first 22 bytes alone change
unfoldable pub part_fed : List ℕ → Event → List ℕ
part_fed s e = part_form.store s 0 (part_next (device_of s) (part_of s) e)

unfoldable pub taken_of : List ℕ → Event → List ℕ
taken_of s start = part_fed s start
taken_of s (byte b) = part_fed s (byte b)
taken_of s again = part_fed s again
taken_of s clock = part_fed s clock
taken_of s stop = stop_fed s

unfoldable pub event_fed : List ℕ → Event → List ℕ
event_fed s e = cond (ready s) (taken_of s e) s

-- power-on sets every byte of a buffer of the right length
unfoldable pub power_fed : List ℕ → List ℕ
power_fed s = cond (eqb (length s) size) (encode (state idle (power_on (usual 8)))) s

-- Power-on by choices that come as bytes, with its answer: choices of another length than eight have, or of which one is not granted, get 27,
-- and the device is then the usual one.
unfoldable pub powered_by : List ℕ → Done
powered_by cs = cond (eqb (length cs) choices_size) (power_on_by (choice (choices_in cs))) (done (power_on (usual 8)) 27)

unfoldable pub power_by_fed : List ℕ → List ℕ → List ℕ
power_by_fed s cs = cond (eqb (length s) size) (encode (state idle (powered_by cs).device)) s

-- ---- what is given

-- START and repeated START: 0; a byte: 1 for ACK, 0 for NACK; a clocked byte: what is sent; STOP: the answer. And what is given of a buffer
-- that is not ready
unfoldable pub gives : List ℕ → Event → ℕ
gives s start = 0
gives s (byte b) = cond (ack_of (part_of s) b) 1 0
gives s again = 0
gives s clock = clock_byte (part_of s)
gives s stop = (ended (device_of s) (part_of s)).answer

unfoldable pub refuses : Event → ℕ
refuses start = 15
refuses (byte b) = 0
refuses again = 15
refuses clock = 255
refuses stop = 15

unfoldable pub event_gives : List ℕ → Event → ℕ
event_gives s e = cond (ready s) (gives s e) (refuses e)

-- another call: its answer, and what stands in its reply buffer
unfoldable pub call_gives : List ℕ → Call → ℕ
call_gives s c = cond (ready s) (step (device_of s) c).done.answer 15

unfoldable pub call_sends : List ℕ → Call → List ℕ
call_sends s c = cond (ready s) (step (device_of s) c).reply (reply_of [] (clocked c))

unfoldable pub power_gives : List ℕ → ℕ
power_gives s = cond (eqb (length s) size) 0 15

unfoldable pub power_by_gives : List ℕ → List ℕ → ℕ
power_by_gives s cs = cond (eqb (length s) size) (powered_by cs).answer 15

-- ---- what the firmware asks between two calls: whether a supply is on, and the alert up; of another length neither is

unfoldable pub buffer_supplies : List ℕ → ℕ → ℕ
buffer_supplies s i = cond (eqb (length s) size && supplies_at (device_of s).pages i) 1 0

unfoldable pub buffer_alert : List ℕ → ℕ
buffer_alert s = cond (eqb (length s) size && (device_of s).unpaged.alert) 1 0
