-- The frames of a frame file: the bytes of a line, and the call that they name (data sheet 13.2).
-- Assumes nothing.
use Rattle.std.specs.Prelude.{ℕ, cond, ◌&&◌, List, [], length, get_or, drop, leb, eqb}
use Rattle.writes.specs.Asked.{word_of}
use Rattle.device.specs.declared.Device.{Device}
use Rattle.device.specs.Step.{Call, write, read, measure, sample, alert_response, tick, Result, step, done}

pub data Frame : Type 0 where
  bad : Frame
  call : Call → Frame

-- by the first byte and the number of bytes: 01 takes any number, 02 at least the count, the others exactly theirs; all else is bad (data
-- sheet 13.2, 13.4)
unfoldable pub framed : ℕ → List ℕ → Frame
framed first b =
    cond (eqb first 0x01) (call (write (drop 1 b)))
    (cond (eqb first 0x02 && leb 2 (length b)) (call (read (drop 2 b) (get_or b 1 0)))
    (cond (eqb first 0x03 && eqb (length b) 5) (call (measure (get_or b 1 0) (get_or b 2 0) (word_of (get_or b 3 0) (get_or b 4 0))))
    (cond (eqb first 0x04 && eqb (length b) 3) (call (sample (word_of (get_or b 1 0) (get_or b 2 0))))
    (cond (eqb first 0x05 && eqb (length b) 2) (call (alert_response (get_or b 1 0)))
    (cond (eqb first 0x07 && eqb (length b) 1) (call tick) bad)))))

-- no byte at all is no frame
unfoldable pub frame_of : List ℕ → Frame
frame_of b = framed (get_or b 0 0) b

-- a bad line prints ff and leaves the device (data sheet 13.4)
unfoldable pub outcome : Device → Frame → Result
outcome d bad = record { done = done d 0xFF; reply = [] }
outcome d (call c) = step d c
