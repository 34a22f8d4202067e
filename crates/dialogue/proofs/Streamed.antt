-- The bytes of a transaction that was built, fed one by one.
-- Assumes nothing.
use Prim.Native.Nat.{ℕ, ◌+◌, ◌<◌, ◌≤◌}
use mathlib.Core.Path.{◌≡◌, refl, sym, ap, ◌∙◌}
use mathlib.Core.Bool.{Bool, true, false, cond, not, ◌||◌, and-eq-true_iff, or-true}
use mathlib.Core.List.{List, [], ◌∷◌, ◌++◌, map}
use native.Mathlib.Omega.{arith}
use lib.ListN.{length, get_or, length-append}
use borrow.Author.Tests.{lt-ltb, eq-eqb, ne_eqb}
use Rattle.laws.specs.Lists.{Bytes}
use Rattle.laws.proofs.Every.{agree-test}
use Rattle.command.specs.Table.{table, entry_of, lookup}
use Rattle.bus.specs.Part.{part_valid}
use Rattle.bus.specs.Automaton.{start, byte}
use Rattle.bus.specs.Ack.{known, room_behind, acked_first, orderly, acked_second}
use Rattle.device.specs.Device.{device_valid}
use Rattle.device.specs.Step.{write, sent, step}
use Rattle.stream.specs.Stream.{State, state_valid, sent_in, events, on, after}
use Rattle.stream.specs.Claims.{Written, Read, AckedFirst, AckedSecond}
use Rattle.stream.proofs.Claims.{written, read_claim, acked_first_lem, acked_second_lem}
use Rattle.host.specs.Build.{write_frame, read_count}
use Rattle.host.proofs.Frames.{write_right, read_right}
use Rattle.host.proofs.Applies.{frame_size}
use Rattle.host.proofs.Stored.{frame_address, frame_code}
use Rattle.dialogue.specs.Transactions.{writing, reading, Buildable, call_of}
use Rattle.dialogue.specs.Understood.{WritesUnderstood, ReadsUnderstood, RepliesHeard}
use Rattle.dialogue.specs.Streamed.{events_of, AsCall, StreamUnderstood, StreamHeard, WriteAcked, ReadAcked}
use Rattle.dialogue.proofs.Understood.{writes_understood, reads_understood}
use Rattle.dialogue.proofs.Heard.{replies_heard}

-- ---- the whole call

-- nothing is sent while the host writes
silent : (bs : List ℕ) (s : State) → sent_in s (events (map byte bs)) ≡ []
unfolding sent_in
silent [] s = refl
silent (b ∷ bs) s = silent bs (after s (on (byte b)))

write_silent : (s : State) (bs : List ℕ) → sent_in s (events (start ∷ map byte bs)) ≡ []
unfolding sent_in
write_silent s bs = silent bs (after s (on start))

no_reply : (s : State) (bs : List ℕ) → (step s.device (write bs)).reply ≡ []
unfolding step sent
no_reply s bs = refl

pub as_call : AsCall
unfolding AsCall events_of call_of Written Read
as_call s (writing code bytes check) v =
    let frame = write_frame code bytes check in
    (written s frame v, write_silent s frame ∙ sym (no_reply s frame))
as_call s (reading code check) v = read_claim s (0xC0 ∷ code ∷ []) 0xC1 (read_count code check) v

both : (s : State) → state_valid s ≡ true → (part_valid s.part ≡ true) × (device_valid s.device ≡ true)
unfolding state_valid
both s v = (and-eq-true_iff (part_valid s.part) (device_valid s.device)).0 v

pub stream-understood : StreamUnderstood
unfolding StreamUnderstood WritesUnderstood AsCall
stream-understood s code bytes check v b =
    let p = both s v in
    (as_call s (writing code bytes check) p.0).0 ∙ (writes_understood s.device code bytes check p.1 b).done

pub stream-heard : StreamHeard
unfolding StreamHeard ReadsUnderstood RepliesHeard AsCall
stream-heard s code check v b n =
    let p = both s v in
    let c = as_call s (reading code check) p.0 in (
      c.0 ∙ rw n at (reads_understood s.device code check p.1 b).done,
      rw c.1 (replies_heard s.device code check p.1 b n),
    )

-- ---- every byte is ACKed

-- a code that is written or read is one of the table's, by computation over all codes
abbrev listed : ℕ → Bool
listed c = not ((lookup c).written || (lookup c).read) || known c

module _ (c : ℕ) (byte : c < 256) where
  every_listed : (not ((lookup c).written || (lookup c).read) || known c) ≡ true
  unfolding lookup table entry_of known
  every_listed = agree-test listed (λ c. true) 256 tt c byte

  known_written : (lookup c).written ≡ true → known c ≡ true
  known_written w = rw w at every_listed

  known_read : (lookup c).read ≡ true → known c ≡ true
  known_read r = rw (r, or-true (lookup c).written) at every_listed

one_or_none : (check : Bool) → cond check 1 0 ≤ 1
one_or_none true = omega arith
one_or_none false = omega arith

module _ (code : ℕ) (bytes : List ℕ) (check : Bool) (k : known code ≡ true) (e : length bytes ≡ (lookup code).length) where
  -- a frame has room for each of its bytes
  frame_room : (bs : List ℕ) (b : ℕ) (more : List ℕ) → write_frame code bytes check ≡ bs ++ (b ∷ more)
      → length bs < (lookup code).length + 3
  frame_room bs b more same =
      let l = frame_size code bytes check in
      let m = ap length same ∙ length-append bs (b ∷ more) in
      let c = one_or_none check in
      omega arith

  each-acked : (bs : List ℕ) (b : ℕ) (more : List ℕ) → write_frame code bytes check ≡ bs ++ (b ∷ more) → acked_first bs b ≡ true
  unfolding acked_first room_behind
  each-acked [] b more same = eq-eqb b 0xC0 (sym (ap (λ (l : List ℕ). get_or l 0 0) same) ∙ frame_address code bytes check)
  each-acked (x ∷ []) b more same =
      let address = sym (ap (λ (l : List ℕ). get_or l 0 0) same) ∙ frame_address code bytes check in
      let code-byte = sym (ap (λ (l : List ℕ). get_or l 1 0) same) ∙ frame_code code bytes check in
      rw (eq-eqb x 0xC0 address, code-byte) k
  each-acked (x ∷ y ∷ r) b more same =
      let n = frame_room (x ∷ y ∷ r) b more same in
      let address = sym (ap (λ (l : List ℕ). get_or l 0 0) same) ∙ frame_address code bytes check in
      let code-byte = sym (ap (λ (l : List ℕ). get_or l 1 0) same) ∙ frame_code code bytes check in
      rw (
        ne_eqb (length (x ∷ y ∷ r)) 0 (λ z. omega arith),
        ne_eqb (length (x ∷ y ∷ r)) 1 (λ z. omega arith),
        eq-eqb x 0xC0 address,
        code-byte,
        k,
        lt-ltb (length (x ∷ y ∷ r)) ((lookup code).length + 3) n,
      )

first : acked_first [] 0xC0 ≡ true
unfolding acked_first
first = refl

then : (code : ℕ) → known code ≡ true → acked_first (0xC0 ∷ []) code ≡ true
unfolding acked_first
then code k = k

second : (code : ℕ) → known code ≡ true → acked_second (0xC0 ∷ code ∷ []) 0xC1 ≡ true
unfolding acked_second orderly
second code k = rw k

pub write_acked : WriteAcked
unfolding WriteAcked Buildable Bytes AckedFirst
write_acked s code bytes check v b bs x more same =
    let f = write_right code (length bytes) b.1 in
    acked_first_lem s bs x v ∙ each-acked code bytes check (known_written code b.0.0 f.0) f.1 bs x more same

pub read_acked : ReadAcked
unfolding ReadAcked Buildable Bytes AckedFirst AckedSecond
read_acked s code check v b =
    let k = known_read code b.0.0 (read_right code b.1) in
    record {
      address = acked_first_lem s [] 0xC0 v ∙ first;
      code-byte = acked_first_lem s (0xC0 ∷ []) code v ∙ then code k;
      second_address = acked_second_lem s (0xC0 ∷ code ∷ []) 0xC1 v ∙ second code k;
    }
