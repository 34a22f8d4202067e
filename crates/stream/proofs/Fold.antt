-- Event by event is the whole transaction, with other calls between as well.
-- Assumes nothing.
use Prim.Native.Nat.{ℕ, suc, ◌+◌, ◌≤◌, min}
use mathlib.Core.Path.{◌≡◌, refl, sym, ap, ap₂, ◌∙◌}
use mathlib.Core.Bool.{true, false}
use mathlib.Core.List.{List, [], ◌∷◌, ◌++◌, append-nil, cons-ne-nil}
use native.Mathlib.Omega.{arith}
use lib.ListN.{length, get_or, take}
use lib.Seq.{append_snoc}
use borrow.Author.Tests.{eq-eqb}
use Rattle.laws.proofs.Branches.{either, other_eqb}
use Rattle.bus.specs.declared.Part.{Part}
use Rattle.bus.specs.Part.{part_valid, heard, started}
use Rattle.bus.specs.Automaton.{Event, start, byte, again, clock, stop, after_byte, after_again, after_clock, byted, restarted, clocked, part_after, clock_byte}
use Rattle.bus.specs.Ack.{acked_first, acked_second, ack_in}
use Rattle.unpaged.specs.Unpaged.{cml_bits}
use Rattle.reads.specs.Answers.{answers_data}
use Rattle.reads.specs.Data.{read_stream}
use Rattle.reads.specs.Reply.{reply_of}
use Rattle.reads.proofs.Lengths.{stream-length}
use Rattle.device.specs.declared.Device.{Device}
use Rattle.device.specs.Device.{device_valid}
use Rattle.device.specs.Step.{Call, write, read, answered, left, sent, done, step}
use Rattle.device.proofs.Refused.{device-stays}
use Rattle.stream.specs.Stream.{State, state_valid, byte_taken, part_next, ended, byte_ack, byte_sent, stopped, called, Turn, on, call, device_next, after, feed, sent_in}
use Rattle.stream.specs.Between.{Mixed, put, aside, putting, clocking, puts, later}
use Rattle.stream.specs.Claims.{WriteByEleven, ReadByEleven, PartStays}
use Rattle.stream.proofs.Prefix.{write_by_eleven, read_by_eleven, read_sent, sent-cut, sent-any, first_cut, second_cut}
use Rattle.stream.proofs.Sent.{reply-suc, reply-at}
use Rattle.stream.proofs.Parts.{byted-valid, restarted-valid, clocked-valid, taken-valid, Holds, none-held, held, byted-clocked, one_clocked, part_stays}

-- ---- what an event finds in a valid state

-- between START and the second address byte, in phase n, after the bytes h
pub record Hears (n : ℕ) (s : State) (h : List ℕ) : Type 0 where
  pub phase_is : s.part.phase ≡ n
  pub holds : Holds s.part h
  pub fresh : s.part.clocked ≡ 0
  pub kept : part_valid s.part ≡ true
  pub valid : device_valid s.device ≡ true

-- a call between leaves a valid device valid, and another not valid
unfoldable pub Stays : Call → Type 0
Stays c = (d : Device) → device_valid (step d c).done.device ≡ device_valid d

pub whole : (s : State) → part_valid s.part ≡ true → device_valid s.device ≡ true → state_valid s ≡ true
unfolding state_valid
whole s k v = rw (k, v)

pub hear_start : (s : State) → part_valid s.part ≡ true → device_valid s.device ≡ true → Hears 1 (after s (on start)) []
unfolding after part_next part_after device_next started part_valid
hear_start s k v = rw (whole s k v) (record { phase_is = refl; holds = none-held; fresh = refl; kept = refl; valid = v })

-- the arrows that an orderly transaction takes
byted-writing : (p : Part) (b : ℕ) → p.phase ≡ 1 → (byted p b).phase ≡ 1
unfolding byted after_byte
byted-writing p b e = rw (eq-eqb _ _ e)

byted-turning : (p : Part) (b : ℕ) → p.phase ≡ 2 → (byted p b).phase ≡ 3
unfolding byted after_byte
byted-turning p b e = rw (other_eqb _ 1 2 e refl, eq-eqb _ _ e)

module _ (s : State) (h : List ℕ) where
  pub hear_byte : (b : ℕ) → Hears 1 s h → Hears 1 (after s (on (byte b))) (h ++ b ∷ [])
  unfolding after part_next byte_taken device_next
  hear_byte b k =
      let v = byted-valid s.part b k.kept in
      let t = held s.part h b k.holds in
      rw (whole s k.kept k.valid, other_eqb _ 2 1 k.phase_is refl)
      (record {
        phase_is = byted-writing s.part b k.phase_is;
        holds = t;
        fresh = byted-clocked s.part b ∙ k.fresh;
        kept = v;
        valid = k.valid;
      })

  pub hear_again : Hears 1 s h → Hears 2 (after s (on again)) h
  unfolding after part_next part_after device_next restarted after_again
  hear_again k =
      let v = restarted-valid s.part k.kept in
      rw (whole s k.kept k.valid)
      (record {
        phase_is = rw (eq-eqb _ _ k.phase_is);
        holds = record { size = k.holds.size; room = k.holds.room; same = k.holds.same };
        fresh = k.fresh;
        kept = v;
        valid = k.valid;
      })

  pub hear_call : (n : ℕ) (c : Call) → Stays c → Hears n s h → Hears n (after s (call c)) h
  unfolding after called Stays
  hear_call n c still k =
      rw k.kept
      (record {
        phase_is = k.phase_is;
        holds = k.holds;
        fresh = k.fresh;
        kept = k.kept;
        valid = still s.device ∙ k.valid;
      })

  pub heard-write : Hears 1 s h → stopped s ≡ (step s.device (write h)).done
  unfolding stopped ended WriteByEleven
  heard-write k =
      rw (whole s k.kept k.valid, eq-eqb _ _ k.phase_is, k.holds.same) (write_by_eleven s.device h)

  pub heard-turn : Hears 2 s h → stopped s ≡ done s.device 2
  unfolding stopped ended
  heard-turn k = rw (whole s k.kept k.valid, other_eqb _ 1 2 k.phase_is refl, other_eqb _ 3 2 k.phase_is refl)

  pub heard-first : (b : ℕ) → Hears 1 s h → byte_ack s b ≡ acked_first h b
  unfolding byte_ack ack_in
  heard-first b k = rw (whole s k.kept k.valid, eq-eqb _ _ k.phase_is, k.holds.same) (first_cut h b)

  pub heard-second : (b : ℕ) → Hears 2 s h → byte_ack s b ≡ acked_second h b
  unfolding byte_ack ack_in
  heard-second b k =
      rw (whole s k.kept k.valid, other_eqb _ 1 2 k.phase_is refl, eq-eqb _ _ k.phase_is, k.holds.same)
      (second_cut h b)

-- after the second address byte: x is what is to be sent, k bytes were clocked
pub record Talks (s : State) (h x : List ℕ) (k : ℕ) : Type 0 where
  pub phase_is : s.part.phase ≡ 3
  pub same : heard s.part ≡ take 11 h
  pub reply-is : s.part.reply ≡ reply_of x 8
  pub so_far : s.part.clocked ≡ min k 9
  pub kept : part_valid s.part ≡ true
  pub valid : device_valid s.device ≡ true

pub talk_start : (s : State) (h : List ℕ) (b : ℕ) → Hears 2 s h
    → Talks (after s (on (byte b))) (h ++ b ∷ []) (read_sent s.device (h ++ b ∷ []) 8) 0
unfolding after part_next byte_taken device_next step
talk_start s h b k =
    let same = (held s.part h b k.holds).same in
    let v = taken-valid s.device s.part b k.kept in
    rw (whole s k.kept k.valid, eq-eqb _ _ k.phase_is)
    (record {
      phase_is = byted-turning s.part b k.phase_is;
      same = same;
      reply-is = ap (λ (x : List ℕ). reply_of x 8)
          (ap (λ (x : List ℕ). read_sent s.device x 8) same ∙ sent-cut s.device (h ++ b ∷ []) 8);
      so_far = byted-clocked s.part b ∙ k.fresh;
      kept = rw (eq-eqb _ _ k.phase_is) at v;
      valid = k.valid;
    })

module _ (s : State) (h x : List ℕ) (k : ℕ) (w : Talks s h x k) where
  clock_phase : (clocked s.part).phase ≡ 3
  unfolding clocked after_clock
  clock_phase = rw (eq-eqb _ _ w.phase_is)

  pub talk_clock : Talks (after s (on clock)) h x (suc k)
  unfolding after part_next part_after device_next
  talk_clock =
      let n = w.so_far in
      let c = one_clocked s.part (omega arith) in
      let m = c.next in
      rw (whole s w.kept w.valid)
      (record {
        phase_is = clock_phase;
        same = c.heard-is ∙ w.same;
        reply-is = c.reply-is ∙ w.reply-is;
        so_far = omega arith;
        kept = clocked-valid s.part w.kept;
        valid = w.valid;
      })

  pub talk_call : (c : Call) → Stays c → Talks (after s (call c)) h x k
  unfolding after called Stays
  talk_call c still =
      rw w.kept
      (record {
        phase_is = w.phase_is;
        same = w.same;
        reply-is = w.reply-is;
        so_far = w.so_far;
        kept = w.kept;
        valid = still s.device ∙ w.valid;
      })

  pub talk_byte : length x ≤ 8 → byte_sent s ≡ get_or x k 255
  unfolding byte_sent clock_byte
  talk_byte few = rw (whole s w.kept w.valid, eq-eqb _ _ w.phase_is, w.reply-is, w.so_far) (reply-at x k few)

  pub talked : stopped s ≡ (step s.device (read h k)).done
  unfolding stopped ended ReadByEleven
  talked =
      rw (whole s w.kept w.valid, other_eqb _ 1 3 w.phase_is refl, eq-eqb _ _ w.phase_is, w.same, w.so_far)
      (read_by_eleven s.device h k)

-- ---- and where the device is not valid

pub record Silent (s : State) : Type 0 where
  pub kept : part_valid s.part ≡ true
  pub invalid : device_valid s.device ≡ false

pub not_whole : (s : State) → device_valid s.device ≡ false → state_valid s ≡ false
unfolding state_valid
not_whole s v = either (part_valid s.part) (λ y. rw (y, v)) (λ n. rw n)

pub fifteen-left : (d : Device) (c : Call) → device_valid d ≡ false → (step d c).done ≡ done d 15
unfolding step left answered cml_bits
fifteen-left d c v = rw (v, device-stays d 15 refl)

module _ (s : State) (w : Silent s) where
  pub deaf_event : (e : Event) → device_next s e ≡ s.device → Silent (after s (on e))
  unfolding after
  deaf_event e q = rw (not_whole s w.invalid, q) (record { kept = w.kept; invalid = w.invalid })

  pub deaf_call : (c : Call) → Stays c → Silent (after s (call c))
  unfolding after called Stays
  deaf_call c still = rw w.kept (record { kept = w.kept; invalid = still s.device ∙ w.invalid })

  pub deaf_stop : (c : Call) → stopped s ≡ (step s.device c).done
  unfolding stopped
  deaf_stop c = rw (not_whole s w.invalid) (sym (fifteen-left s.device c w.invalid))

  deaf_byte : byte_sent s ≡ 255
  unfolding byte_sent
  deaf_byte = rw (not_whole s w.invalid)

deaf_sent : (d : Device) (h : List ℕ) (n : ℕ) → device_valid d ≡ false → read_sent d h n ≡ []
unfolding sent answered read_stream answers_data
deaf_sent d h n v = rw v

-- ---- lists of turns

pub feed-append : (s : State) (a b : List Turn) → feed s (a ++ b) ≡ feed (feed s a) b
unfolding feed
feed-append s [] b = refl
feed-append s (t ∷ a) b = feed-append (after s t) a b

pub sent-append : (a b : List Turn) (s : State) → sent_in s (a ++ b) ≡ sent_in s a ++ sent_in (feed s a) b
unfolding sent_in feed
sent-append [] b s = refl
sent-append (on start ∷ a) b s = sent-append a b (after s (on start))
sent-append (on (byte x) ∷ a) b s = sent-append a b (after s (on (byte x)))
sent-append (on again ∷ a) b s = sent-append a b (after s (on again))
sent-append (on clock ∷ a) b s = ap (λ (l : List ℕ). byte_sent s ∷ l) (sent-append a b (after s (on clock)))
sent-append (on stop ∷ a) b s = sent-append a b (after s (on stop))
sent-append (call c ∷ a) b s = sent-append a b (after s (call c))

abbrev pub Steady : List Mixed → Type 0
Steady [] = Unit
Steady (put b ∷ l) = Steady l
Steady (aside c ∷ l) = Stays c × Steady l

hear_all : (l : List Mixed) (s : State) (h : List ℕ) → Steady l → Hears 1 s h → Hears 1 (feed s (putting l)) (h ++ puts l)
unfolding feed
hear_all [] s h q k = rw (append-nil h) k
hear_all (put b ∷ l) s h q k =
    rw (append_snoc h b (puts l)) at (hear_all l (after s (on (byte b))) (h ++ b ∷ []) q (hear_byte s h b k))
hear_all (aside c ∷ l) s h q k = hear_all l (after s (call c)) h q.1 (hear_call s h 1 c q.0 k)

hear_on : (l : List Mixed) (n : ℕ) (s : State) (h : List ℕ) → Steady l → puts l ≡ [] → Hears n s h → Hears n (feed s (putting l)) h
unfolding feed
hear_on [] n s h q e k = k
hear_on (put b ∷ l) n s h q e k = absurd (cons-ne-nil b (puts l) e)
hear_on (aside c ∷ l) n s h q e k = hear_on l n (after s (call c)) h q.1 e (hear_call s h n c q.0 k)

-- nothing is sent for bytes that the host writes
puts-sent : (l : List Mixed) (s : State) → sent_in s (putting l) ≡ []
unfolding sent_in
puts-sent [] s = refl
puts-sent (put b ∷ l) s = puts-sent l (after s (on (byte b)))
puts-sent (aside c ∷ l) s = puts-sent l (after s (call c))

talk_all : (l : List Mixed) (s : State) (h x : List ℕ) (k : ℕ) → Steady l → Talks s h x k
    → Talks (feed s (clocking l)) h x (length (puts l) + k)
unfolding feed
talk_all [] s h x k q w = let e : 0 + k ≡ k = omega arith in rw e w
talk_all (put b ∷ l) s h x k q w =
    let e : length (puts l) + suc k ≡ suc (length (puts l)) + k = omega arith in
    rw e at (talk_all l (after s (on clock)) h x (suc k) q (talk_clock s h x k w))
talk_all (aside c ∷ l) s h x k q w = talk_all l (after s (call c)) h x k q.1 (talk_call s h x k w c q.0)

-- the bytes sent so far, and those of the list
talk_sent : (l : List Mixed) (s : State) (h x : List ℕ) (k : ℕ) → length x ≤ 8 → Steady l → Talks s h x k
    → reply_of x k ++ sent_in s (clocking l) ≡ reply_of x (length (puts l) + k)
unfolding sent_in
talk_sent [] s h x k few q w = let e : 0 + k ≡ k = omega arith in rw e (append-nil (reply_of x k))
talk_sent (put b ∷ l) s h x k few q w =
    let e : length (puts l) + suc k ≡ suc (length (puts l)) + k = omega arith in
    let t = after s (on clock) in
    sym (append_snoc (reply_of x k) (byte_sent s) (sent_in t (clocking l)))
    ∙ ap (λ (y : List ℕ). y ++ sent_in t (clocking l))
    (ap (λ (y : ℕ). reply_of x k ++ (y ∷ [])) (talk_byte s h x k w few) ∙ sym (reply-suc x k))
    ∙ talk_sent l t h x (suc k) few q (talk_clock s h x k w)
    ∙ ap (reply_of x) e
talk_sent (aside c ∷ l) s h x k few q w = talk_sent l (after s (call c)) h x k few q.1 (talk_call s h x k w c q.0)

deaf_all : (l : List Mixed) (s : State) → Steady l → Silent s → Silent (feed s (putting l))
unfolding feed device_next
deaf_all [] s q w = w
deaf_all (put b ∷ l) s q w = deaf_all l (after s (on (byte b))) q (deaf_event s w (byte b) refl)
deaf_all (aside c ∷ l) s q w = deaf_all l (after s (call c)) q.1 (deaf_call s w c q.0)

deaf_clocks : (l : List Mixed) (s : State) → Steady l → Silent s → Silent (feed s (clocking l))
unfolding feed device_next
deaf_clocks [] s q w = w
deaf_clocks (put b ∷ l) s q w = deaf_clocks l (after s (on clock)) q (deaf_event s w clock refl)
deaf_clocks (aside c ∷ l) s q w = deaf_clocks l (after s (call c)) q.1 (deaf_call s w c q.0)

deaf_said : (l : List Mixed) (s : State) (k : ℕ) → Steady l → Silent s
    → reply_of [] k ++ sent_in s (clocking l) ≡ reply_of [] (length (puts l) + k)
unfolding sent_in device_next
deaf_said [] s k q w = let e : 0 + k ≡ k = omega arith in rw e (append-nil (reply_of [] k))
deaf_said (put b ∷ l) s k q w =
    let e : length (puts l) + suc k ≡ suc (length (puts l)) + k = omega arith in
    let t = after s (on clock) in
    sym (append_snoc (reply_of [] k) (byte_sent s) (sent_in t (clocking l)))
    ∙ ap (λ (y : List ℕ). y ++ sent_in t (clocking l))
    (ap (λ (y : ℕ). reply_of [] k ++ (y ∷ [])) (deaf_byte s w) ∙ sym (reply-suc [] k))
    ∙ deaf_said l t (suc k) q (deaf_event s w clock refl)
    ∙ ap (reply_of []) e
deaf_said (aside c ∷ l) s k q w = deaf_said l (after s (call c)) k q.1 (deaf_call s w c q.0)

-- the device moves by the other calls alone
call_device : (s : State) (c : Call) → part_valid s.part ≡ true → (after s (call c)).device ≡ (step s.device c).done.device
unfolding after called
call_device s c v = rw v

pub stays : (s : State) (t : Turn) → part_valid s.part ≡ true → part_valid (after s t).part ≡ true
unfolding PartStays
stays = part_stays

pub puts-device : (l : List Mixed) (s : State) → part_valid s.part ≡ true → (feed s (putting l)).device ≡ later s.device l
unfolding feed after device_next
puts-device [] s v = refl
puts-device (put b ∷ l) s v = puts-device l (after s (on (byte b))) (stays s (on (byte b)) v)
puts-device (aside c ∷ l) s v =
    puts-device l (after s (call c)) (stays s (call c) v) ∙ ap (λ (d : Device). later d l) (call_device s c v)

clocks_device : (l : List Mixed) (s : State) → part_valid s.part ≡ true → (feed s (clocking l)).device ≡ later s.device l
unfolding feed after device_next
clocks_device [] s v = refl
clocks_device (put b ∷ l) s v = clocks_device l (after s (on clock)) (stays s (on clock) v)
clocks_device (aside c ∷ l) s v =
    clocks_device l (after s (call c)) (stays s (call c) v) ∙ ap (λ (d : Device). later d l) (call_device s c v)

pub feed-kept : (ts : List Turn) (s : State) → part_valid s.part ≡ true → part_valid (feed s ts).part ≡ true
unfolding feed
feed-kept [] s v = v
feed-kept (t ∷ ts) s v = feed-kept ts (after s t) (stays s t v)

-- ---- transactions

module _ (s : State) (v : part_valid s.part ≡ true) where
  begun : State
  begun = after s (on start)

  begun-device : begun.device ≡ s.device
  unfolding begun after device_next
  begun-device = refl

  begun_kept : part_valid begun.part ≡ true
  unfolding begun
  begun_kept = stays s (on start) v

  begun-hears : device_valid s.device ≡ true → Hears 1 begun []
  unfolding begun
  begun-hears d = hear_start s v d

  begun-deaf : device_valid s.device ≡ false → Silent begun
  unfolding begun device_next
  begun-deaf d = deaf_event s (record { kept = v; invalid = d }) start refl

  module _ (l : List Mixed) (ql : Steady l) where
    written : State
    written = feed begun (putting l)

    written-device : written.device ≡ later s.device l
    unfolding written
    written-device = puts-device l begun begun_kept ∙ ap (λ (d : Device). later d l) begun-device

    written-kept : part_valid written.part ≡ true
    unfolding written
    written-kept = feed-kept (putting l) begun begun_kept

    written-hears : device_valid s.device ≡ true → Hears 1 written (puts l)
    unfolding written
    written-hears d = hear_all l begun [] ql (begun-hears d)

    written-deaf : device_valid s.device ≡ false → Silent written
    unfolding written
    written-deaf d = deaf_all l begun ql (begun-deaf d)

    write_stopped : stopped written ≡ (step (later s.device l) (write (puts l))).done
    write_stopped =
        either (device_valid s.device) (λ d. heard-write written (puts l) (written-hears d)) (λ d. deaf_stop written (written-deaf d) (write (puts l)))
        ∙ ap (λ (x : Device). (step x (write (puts l))).done) written-device

    module _ (m : List Mixed) (qm : Steady m) (none : puts m ≡ []) where
      turned : State
      turned = feed (after written (on again)) (putting m)

      turned-device : turned.device ≡ later (later s.device l) m
      unfolding turned after device_next
      turned-device =
          puts-device m (after written (on again)) (stays written (on again) written-kept)
          ∙ ap (λ (d : Device). later d m) written-device

      turned-kept : part_valid turned.part ≡ true
      unfolding turned
      turned-kept = feed-kept (putting m) (after written (on again)) (stays written (on again) written-kept)

      turned-hears : device_valid s.device ≡ true → Hears 2 turned (puts l)
      unfolding turned
      turned-hears d = hear_on m 2 (after written (on again)) (puts l) qm none (hear_again written (puts l) (written-hears d))

      turned-deaf : device_valid s.device ≡ false → Silent turned
      unfolding turned device_next
      turned-deaf d = deaf_all m (after written (on again)) qm (deaf_event written (written-deaf d) again refl)

      module _ (b : ℕ) (k : List Mixed) (qk : Steady k) where
        header : List ℕ
        header = puts l ++ b ∷ []

        n : ℕ
        n = length (puts k)

        asked : State
        asked = after turned (on (byte b))

        asked-device : asked.device ≡ turned.device
        unfolding asked after device_next
        asked-device = refl

        asked-kept : part_valid asked.part ≡ true
        unfolding asked
        asked-kept = stays turned (on (byte b)) turned-kept

        said : List ℕ
        said = read_sent turned.device header 8

        asked-talks : device_valid s.device ≡ true → Talks asked header said 0
        unfolding asked header said
        asked-talks d = talk_start turned (puts l) b (turned-hears d)

        asked-deaf : device_valid s.device ≡ false → Silent asked
        unfolding asked device_next
        asked-deaf d = deaf_event turned (turned-deaf d) (byte b) refl

        few : length said ≤ 8
        unfolding said sent
        few = stream-length _ _ _ _ _

        clocked-all : State
        clocked-all = feed asked (clocking k)

        clocked-device : clocked-all.device ≡ later (later (later s.device l) m) k
        unfolding clocked-all
        clocked-device =
            clocks_device k asked asked-kept ∙ ap (λ (d : Device). later d k) (asked-device ∙ turned-device)

        plain : n + 0 ≡ n
        plain = omega arith

        read_stopped : stopped clocked-all ≡ (step (later (later (later s.device l) m) k) (read header n)).done
        unfolding clocked-all n
        read_stopped =
            either (device_valid s.device)
            (λ d. talked clocked-all header said (n + 0) (talk_all k asked header said 0 qk (asked-talks d))
            ∙ ap (λ (x : ℕ). (step clocked-all.device (read header x)).done) plain)
            (λ d. deaf_stop clocked-all (deaf_clocks k asked qk (asked-deaf d)) (read header n))
            ∙ ap (λ (x : Device). (step x (read header n)).done) clocked-device

        clocks_sent : sent_in asked (clocking k) ≡ (step turned.device (read header n)).reply
        unfolding n step said
        clocks_sent =
            either (device_valid s.device)
            (λ d. talk_sent k asked header said 0 few qk (asked-talks d)
            ∙ ap₂ reply_of (sent-any turned.device header 8 n) plain)
            (λ d. deaf_said k asked 0 qk (asked-deaf d)
            ∙ ap₂ reply_of (sym (deaf_sent turned.device header n (turned-deaf d).invalid)) plain)

        read_sent_lem : sent_in asked (clocking k) ≡ (step (later (later s.device l) m) (read header n)).reply
        read_sent_lem = clocks_sent ∙ ap (λ (x : Device). (step x (read header n)).reply) turned-device

-- ---- the same as lists of turns

abbrev pub reading_turns : List Mixed → List Mixed → ℕ → List Mixed → List Turn
reading_turns l m b k = on start ∷ (putting l ++ (on again ∷ (putting m ++ (on (byte b) ∷ clocking k))))

module _ (s : State) (v : part_valid s.part ≡ true) (l : List Mixed) (ql : Steady l) where
  pub write_between : stopped (feed s (on start ∷ putting l)) ≡ (step (later s.device l) (write (puts l))).done
  unfolding feed begun written
  write_between = write_stopped s v l ql

  pub first_between : (b : ℕ) → device_valid s.device ≡ true → byte_ack (feed s (on start ∷ putting l)) b ≡ acked_first (puts l) b
  unfolding feed begun written
  first_between b d = heard-first (written s v l ql) (puts l) b (written-hears s v l ql d)

  module _ (m : List Mixed) (qm : Steady m) (none : puts m ≡ []) where
    abbrev turn_turns : List Turn
    turn_turns = on start ∷ (putting l ++ (on again ∷ putting m))

    turns-turned : feed s turn_turns ≡ turned s v l ql m qm none
    unfolding feed begun written turned
    turns-turned = feed-append (begun s v) (putting l) (on again ∷ putting m)

    pub second_between : (b : ℕ) → device_valid s.device ≡ true → byte_ack (feed s turn_turns) b ≡ acked_second (puts l) b
    second_between b d =
        ap (λ (t : State). byte_ack t b) turns-turned
        ∙ heard-second (turned s v l ql m qm none) (puts l) b (turned-hears s v l ql m qm none d)

    pub turn-between : device_valid s.device ≡ true → stopped (feed s turn_turns) ≡ done (later (later s.device l) m) 2
    turn-between d =
        ap stopped turns-turned
        ∙ heard-turn (turned s v l ql m qm none) (puts l) (turned-hears s v l ql m qm none d)
        ∙ ap (λ (x : Device). done x 2) (turned-device s v l ql m qm none)

    module _ (b : ℕ) (k : List Mixed) (qk : Steady k) where
      turns-read : feed s (reading_turns l m b k) ≡ clocked-all s v l ql m qm none b k qk
      unfolding feed begun written turned asked clocked-all
      turns-read =
          feed-append (begun s v) (putting l) (on again ∷ (putting m ++ (on (byte b) ∷ clocking k)))
          ∙ feed-append (after (written s v l ql) (on again)) (putting m) (on (byte b) ∷ clocking k)

      pub read_between : stopped (feed s (reading_turns l m b k))
          ≡ (step (later (later (later s.device l) m) k) (read (puts l ++ b ∷ []) (length (puts k)))).done
      unfolding header n
      read_between = ap stopped turns-read ∙ read_stopped s v l ql m qm none b k qk

      -- of what is sent, nothing comes before the second address byte
      pub sent-between : sent_in s (reading_turns l m b k)
          ≡ (step (later (later s.device l) m) (read (puts l ++ b ∷ []) (length (puts k)))).reply
      unfolding sent_in begun written turned asked header n
      sent-between =
          sent-append (putting l) (on again ∷ (putting m ++ (on (byte b) ∷ clocking k))) (begun s v)
          ∙ ap (λ (x : List ℕ). x ++ sent_in (written s v l ql) (on again ∷ (putting m ++ (on (byte b) ∷ clocking k)))) (puts-sent l (begun s v))
          ∙ sent-append (putting m) (on (byte b) ∷ clocking k) (after (written s v l ql) (on again))
          ∙ ap (λ (x : List ℕ). x ++ sent_in (turned s v l ql m qm none) (on (byte b) ∷ clocking k)) (puts-sent m (after (written s v l ql) (on again)))
          ∙ read_sent_lem s v l ql m qm none b k qk
