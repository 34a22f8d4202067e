-- What is kept stays valid, and holds the first eleven of the bytes that came.
-- Assumes nothing.
use Prim.Native.Nat.{ℕ, suc, ◌+◌, ◌<◌, ◌≤◌, min}
use mathlib.Core.Path.{◌≡◌, refl, sym, ap, ◌∙◌}
use mathlib.Core.Bool.{true}
use mathlib.Core.List.{List, [], ◌∷◌, ◌++◌}
use native.Mathlib.Omega.{arith}
use lib.ListN.{length, take, length-append, length-set}
use lib.Seq.{take-suc-set, take_all, take-append-le}
use lib.Dec.{ltb, eqb}
use borrow.Author.Tests.{ltb-true, ltb-false, lt-ltb, le-ltb}
use Rattle.laws.proofs.Branches.{either}
use Rattle.bus.specs.declared.Part.{Part}
use Rattle.bus.specs.Part.{heard, part_valid, idle, started, taking, clocking}
use Rattle.bus.specs.Automaton.{Event, start, byte, again, clock, stop, after_byte, after_again, after_clock, byted, restarted, clocked, part_after}
use Rattle.bus.specs.Fields.{Fields}
use Rattle.bus.proofs.Fields.{fields_of, valid_of}
use Rattle.device.specs.declared.Device.{Device}
use Rattle.stream.specs.Stream.{state_valid, byte_taken, part_next, on, call, after}
use Rattle.stream.specs.Claims.{PartStays}

-- ---- valid parts

byte-phase : (k : ℕ) → after_byte k < 5
unfolding after_byte
byte-phase k = either (eqb k 1) (λ y. rw y (omega arith)) (λ n. rw n (either (eqb k 2) (λ y. rw y (omega arith)) (λ m. rw m (omega arith))))

again_phase : (k : ℕ) → after_again k < 5
unfolding after_again
again_phase k = either (eqb k 1) (λ y. rw y (omega arith)) (λ n. rw n (omega arith))

clock_phase : (k : ℕ) → after_clock k < 5
unfolding after_clock
clock_phase k = either (eqb k 3) (λ y. rw y (omega arith)) (λ n. rw n (omega arith))

module _ (p : Part) (s : Fields p) where
  taken-small : (b : ℕ) → ((taking p b).count < 12) × ((taking p b).clocked < 10)
  unfolding taking
  taken-small b =
      let c = s.count in
      let k = s.clocked in
      either (ltb p.count 11)
      (λ y. let h = ltb-true p.count 11 y in rw y (omega arith, omega arith))
      (λ n. rw n (omega arith, omega arith))

  clocked-small : ((clocking p).count < 12) × ((clocking p).clocked < 10)
  unfolding clocking
  clocked-small =
      let c = s.count in
      let k = s.clocked in
      either (ltb p.clocked 9)
      (λ y. let h = ltb-true p.clocked 9 y in rw y (omega arith, omega arith))
      (λ n. rw n (omega arith, omega arith))

pub byted-valid : (p : Part) (b : ℕ) → part_valid p ≡ true → part_valid (byted p b) ≡ true
unfolding byted
byted-valid p b v =
    let t = taken-small p (fields_of p v) b in
    valid_of (byted p b) (record { phase = byte-phase p.phase; count = t.0; clocked = t.1 })

pub restarted-valid : (p : Part) → part_valid p ≡ true → part_valid (restarted p) ≡ true
unfolding restarted
restarted-valid p v =
    let t = fields_of p v in
    valid_of (restarted p) (record { phase = again_phase p.phase; count = t.count; clocked = t.clocked })

pub clocked-valid : (p : Part) → part_valid p ≡ true → part_valid (clocked p) ≡ true
unfolding clocked
clocked-valid p v =
    let t = clocked-small p (fields_of p v) in
    valid_of (clocked p) (record { phase = clock_phase p.phase; count = t.0; clocked = t.1 })

pub taken-valid : (d : Device) (p : Part) (b : ℕ) → part_valid p ≡ true → part_valid (byte_taken d p b) ≡ true
unfolding byte_taken part_valid
taken-valid d p b v =
    let h = byted-valid p b v in
    either (eqb p.phase 2) (λ y. rw y h) (λ n. rw n h)

next-valid : (d : Device) (p : Part) (e : Event) → part_valid p ≡ true → part_valid (part_next d p e) ≡ true
unfolding part_next part_after started idle part_valid
next-valid d p start v = refl
next-valid d p (byte b) v = taken-valid d p b v
next-valid d p again v = restarted-valid p v
next-valid d p clock v = clocked-valid p v
next-valid d p stop v = refl

pub part_stays : PartStays
unfolding PartStays after
part_stays s (on e) v =
    either (state_valid s) (λ y. rw y (next-valid s.device s.part e v)) (λ n. rw n v)
part_stays s (call c) v = v

-- ---- the part holds the first eleven of the bytes h

pub record Holds (p : Part) (h : List ℕ) : Type 0 where
  pub size : p.count ≡ min 11 (length h)
  pub room : length p.bytes ≡ 11
  pub same : heard p ≡ take 11 h

pub none-held : Holds started []
unfolding started
none-held = record { size = refl; room = refl; same = refl }

module _ (p : Part) (h : List ℕ) (b : ℕ) (k : Holds p h) where
  longer : length (h ++ b ∷ []) ≡ length h + 1
  longer = length-append h (b ∷ [])

  one_held : p.count < 11 → Holds (taking p b) (h ++ b ∷ [])
  unfolding taking
  one_held l =
      let size = k.size in
      let room = k.room in
      let few : length h < 11 = omega arith in
      let more = longer in
      rw (lt-ltb p.count 11 l)
      (record {
        size = omega arith;
        room = length-set p.bytes p.count b ∙ k.room;
        same = let now : min (p.count + 1) 11 ≡ suc p.count = omega arith in
            let then : min p.count 11 ≡ p.count = omega arith in
            rw now (take-suc-set p.bytes p.count b (omega arith))
            ∙ ap (λ (t : List ℕ). t ++ b ∷ []) (rw then at k.same ∙ take_all 11 h (omega arith))
            ∙ sym (take_all 11 (h ++ b ∷ []) (omega arith));
      })

  full_held : 11 ≤ p.count → Holds (taking p b) (h ++ b ∷ [])
  unfolding taking
  full_held l =
      let size = k.size in
      let few : 11 ≤ length h = omega arith in
      let more = longer in
      rw (le-ltb p.count 11 l)
      (record {
        size = omega arith;
        room = k.room;
        same = k.same ∙ sym (take-append-le 11 h (b ∷ []) few);
      })

  pub held : Holds (byted p b) (h ++ b ∷ [])
  unfolding byted
  held =
      let t = either (ltb p.count 11) (λ y. one_held (ltb-true _ _ y)) (λ n. full_held (ltb-false _ _ n)) in
      record { size = t.size; room = t.room; same = t.same }

-- what does not depend on the branch
pub byted-clocked : (p : Part) (b : ℕ) → (byted p b).clocked ≡ p.clocked
unfolding byted taking
byted-clocked p b = either (ltb p.count 11) (λ y. rw y) (λ n. rw n)

-- clocking changes the counter alone
pub record Clocked (p q : Part) : Type 0 where
  pub heard-is : heard q ≡ heard p
  pub reply-is : q.reply ≡ p.reply
  pub next : q.clocked ≡ min (suc p.clocked) 9

pub one_clocked : (p : Part) → p.clocked ≤ 9 → Clocked p (clocked p)
unfolding clocked clocking
one_clocked p few =
    either (ltb p.clocked 9)
    (λ y. let h = ltb-true p.clocked 9 y in
    rw y (record { heard-is = refl; reply-is = refl; next = omega arith }))
    (λ y. let h = ltb-false p.clocked 9 y in
    rw y (record { heard-is = refl; reply-is = refl; next = omega arith }))
