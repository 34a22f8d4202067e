-- The five events over a buffer, from what their functions find.
-- Assumes nothing.
use Prim.Native.Nat.{ℕ, suc, ◌+◌, ◌-◌, ◌≤◌}
use mathlib.Core.Path.{◌≡◌, refl, sym, ap, ap₂, ◌∙◌}
use mathlib.Core.Bool.{Bool, true, false, cond, ◌&&◌, and-eq-true_iff}
use mathlib.Core.List.{List, [], ◌∷◌}
use native.Mathlib.Omega.{arith}
use lib.ListN.{length, get_or, take, drop, length-append, length-take, length-replicate}
use lib.Dec.{ltb, eqb}
use borrow.Author.Tests.{ltb-true}
use Rattle.std.proofs.Common.{subst}
use Rattle.laws.proofs.Branches.{either}
use Rattle.bus.specs.declared.Part.{Part}
use Rattle.bus.specs.Part.{heard, taking, answering, started, idle, part_valid}
use Rattle.bus.specs.Automaton.{start, byte, again, clock, stop, byted, restarted, clocked, part_after, clock_byte}
use Rattle.bus.specs.Ack.{ack_in, ack_of}
use Rattle.page.specs.declared.Page.{Page}
use Rattle.page.specs.Page.{power_on_page}
use Rattle.unpaged.specs.declared.Unpaged.{Unpaged}
use Rattle.unpaged.specs.Unpaged.{shown}
use Rattle.device.specs.declared.Device.{Device}
use Rattle.device.specs.declared.Done.{Done}
use Rattle.device.specs.Device.{device_valid}
use Rattle.device.specs.Step.{write, read, done, step}
use Rattle.stream.specs.Stream.{State, state, state_valid, page_reply, byte_taken, part_next, ended}
use Rattle.stream.proofs.Stopping.{reply-shown}
use Rattle.layout.specs.Layout.{part_form, unpaged_form, page_form, pages_in, pages_from, size, unpaged_at}
use Rattle.layout.specs.State.{decode, ready, part_of, device_of}
use Rattle.layout.proofs.Laws.{part-back}
use Rattle.layout.proofs.Places.{store_over}
use Rattle.layout.proofs.EightPages.{part-wide}
use Rattle.layout.proofs.Kept.{Sized, part-fits, got_sized, byted-sized, reply-made, heard-part}
use Rattle.layout.proofs.Decoded.{part-of, unpaged-of}
use Rattle.layout.proofs.StoredPart.{idle-sized, part_length, part-decodes}
use Rattle.buffer.specs.Buffer.{store_pages, store_device, stores, end_stores, stop_fed, part_fed, taken_of, gives}
use Rattle.buffer.specs.Private.{store_unpaged, Held, Keeping, store_reply}
use Rattle.buffer.proofs.Held.{held, shown-taken}
use Rattle.buffer.proofs.Stored.{unpaged-alone}

-- ---- a byte

phase_at : (s : List ℕ) → (part_form.get s 0).phase ≡ get_or s 0 0
unfolding part_form
phase_at s = refl

count_at : (s : List ℕ) → (part_form.get s 0).count ≡ get_or s 1 0
unfolding part_form
count_at s = refl

phase_of : (s : List ℕ) → (part_of s).phase ≡ get_or s 0 0
phase_of s = ap (λ (p : Part). p.phase) (part-of s) ∙ phase_at s

count_of : (s : List ℕ) → (part_of s).count ≡ get_or s 1 0
count_of s = ap (λ (p : Part). p.count) (part-of s) ∙ count_at s

pub read_long : (d : Device) (h : List ℕ) → length (step d (read h 8)).reply ≡ 8
unfolding step
read_long d h = simp (length-take, length-append, length-replicate) (omega arith)

-- a ready buffer keeps at most eleven bytes
pub keeping : (s : List ℕ) → ready s ≡ true → Keeping s
unfolding ready state_valid part_valid
keeping s y =
    let whole = (and-eq-true_iff (eqb (length s) size) (state_valid (decode s))).0 y in
    let part = ((and-eq-true_iff (part_valid (part_of s)) (device_valid (device_of s))).0 whole.1).0 in
    let counts = ((and-eq-true_iff (ltb (part_of s).phase 5 && ltb (part_of s).count 12) (ltb (part_of s).clocked 10)).0 part).0 in
    let few = ltb-true (part_of s).count 12 ((and-eq-true_iff (ltb (part_of s).phase 5) (ltb (part_of s).count 12)).0 counts).1 in
    let e = count_of s in
    record { holds = held s y; few = omega arith }

module _ (s : List ℕ) (k : Keeping s) where
  -- what is kept, as a part of the buffer that starts at 2 and ends behind the count
  pub heard-of : take (2 + get_or s 1 0 - 2) (drop 2 s) ≡ heard (part_of s)
  heard-of =
      let e : 2 + get_or s 1 0 - 2 ≡ get_or s 1 0 = omega arith in
      rw e (sym (heard-part s k.holds.long k.few)) ∙ ap heard (sym (part-of s))

  pub ack_made : (b : ℕ) (r : Bool) → r ≡ ack_in (get_or s 0 0) (take (2 + get_or s 1 0 - 2) (drop 2 s)) b → r ≡ ack_of (part_of s) b
  ack_made b r e = e ∙ ap₂ (λ (x : ℕ) (l : List ℕ). ack_in x l b) (sym (phase_of s)) heard-of

  pub reply-is : (u : Unpaged) (i : ℕ) (page : Page) (r : List ℕ) → u ≡ unpaged_form.get s unpaged_at → i ≡ shown u → page ≡ get_or (pages_in s) i power_on_page
      → r ≡ page_reply u page (take (2 + get_or s 1 0 - 2) (drop 2 s)) → r ≡ (step (device_of s) (read (heard (part_of s)) 8)).reply
  reply-is u i page r eu ei ep er =
      let d = device_of s in
      let h = heard (part_of s) in
      er ∙ ap (page_reply u page) heard-of ∙ ap (λ (x : Unpaged). page_reply x page h) (eu ∙ sym (unpaged-of s))
      ∙ sym (reply-shown d page h k.holds.valid (shown-taken s k.holds u eu i ei page ep))

-- the buffer with one byte more that is kept
module _ (s : List ℕ) (k : Keeping s) (b : ℕ) (m : List ℕ) (em : m ≡ part_form.store s 0 (byted (part_form.get s 0) b)) where
  q : Part
  q = byted (part_form.get s 0) b

  sized : Sized q
  unfolding q
  sized = byted-sized (part_form.get s 0) b (got_sized s 0)

  more : m ≡ part_form.store s 0 q
  unfolding q
  more = em

  holds : decode m ≡ state q (device_of s)
  holds = ap decode more ∙ part-decodes s k.holds.long q sized

  part-is : part_of m ≡ q
  part-is = ap (λ (x : State). x.part) holds

  device-kept : device_of m ≡ device_of s
  device-kept = ap (λ (x : State). x.device) holds

  few_kept : get_or m 1 0 ≤ 11
  unfolding q byted taking
  few_kept =
      let c = get_or s 1 0 in
      let l = k.few in
      let e : get_or m 1 0 ≡ q.count = sym (count_of m) ∙ ap (λ (p : Part). p.count) part-is in
      let f = count_at s in
      rw e (either (ltb (part_form.get s 0).count 11)
      (λ y. let h = ltb-true (part_form.get s 0).count 11 y in rw y (omega arith))
      (λ n. rw n (omega arith)))

  long-more : length m ≡ size
  long-more = ap length more ∙ part_length s k.holds.long q sized

  pub keeping-more : Keeping m
  keeping-more = record {
    holds = record {
      long = long-more;
      valid = ap device_valid device-kept ∙ k.holds.valid;
    };
    few = few_kept;
  }

  pub byte-fed : (second : Bool) (t : List ℕ) → second ≡ eqb (get_or s 0 0) 2
      → t ≡ cond second (store_reply m (step (device_of m) (read (heard (part_of m)) 8)).reply) m → t ≡ taken_of s (byte b)
  unfolding taken_of part_fed part_next byte_taken q
  byte-fed second t es et =
      let p-is : part_of s ≡ part_form.get s 0 = part-of s in
      let r = (step (device_of s) (read (heard q) 8)).reply in
      let r_is : (step (device_of m) (read (heard (part_of m)) 8)).reply ≡ r =
      ap₂ (λ (d : Device) (p : Part). (step d (read (heard p) 8)).reply) device-kept part-is in
      let phase_is : eqb (part_form.get s 0).phase 2 ≡ second = ap (λ (x : ℕ). eqb x 2) (phase_at s) ∙ sym es in
      let taken : t ≡ part_form.store s 0 (byte_taken (device_of s) (part_form.get s 0) b) =
      et ∙ either second
      (λ y. rw (phase_is, y) (ap (store_reply m) r_is ∙ reply-made m (let l = long-more in omega arith) r (read_long (device_of s) (heard q))
      ∙ ap (λ (p : Part). part_form.store m 0 (answering p r)) (sym (part-of m) ∙ part-is)
      ∙ ap (λ (x : List ℕ). part_form.store x 0 (answering q r)) more
      ∙ store_over part_form part-back s 0 q (answering q r) (part-fits q sized)
      (part-fits (answering q r) (record { bytes = sized.bytes; reply = read_long (device_of s) (heard q) })) (let l = k.holds.long in rw part-wide (omega arith))))
      (λ n. rw (phase_is, n) more) in
      taken ∙ ap (λ (p : Part). part_form.store s 0 (byte_taken (device_of s) p b)) (sym p-is)

-- ---- what is kept

module _ (s : List ℕ) (p q : Part) (t : List ℕ) (e : p ≡ part_form.get s 0) (f : t ≡ part_form.store s 0 q) where
  same_part : p ≡ part_of s
  same_part = e ∙ sym (part-of s)

  pub again_fed : q ≡ restarted p → t ≡ taken_of s again
  unfolding taken_of part_fed part_next part_after
  again_fed g = f ∙ ap (part_form.store s 0) (g ∙ ap restarted same_part)

  pub clock_fed : q ≡ clocked p → t ≡ taken_of s clock
  unfolding taken_of part_fed part_next part_after
  clock_fed g = f ∙ ap (part_form.store s 0) (g ∙ ap clocked same_part)

pub start-fed : (s : List ℕ) (q : Part) (t : List ℕ) → t ≡ part_form.store s 0 q → q ≡ started → t ≡ taken_of s start
unfolding taken_of part_fed part_next part_after
start-fed s q t f g = f ∙ ap (part_form.store s 0) g

pub byte-gives : (s : List ℕ) (b : ℕ) (a : Bool) (x : ℕ) → a ≡ ack_of (part_of s) b → x ≡ cond a 1 0 → x ≡ gives s (byte b)
unfolding gives
byte-gives s b a x f g = g ∙ rw f

pub clock_gives : (s : List ℕ) (p : Part) → p ≡ part_form.get s 0 → (x : ℕ) → x ≡ clock_byte p → x ≡ gives s clock
unfolding gives
clock_gives s p e x f = f ∙ rw (e ∙ sym (part-of s))

-- ---- what STOP ends

agree : (t u : ℕ → Bool) (s : List ℕ) (o : ℕ) (l : List Page) → ((i : ℕ) → t i ≡ u i) → store_pages t s o l ≡ store_pages u s o l
agree t u s o [] h = refl
agree t u s o (p ∷ l) h = rw (h 0) (agree (λ i. t (suc i)) (λ i. u (suc i)) _ (o + page_form.width) l (λ i. h (suc i)))

module _ (s : List ℕ) (p : Part) (x : ℕ) (t : List ℕ) where
  abbrev pub Ended : Type 0
  Ended = (x ≡ (ended (device_of s) p).answer) × (t ≡ store_device (end_stores (device_of s) p) s (ended (device_of s) p).device)

  pub end_write : eqb p.phase 1 ≡ true → x ≡ (step (device_of s) (write (heard p))).done.answer
      → t ≡ store_device (stores (device_of s) (write (heard p))) s (step (device_of s) (write (heard p))).done.device → Ended
  unfolding ended end_stores store_device
  end_write y a b =
      let d = device_of s in
      let e : ended d p ≡ (step d (write (heard p))).done = rw y in (
        a ∙ ap (λ (r : Done). r.answer) (sym e),
        b ∙ ap (λ (m : List ℕ). unpaged_form.store m unpaged_at (step d (write (heard p))).done.device.unpaged)
            (agree (stores d (write (heard p))) (end_stores d p) s pages_from (step d (write (heard p))).done.device.pages (λ i. rw y))
            ∙ ap (λ (r : Done). store_device (end_stores d p) s r.device) (sym e),
      )

  -- an end that leaves every page
  end_kept : (r : Done) → eqb p.phase 1 ≡ false → ended (device_of s) p ≡ r → x ≡ r.answer → t ≡ store_unpaged s r.device → Ended
  unfolding end_stores
  end_kept r n e a b = (
    a ∙ ap (λ (q : Done). q.answer) (sym e),
    b ∙ unpaged-alone (end_stores (device_of s) p) s r.device (λ i. rw n) ∙ ap (λ (q : Done). store_device (end_stores (device_of s) p) s q.device) (sym e),
  )

  pub end_read : eqb p.phase 1 ≡ false → eqb p.phase 3 ≡ true → x ≡ (step (device_of s) (read (heard p) p.clocked)).done.answer
      → t ≡ store_unpaged s (step (device_of s) (read (heard p) p.clocked)).done.device → Ended
  unfolding ended
  end_read n y a b = end_kept (step (device_of s) (read (heard p) p.clocked)).done n (rw (n, y)) a b

  pub end_disorder : eqb p.phase 1 ≡ false → eqb p.phase 3 ≡ false → x ≡ 2 → t ≡ store_unpaged s (device_of s) → Ended
  unfolding ended
  end_disorder n m a b = end_kept (done (device_of s) 2) n (rw (n, m)) a b

-- of the same buffer
pub ended_in : (s u : List ℕ) (p : Part) (x : ℕ) (t : List ℕ) → u ≡ s → Ended u p x t → Ended s p x t
ended_in s u p x t e h = let P : List ℕ → Type 0 = λ v. Ended v p x t in subst P e h

-- nothing is kept, and the device is as it was
module _ (s : List ℕ) (h : Held s) where
  emptied : List ℕ
  emptied = part_form.store s 0 idle

  emptied_device : device_of emptied ≡ device_of s
  unfolding emptied
  emptied_device = ap (λ (x : State). x.device) (part-decodes s h.long idle idle-sized)

  pub emptied_held : (q : Part) (m : List ℕ) → q ≡ idle → m ≡ part_form.store s 0 q → Held m
  unfolding emptied
  emptied_held q m e f =
      let is : m ≡ emptied = f ∙ ap (part_form.store s 0) e in
      record {
        long = ap length is ∙ part_length s h.long idle idle-sized;
        valid = ap (λ (x : List ℕ). device_valid (device_of x)) is ∙ ap device_valid emptied_device ∙ h.valid;
      }

  pub stop_made : (p q : Part) (m : List ℕ) (x : ℕ) (t : List ℕ) → p ≡ part_form.get s 0 → q ≡ idle → m ≡ part_form.store s 0 q
      → Ended m p x t → (x ≡ gives s stop) × (t ≡ taken_of s stop)
  unfolding emptied gives taken_of stop_fed
  stop_made p q m x t ep e f g =
      let is : m ≡ emptied = f ∙ ap (part_form.store s 0) e in
      let d-is : device_of m ≡ device_of s = ap device_of is ∙ emptied_device in
      let p-is : p ≡ part_of s = ep ∙ sym (part-of s) in (
        g.0 ∙ ap₂ (λ (y : Device) (z : Part). (ended y z).answer) d-is p-is,
        g.1 ∙ ap₂ (λ (y : Device) (z : Part). store_device (end_stores y z) m (ended y z).device) d-is p-is
            ∙ ap (λ (n : List ℕ). store_device (end_stores (device_of s) (part_of s)) n (ended (device_of s) (part_of s)).device) is,
      )
