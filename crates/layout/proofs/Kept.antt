-- What is kept of a transaction, changed where it stands: a byte more, and the reply.
-- Assumes nothing.
use Prim.Native.Nat.{ℕ, zero, suc, ◌+◌, ◌*◌, ◌<◌, ◌≤◌, min}
use mathlib.Core.Path.{◌≡◌, refl, sym, ap, ◌∙◌}
use mathlib.Core.List.{List, [], ◌∷◌, ◌++◌}
use native.Mathlib.Omega.{arith}
use native.Mathlib.Numerals.{add-one}
use lib.ListN.{length, get_or, set, take, drop, length-set}
use lib.Seq.{set-get_or, drop-set-lt, drop-cons, take-take, get_or-set_same, get_or-set_other}
use lib.Dec.{ltb}
use borrow.Author.Tests.{lt-ltb, le-ltb, ltb-true, ltb-false}
use Rattle.laws.proofs.Branches.{either}
use Rattle.bus.specs.declared.Part.{Part}
use Rattle.bus.specs.Part.{part, heard, taking, answering}
use Rattle.bus.specs.Automaton.{byted, after_byte}
use Rattle.layout.specs.Form.{Form, store_byte, octet, both, array, get_all, store_all}
use Rattle.layout.specs.Private.{heard_byte}
use Rattle.layout.specs.Layout.{part_fields, part_form, size}
use Rattle.layout.proofs.Laws.{octet-back, array_back, part-back}
use Rattle.layout.proofs.Places.{Local, octet-local, all_local, stored-parts, below, read_back, store_length, array-set}
use Rattle.layout.proofs.Shapes.{all_fit}
use Rattle.layout.proofs.EightPages.{part-wide}

-- ---- a form of bytes alone is exact: what stands at a place, stored there again, changes nothing

Exact : {A : Type 0} → Form A → Type 0
Exact f = (s : List ℕ) (o : ℕ) → f.store s o (f.get s o) ≡ s

octet-exact : Exact octet
unfolding Exact store_byte
octet-exact s o = set-get_or s o 0

both-exact : {A B : Type 0} (f : Form A) (g : Form B) → Exact f → Exact g → Exact (both f g)
unfolding Exact
both-exact f g kf kg s o = ap (λ (t : List ℕ). g.store t (o + f.width) (g.get s (o + f.width))) (kf s o) ∙ kg s (o + f.width)

all_exact : {A : Type 0} (f : Form A) → Exact f → (n : ℕ) → Exact (array n f)
unfolding Exact
all_exact f k zero s o = refl
all_exact f k (suc n) s o = ap (λ (t : List ℕ). store_all f t (o + f.width) (get_all f n s (o + f.width))) (k s o) ∙ all_exact f k n s (o + f.width)

fields_exact : Exact part_fields
fields_exact =
    both-exact _ _ octet-exact (both-exact _ _ octet-exact (both-exact _ _ (all_exact octet octet-exact 11) (both-exact _ _ octet-exact (all_exact octet octet-exact 8))))

part-exact : Exact part_form
unfolding Exact part_form
part-exact s o = fields_exact s o

-- ---- a buffer that differs in the first 22 bytes alone

pub record Sized (p : Part) : Type 0 where
  pub bytes : length p.bytes ≡ 11
  pub reply : length p.reply ≡ 8

pub part-fits : (p : Part) → Sized p → part_form.Fits p
unfolding part_form
part-fits p h = (tt, (tt, ((h.bytes, all_fit octet (λ x. tt) p.bytes), (tt, (h.reply, all_fit octet (λ x. tt) p.reply)))))

pub got_sized : (s : List ℕ) (o : ℕ) → Sized (part_form.get s o)
unfolding part_form
got_sized s o = record { bytes = refl; reply = refl }

pub byted-sized : (p : Part) (b : ℕ) → Sized p → Sized (byted p b)
unfolding byted taking
byted-sized p b h =
    either (ltb p.count 11)
    (λ y. rw y (record { bytes = length-set p.bytes p.count b ∙ h.bytes; reply = h.reply }))
    (λ n. rw n (record { bytes = h.bytes; reply = h.reply }))

module _ (s t : List ℕ) (ls : 22 ≤ length s) (lt : 22 ≤ length t) (same : drop 22 t ≡ drop 22 s) (q : Part) (g : Sized q) where
  pub store_same : part_form.store t 0 q ≡ part_form.store s 0 q
  store_same =
      stored-parts part_form part-back t 0 q (part-fits q g) (rw part-wide lt)
      ∙ ap (λ (l : List ℕ). [] ++ part_form.put q ++ l) (ap (λ (n : ℕ). drop (0 + n) t) part-wide ∙ same ∙ ap (λ (n : ℕ). drop (0 + n) s) (sym part-wide))
      ∙ sym (stored-parts part_form part-back s 0 q (part-fits q g) (rw part-wide ls))

  -- t holds q, and behind it what s has: it is s with q stored
  pub holds-part : part_form.get t 0 ≡ q → t ≡ part_form.store s 0 q
  unfolding Exact
  holds-part e = sym (part-exact t 0) ∙ ap (part_form.store t 0) e ∙ store_same

-- ---- one byte more

part_at : (s : List ℕ) → part_form.get s 0 ≡ part (get_or s 0 0) (get_or s 1 0) (get_all octet 11 s 2) (get_or s 13 0) (get_all octet 8 s 14)
unfolding part_form
part_at s = refl

-- t holds the part q, fields one by one
record Fields (t : List ℕ) (q : Part) : Type 0 where
  phase : get_or t 0 0 ≡ q.phase
  count : get_or t 1 0 ≡ q.count
  bytes : get_all octet 11 t 2 ≡ q.bytes
  clocked : get_or t 13 0 ≡ q.clocked
  reply : get_all octet 8 t 14 ≡ q.reply

fields_make : (t : List ℕ) (q : Part) → Fields t q → part_form.get t 0 ≡ q
fields_make t q f = part_at t ∙ rw (f.phase, f.count, f.bytes, f.clocked, f.reply)

-- where one byte is set
other : (s : List ℕ) (i x j : ℕ) → (j ≡ i → ⊥) → get_or (set s i x) j 0 ≡ get_or s j 0
other s i x j h = get_or-set_other s i j x 0 h

local_same : (n : ℕ) (s t : List ℕ) (o : ℕ) → ((i : ℕ) → o ≤ i → i < o + n → get_or t i 0 ≡ get_or s i 0) → get_all octet n t o ≡ get_all octet n s o
unfolding Local
local_same n s t o h = all_local octet octet-local n t s o (λ i lo hi. h i lo (let e : n * 1 ≡ n = omega arith in omega arith))

module _ (s : List ℕ) (l : 22 ≤ length s) (b : ℕ) where
  abbrev kept : Part
  kept = part_form.get s 0

  abbrev phase_then : ℕ
  phase_then = after_byte (get_or s 0 0)

  first_kept : (i : ℕ) → 0 < i → get_or (set s 0 phase_then) i 0 ≡ get_or s i 0
  first_kept i h = other s 0 phase_then i (λ e. omega arith)

  first_set : get_or (set s 0 phase_then) 0 0 ≡ phase_then
  first_set = get_or-set_same s 0 phase_then 0 (omega arith)

  more-sized : Sized (byted kept b)
  more-sized = byted-sized kept b (got_sized s 0)

  -- there is room for the byte
  module _ (y : get_or s 1 0 < 11) where
    abbrev c : ℕ
    c = get_or s 1 0

    u : List ℕ
    u = set (set s 0 phase_then) 1 (c + 1)

    t : List ℕ
    t = set u (2 + c) b

    u_kept : (i : ℕ) → 1 < i → get_or u i 0 ≡ get_or s i 0
    unfolding u
    u_kept i h = other (set s 0 phase_then) 1 (c + 1) i (λ e. omega arith) ∙ first_kept i (omega arith)

    u_phase : get_or u 0 0 ≡ phase_then
    unfolding u
    u_phase = other (set s 0 phase_then) 1 (c + 1) 0 (λ e. omega arith) ∙ first_set

    u_count : get_or u 1 0 ≡ c + 1
    unfolding u
    u_count = get_or-set_same (set s 0 phase_then) 1 (c + 1) 0 (let e = length-set s 0 phase_then in omega arith)

    long-u : length u ≡ length s
    unfolding u
    long-u = length-set (set s 0 phase_then) 1 (c + 1) ∙ length-set s 0 phase_then

    more-fields : Fields t (part phase_then (c + 1) (set (get_all octet 11 s 2) c b) (get_or s 13 0) (get_all octet 8 s 14))
    unfolding t store_byte
    more-fields =
        let lu = long-u in
        let place : 2 + c * 1 ≡ 2 + c = omega arith in
        record {
          phase = other u (2 + c) b 0 (λ e. omega arith) ∙ u_phase;
          count = other u (2 + c) b 1 (λ e. omega arith) ∙ u_count;
          bytes = ap (λ (o : ℕ). get_all octet 11 (set u o b) 2) (sym place)
              ∙ array-set octet octet-back octet-local b tt 11 c u 2 y (omega arith)
              ∙ ap (λ (m : List ℕ). set m c b) (local_same 11 s u 2 (λ i lo hi. u_kept i lo));
          clocked = other u (2 + c) b 13 (λ e. omega arith) ∙ u_kept 13 (omega arith);
          reply = local_same 8 s t 14 (λ i lo hi. other u (2 + c) b i (λ e. omega arith) ∙ u_kept i (omega arith));
        }

    more-byted : part phase_then (c + 1) (set (get_all octet 11 s 2) c b) (get_or s 13 0) (get_all octet 8 s 14) ≡ byted kept b
    unfolding byted taking part_form
    more-byted = rw (lt-ltb (get_or s 1 0) 11 y)

    more-kept : t ≡ part_form.store s 0 (byted kept b)
    unfolding t u
    more-kept =
        let lu = long-u in
        let lt : length t ≡ length s = length-set u (2 + c) b ∙ long-u in
        holds-part s t l (omega arith)
        (drop-set-lt 22 u (2 + c) b (omega arith) ∙ drop-set-lt 22 (set s 0 phase_then) 1 (c + 1) (omega arith) ∙ drop-set-lt 22 s 0 phase_then (omega arith))
        (byted kept b) more-sized (fields_make t _ more-fields ∙ more-byted)

  -- or none is left
  module _ (n : 11 ≤ get_or s 1 0) where
    full_kept : set s 0 phase_then ≡ part_form.store s 0 (byted kept b)
    unfolding byted taking part_form
    full_kept =
        let lt = length-set s 0 phase_then in
        holds-part s (set s 0 phase_then) l (omega arith) (drop-set-lt 22 s 0 phase_then (omega arith)) (byted kept b) more-sized
        (fields_make (set s 0 phase_then) _ (record {
          phase = first_set;
          count = first_kept 1 (omega arith);
          bytes = local_same 11 s (set s 0 phase_then) 2 (λ i lo hi. first_kept i (omega arith));
          clocked = first_kept 13 (omega arith);
          reply = local_same 8 s (set s 0 phase_then) 14 (λ i lo hi. first_kept i (omega arith));
        }) ∙ rw (le-ltb (get_or s 1 0) 11 n))

  pub keep_made : (m t : List ℕ) → m ≡ set s 0 phase_then → t ≡ heard_byte m b → t ≡ part_form.store s 0 (byted kept b)
  unfolding heard_byte u t
  keep_made m t em et =
      let count : get_or (set s 0 phase_then) 1 0 ≡ get_or s 1 0 = first_kept 1 (omega arith) in
      et ∙ ap (λ (x : List ℕ). heard_byte x b) em
      ∙ either (ltb (get_or s 1 0) 11)
      (λ y. rw (count, y) (more-kept (ltb-true (get_or s 1 0) 11 y)))
      (λ o. rw (count, o) (full_kept (ltb-false (get_or s 1 0) 11 o)))

-- ---- the reply

behind_same : (m : ℕ) (s : List ℕ) (o : ℕ) (r : List ℕ) → o + length r ≤ m → drop m (store_all octet s o r) ≡ drop m s
unfolding store_byte
behind_same m s o [] h = refl
behind_same m s o (x ∷ r) h = behind_same m (set s o x) (o + 1) r (omega arith) ∙ drop-set-lt m s o x (omega arith)

module _ (s : List ℕ) (l : 22 ≤ length s) (r : List ℕ) (eight : length r ≡ 8) where
  abbrev with_reply : List ℕ
  with_reply = store_all octet s 14 r

  fits : (array 8 octet).Fits r
  fits = (eight, all_fit octet (λ x. tt) r)

  pub reply-made : with_reply ≡ part_form.store s 0 (answering (part_form.get s 0) r)
  unfolding part_form
  reply-made =
      let k = array_back octet octet-back 8 in
      let room : 14 + 8 ≤ length s = omega arith in
      let kept-below = below (array 8 octet) k s 14 r fits room in
      let long = store_length (array 8 octet) k s 14 r fits room in
      holds-part s with_reply l (omega arith) (behind_same 22 s 14 r (omega arith)) (answering (part_form.get s 0) r)
      (record { bytes = refl; reply = eight })
      (fields_make with_reply _ (record {
        phase = kept-below 0 (omega arith);
        count = kept-below 1 (omega arith);
        bytes = local_same 11 s with_reply 2 (λ i lo hi. kept-below i (omega arith));
        clocked = kept-below 13 (omega arith);
        reply = read_back (array 8 octet) k s 14 r fits room;
      }))

-- ---- the bytes kept, as a part of the buffer

pub octets_part : (n : ℕ) (s : List ℕ) (o : ℕ) → o + n ≤ length s → get_all octet n s o ≡ take n (drop o s)
octets_part zero s o h = refl
octets_part (suc n) s o h =
    sym (ap (take (suc n)) (drop-cons s o 0 (omega arith))
    ∙ ap (λ (m : List ℕ). get_or s o 0 ∷ m) (ap (λ (i : ℕ). take n (drop i s)) (sym (add-one o)) ∙ sym (octets_part n s (o + 1) (omega arith))))

pub heard-part : (s : List ℕ) → length s ≡ size → get_or s 1 0 ≤ 11 → heard (part_form.get s 0) ≡ take (get_or s 1 0) (drop 2 s)
unfolding part_form
heard-part s l h =
    let e : min (get_or s 1 0) 11 ≡ get_or s 1 0 = omega arith in
    rw e (ap (take (get_or s 1 0)) (octets_part 11 s 2 (omega arith)) ∙ take-take (get_or s 1 0) 11 (drop 2 s) h)
