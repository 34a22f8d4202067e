-- What the calls and STOP leave of a buffer, from what their functions find: the outcome beside the pages is what `step` says.
-- Assumes nothing.
use Prim.Native.Nat.{ℕ, zero, suc, ◌+◌, ◌*◌, ◌<◌, ◌≤◌}
use mathlib.Core.Path.{◌≡◌, refl, sym, ap, ap₂, ◌∙◌}
use mathlib.Core.Bool.{Bool, true, false, cond, ◌&&◌, ◌||◌, or-true, and-false}
use mathlib.Core.List.{List, map}
use native.Mathlib.Omega.{arith}
use lib.ListN.{length, get_or, set, length-set}
use lib.Seq.{set_out, get_or-set_same}
use lib.Dec.{eqb, ltb}
use borrow.Author.Tests.{eqb-true, eqb-false, eq-eqb, ne_eqb, lt-ltb, le-ltb}
use Rattle.std.proofs.Common.{Option, Some, None, Result, Ok, Err, IfOk}
use Rattle.answer.specs.declared.Refusal.{Refusal}
use Rattle.answer.specs.Answer.{number_of, answer_of as number_given}
use Rattle.laws.specs.Lists.{any_of}
use Rattle.laws.proofs.Branches.{either}
use Rattle.page.specs.declared.Page.{Page}
use Rattle.page.specs.Page.{no_page, power_on_page}
use Rattle.page.specs.Causes.{ticked}
use Rattle.page.specs.Status.{any_status, supplies}
use Rattle.unpaged.specs.declared.Unpaged.{Unpaged}
use Rattle.unpaged.specs.Unpaged.{acts_on, every_page, refused, cml_bits, shown}
use Rattle.writes.specs.declared.asked.Write.{Write}
use Rattle.writes.specs.Asked.{asked}
use Rattle.writes.specs.Answers.{write_answer}
use Rattle.writes.specs.Left.{page_left}
use Rattle.reads.specs.Answers.{read_answer}
use Rattle.reads.specs.Reply.{reply_of}
use Rattle.device.specs.declared.Device.{Device}
use Rattle.device.specs.declared.Done.{Done}
use Rattle.device.specs.Device.{device}
use Rattle.device.specs.Step.{Call, write, read, measure, alert_response, tick, answer_of, answered, refused_device, step}
use Rattle.device.specs.Supply.{supplies_at}
use Rattle.device.specs.Touches.{touches}
use Rattle.device.proofs.States.{answered-of}
use Rattle.device.proofs.Refused.{device-stays, refusal-nonzero}
use Rattle.device.proofs.Calls.{stepped, read_left, valid_page_lem, one_small, measured-small}
use Rattle.lent.specs.declared.Outcome.{Outcome}
use Rattle.lent.specs.declared.turns.Turn.{Turn}
use Rattle.lent.specs.declared.turns.Sending.{Sending}
use Rattle.lent.specs.Every.{swept, rising}
use Rattle.lent.specs.Lent.{beside, outcome, refused_outcome, accepted_turn, write_turn, measure_turn, finished}
use Rattle.lent.proofs.Taken.{put_back_lem, supplies-taken}
use Rattle.lent.proofs.Judged.{judged_turn}
use Rattle.lent.proofs.Outcomes.{write_done, measure_done, tick_done}
use Rattle.records.specs.Records.{surveyed}
use Rattle.stream.specs.Stream.{eight_valid}
use Rattle.layout.specs.Form.{array, get_all, store_all, FitAll}
use Rattle.layout.specs.Layout.{unpaged_form, page_form, pages_in, page_wide, pages_from, size, unpaged_at}
use Rattle.layout.specs.State.{device_of}
use Rattle.layout.proofs.Laws.{page-back, array_back}
use Rattle.layout.proofs.Places.{read_back}
use Rattle.layout.proofs.Shapes.{Shape, shape_fits, got_shape}
use Rattle.layout.proofs.EightPages.{wide, page-set, page-length, page-shape}
use Rattle.layout.proofs.Decoded.{device-is, unpaged-of, pages_of}
use Rattle.buffer.specs.Buffer.{stores, store_pages, store_device}
use Rattle.buffer.specs.Private.{store_unpaged, every_stored, Held, Answers}
use Rattle.buffer.proofs.Rules.{left-shape}
use Rattle.buffer.proofs.Held.{all_seen, shown-taken}
use Rattle.buffer.proofs.Stored.{none-stored, every_stored_lem, one_at, refused_none}

-- an outcome beside pages, by its parts
module _ (d : Device) (c : Call) (r : Outcome) (zs : List Page) (e : beside r zs ≡ (step d c).done) where
  pub answer-is : r.answer ≡ (step d c).done.answer
  answer-is = ap (λ (x : Done). x.answer) e

  unpaged-is : r.unpaged ≡ (step d c).done.device.unpaged
  unpaged-is = ap (λ (x : Done). x.device.unpaged) e

  pages_are : zs ≡ (step d c).done.device.pages
  pages_are = ap (λ (x : Done). x.device.pages) e

  -- the unpaged part stored alone, and behind pages that are stored
  pub unpaged-stored : (s t : List ℕ) → t ≡ unpaged_form.store s unpaged_at r.unpaged → t ≡ store_unpaged s (step d c).done.device
  unpaged-stored s t f = f ∙ ap (unpaged_form.store s unpaged_at) unpaged-is

  pub device-stored : (s n t : List ℕ) → n ≡ store_pages (stores d c) s pages_from zs → t ≡ unpaged_form.store n unpaged_at r.unpaged
      → t ≡ store_device (stores d c) s (step d c).done.device
  unfolding store_device
  device-stored s n t f g =
      g ∙ ap₂ (λ (m : List ℕ) (u : Unpaged). unpaged_form.store m unpaged_at u) (f ∙ ap (store_pages (stores d c) s pages_from) pages_are) unpaged-is

-- what the rules of lent records say of eight valid pages, of the buffer's device
module _ (s : List ℕ) (h : Held s) (u : Unpaged) (eu : u ≡ unpaged_form.get s unpaged_at) where
  pub same_device : device u (pages_in s) ≡ device_of s
  same_device = ap (λ (v : Unpaged). device v (pages_in s)) eu ∙ sym (device-is s)

  -- an outcome that leaves every page
  pub kept-outcome : (c : Call) (r : Outcome) → ((ps : List Page) → eight_valid ≡ surveyed ps → beside r ps ≡ (step (device u ps) c).done)
      → beside r (pages_in s) ≡ (step (device_of s) c).done
  kept-outcome c r f = f (pages_in s) (all_seen s h) ∙ ap (λ (d : Device). (step d c).done) same_device

-- the pages that every page was stored over
pages_stored : (s : List ℕ) (l : List Page) → length s ≡ size → length l ≡ 8 → FitAll page_form l → pages_in (store_all page_form s pages_from l) ≡ l
pages_stored s l long eight fit = read_back (array 8 page_form) (array_back page_form page-back 8) s pages_from l (eight, fit) (rw wide (omega arith))

fit_map : (f : Page → Page) → ((x : Page) → Shape x → Shape (f x)) → (n : ℕ) (s : List ℕ) (o : ℕ) → FitAll page_form (map f (get_all page_form n s o))
fit_map f keeps zero s o = tt
fit_map f keeps (suc n) s o = (shape_fits _ (keeps _ (got_shape s o)), fit_map f keeps n s (o + page_form.width))

pub each-stored : (f : Page → Page) → ((x : Page) → Shape x → Shape (f x)) → (s : List ℕ) → length s ≡ size
    → pages_in (store_all page_form s pages_from (map f (pages_in s))) ≡ map f (pages_in s)
each-stored f keeps s long = pages_stored s (map f (pages_in s)) long refl (fit_map f keeps 8 s pages_from)

-- ---- one page put back, where the call is accepted

abbrev pub put_back : List ℕ → ℕ → ℕ → Page → List ℕ
put_back s a k q = cond (eqb a 0 && ltb k 8) (page_form.store s (pages_from + page_wide * k) q) s

-- the page that an accepted call touches alone
pub record Alone (d : Device) (c : Call) (k : ℕ) : Type 0 where
  pub small : k < 8
  pub this : touches d c k ≡ true
  pub others : (i : ℕ) → (i ≡ k → ⊥) → touches d c i ≡ false

module _ (s : List ℕ) (d : Device) (c : Call) (k : ℕ) (q : Page) where
  one_put_lem : answered d c ≡ 0 → Alone d c k → put_back s (answered d c) k q ≡ store_pages (stores d c) s pages_from (set (pages_in s) k q)
  unfolding stores
  one_put_lem z g =
      let y = eq-eqb (answered d c) 0 z in
      rw (y, lt-ltb k 8 g.small)
      (sym (one_at (stores d c) s (set (pages_in s) k q) k (rw (length-set (pages_in s) k q) g.small) (rw y g.this) (λ i m. rw y (g.others i m))
      ∙ ap (page_form.store s (pages_from + page_wide * k)) (get_or-set_same (pages_in s) k q no_page g.small)))

  none-put : (l : List Page) → (answered d c ≡ 0 → ⊥) → put_back s (answered d c) k q ≡ store_pages (stores d c) s pages_from l
  none-put l z = rw (ne_eqb (answered d c) 0 z) (sym (none-stored (stores d c) s pages_from l (refused_none d c z)))

answer-of : (d : Device) (c : Call) → (step d c).done.answer ≡ answered d c
unfolding step
answer-of d c = refl

-- ---- a measurement

module _ (s : List ℕ) (h : Held s) (u : Unpaged) (eu : u ≡ unpaged_form.get s unpaged_at) (k quantity word : ℕ) (p : Page) (t : Turn)
    (ep : p ≡ get_or (pages_in s) k power_on_page)
    (et : (ps : List Page) → eight_valid ≡ surveyed ps → t ≡ measure_turn u p (answered (device u ps) (measure k quantity word)) quantity word) where
  measured-beside : beside t.outcome (set (pages_in s) k t.page) ≡ (step (device_of s) (measure k quantity word)).done
  measured-beside =
      measure_done u (pages_in s) k quantity word p t ep (et (pages_in s) (all_seen s h))
      ∙ ap (λ (d : Device). (step d (measure k quantity word)).done) (same_device s h u eu)

  measured-alone : answered (device_of s) (measure k quantity word) ≡ 0 → Alone (device_of s) (measure k quantity word) k
  unfolding touches
  measured-alone z = record {
    small = rw (pages_of s) at (measured-small (device_of s) k quantity word z);
    this = eq-eqb k k refl;
    others = λ i m. ne_eqb k i (λ e. m (sym e));
  }

  pub measured-made : (m n : List ℕ) → m ≡ put_back s t.outcome.answer k t.page → n ≡ unpaged_form.store m unpaged_at t.outcome.unpaged
      → (t.outcome.answer ≡ (step (device_of s) (measure k quantity word)).done.answer)
      × (n ≡ store_device (stores (device_of s) (measure k quantity word)) s (step (device_of s) (measure k quantity word)).done.device)
  measured-made m n em en =
      let d = device_of s in
      let c = measure k quantity word in
      let a = answer-is d c t.outcome _ measured-beside in
      let e = em ∙ ap (λ (x : ℕ). put_back s x k t.page) (a ∙ answer-of d c) in (
        a,
        device-stored d c t.outcome _ measured-beside s m n
            (e ∙ either (eqb (answered d c) 0)
            (λ y. let z = eqb-true (answered d c) 0 y in one_put_lem s d c k t.page z (measured-alone z))
            (λ o. none-put s d c k t.page (set (pages_in s) k t.page) (eqb-false (answered d c) 0 o)))
            en,
      )

-- ---- a write

-- the buffer after the selected page was put back, and after every one was changed where that is still to be done
abbrev one_put : List ℕ → List ℕ → Unpaged → Turn → List ℕ
one_put s bytes u t = put_back s (answered (device_of s) (write bytes)) u.page t.page

abbrev all_put : List ℕ → List ℕ → Unpaged → Turn → List ℕ
all_put s bytes u t = every_stored (one_put s bytes u t) t.every

-- what is found of the pages then
record Found (s bytes : List ℕ) (u : Unpaged) (t : Turn) : Type 0 where
  back : pages_in (one_put s bytes u t) ≡ set (pages_in s) u.page t.page
  long : length (one_put s bytes u t) ≡ size
  whole : all_put s bytes u t ≡ store_pages (stores (device_of s) (write bytes)) s pages_from (pages_in (all_put s bytes u t))

module _ (s : List ℕ) (h : Held s) (u : Unpaged) (eu : u ≡ unpaged_form.get s unpaged_at) (bytes : List ℕ) (p : Page) (t : Turn)
    (ep : p ≡ get_or (pages_in s) u.page power_on_page) where
  found_refused : (answered (device_of s) (write bytes) ≡ 0 → ⊥) → t.page ≡ p → t.every ≡ None → Found s bytes u t
  found_refused z page off =
      let d = device_of s in
      let same : one_put s bytes u t ≡ s = rw (ne_eqb (answered d (write bytes)) 0 z) in
      let none : all_put s bytes u t ≡ s = ap (every_stored (one_put s bytes u t)) off ∙ same in
      record {
        back = ap pages_in same ∙ sym (ap (set (pages_in s) u.page) (page ∙ ep) ∙ put_back_lem power_on_page (pages_in s) u.page);
        long = ap length same ∙ h.long;
        whole = none ∙ sym (none-stored (stores d (write bytes)) s pages_from (pages_in (all_put s bytes u t)) (refused_none d (write bytes) z));
      }

  module _ (z : answered (device_of s) (write bytes) ≡ 0) (t_is : t ≡ accepted_turn u p (asked bytes)) where
    every_is : t.every ≡ cond (every_page u) (Some (asked bytes)) None
    unfolding accepted_turn
    every_is = ap (λ (x : Turn). x.every) t_is

    page-is : every_page u ≡ false → t.page ≡ page_left (asked bytes) p
    unfolding accepted_turn
    page-is one = ap (λ (x : Turn). x.page) t_is ∙ rw one

    acts : (i : ℕ) → stores (device_of s) (write bytes) i ≡ (eqb i u.page || every_page u)
    unfolding stores touches acts_on
    acts i = rw (eq-eqb (answered (device_of s) (write bytes)) 0 z, unpaged-of s ∙ sym eu)

    found_every : every_page u ≡ true → Found s bytes u t
    found_every y =
        let d = device_of s in
        let w = asked bytes in
        let far : 8 ≤ u.page = omega (arith, eqb-true u.page 0xFF y) in
        let same : one_put s bytes u t ≡ s = rw (le-ltb u.page 8 far, and-false (eqb (answered d (write bytes)) 0)) in
        let on : t.every ≡ Some w = every_is ∙ rw y in
        let all : all_put s bytes u t ≡ store_all page_form s pages_from (map (page_left w) (pages_in s)) =
        ap₂ every_stored same on in
        record {
          back = ap pages_in same ∙ sym (set_out (pages_in s) u.page t.page far);
          long = ap length same ∙ h.long;
          whole = all ∙ ap (store_all page_form s pages_from) (sym (each-stored (page_left w) (left-shape w) s h.long) ∙ ap pages_in (sym all))
              ∙ sym (every_stored_lem (stores d (write bytes)) s pages_from (pages_in (all_put s bytes u t)) (λ i. acts i ∙ rw (y, or-true (eqb i u.page))));
        }

    found_one : every_page u ≡ false → Found s bytes u t
    unfolding touches acts_on
    found_one one =
        let d = device_of s in
        let k = u.page in
        let small : k < 8 = rw (unpaged-of s ∙ sym eu, pages_of s) at (one_small d (valid_page_lem d h.valid) (ap every_page (unpaged-of s ∙ sym eu) ∙ one)) in
        let shape : Shape t.page = rw (page-is one, ep) (left-shape (asked bytes) _ (page-shape s k power_on_page small)) in
        let same : one_put s bytes u t ≡ page_form.store s (pages_from + page_wide * k) t.page = rw (eq-eqb (answered d (write bytes)) 0 z, lt-ltb k 8 small) in
        let off : t.every ≡ None = every_is ∙ rw one in
        let back : pages_in (one_put s bytes u t) ≡ set (pages_in s) k t.page = ap pages_in same ∙ page-set s k small h.long t.page shape in
        let all : all_put s bytes u t ≡ one_put s bytes u t = ap (every_stored (one_put s bytes u t)) off in
        record {
          back = back;
          long = ap length same ∙ page-length s k small h.long t.page shape;
          whole = all ∙ one_put_lem s d (write bytes) k t.page z (record {
            small = small;
            this = rw (unpaged-of s ∙ sym eu, eq-eqb k k refl);
            others = λ i m. rw (unpaged-of s ∙ sym eu, ne_eqb i k m, one);
          })
              ∙ ap (store_pages (stores d (write bytes)) s pages_from) (sym (ap pages_in all ∙ back));
        }

  -- of a write that asks for something, and of one that is refused
  found : (j : Result Write Refusal) → number_given j ≡ answered (device_of s) (write bytes) → IfOk j (λ w. w ≡ asked bytes) → t ≡ write_turn u p j → Found s bytes u t
  unfolding write_turn
  found (Ok w) ej ew et =
      let t_is : t ≡ accepted_turn u p (asked bytes) = et ∙ ap (accepted_turn u p) ew in
      either (every_page u) (found_every (sym ej) t_is) (found_one (sym ej) t_is)
  found (Err r) ej ew et =
      found_refused (λ z. eqb-false (number_of r) 0 (refusal-nonzero r) (ej ∙ z)) (ap (λ (x : Turn). x.page) et) (ap (λ (x : Turn). x.every) et)

  answer-given : (j : Result Write Refusal) → number_given j ≡ answered (device_of s) (write bytes) → t ≡ write_turn u p j → t.outcome.answer ≡ answered (device_of s) (write bytes)
  unfolding write_turn accepted_turn refused_outcome
  answer-given (Ok w) ej et = ap (λ (x : Turn). x.outcome.answer) et ∙ ej
  answer-given (Err r) ej et = ap (λ (x : Turn). x.outcome.answer) et ∙ ej

-- the pages after every one was changed, where that is still to be done
swept-in : (m : List ℕ) → length m ≡ size → (e : Option Write) → pages_in (every_stored m e) ≡ swept e (pages_in m)
swept-in m long None = refl
swept-in m long (Some w) = each-stored (page_left w) (left-shape w) m long

-- the line of calls that ends a write
module _ (s : List ℕ) (h : Held s) (u : Unpaged) (eu : u ≡ unpaged_form.get s unpaged_at) (bytes : List ℕ) (p : Page) (j : Result Write Refusal) (t : Turn) (m n : List ℕ) (rose standing : Bool) (o : Outcome)
    (ep : p ≡ get_or (pages_in s) u.page power_on_page)
    (given : number_given j ≡ write_answer 8 u bytes)
    (ew : IfOk j (λ w. w ≡ asked bytes))
    (et : t ≡ write_turn u p j)
    (em : m ≡ put_back s t.outcome.answer u.page t.page)
    (er : rose ≡ rising t.every (pages_in m))
    (en : n ≡ every_stored m t.every)
    (es : standing ≡ (t.clears && any_of any_status (pages_in n)))
    (eo : o ≡ finished t.outcome t.clears rose standing) where
  ej : number_given j ≡ answered (device_of s) (write bytes)
  unfolding answer_of
  ej = given ∙ rw (answered-of (device_of s) (write bytes) h.valid, unpaged-of s, pages_of s, eu)

  m_is : m ≡ one_put s bytes u t
  m_is = em ∙ ap (λ (x : ℕ). put_back s x u.page t.page) (answer-given s h u eu bytes p t ep j ej et)

  n_is : n ≡ all_put s bytes u t
  n_is = en ∙ ap (λ (x : List ℕ). every_stored x t.every) m_is

  seen : Found s bytes u t
  seen = found s h u eu bytes p t ep j ej ew et

  written-beside : beside o (pages_in n) ≡ (step (device_of s) (write bytes)).done
  written-beside =
      let same = same_device s h u eu in
      ap (λ (x : Outcome). beside x (pages_in n)) eo
      ∙ write_done u (pages_in s) bytes p (asked bytes) t (pages_in m) (pages_in n) rose standing ep (λ z. refl)
      (et ∙ judged_turn u p j _ (asked bytes) (ej ∙ ap (λ (d : Device). answered d (write bytes)) (sym same)) ew)
      (ap pages_in m_is ∙ seen.back) er (ap pages_in en ∙ swept-in m (ap length m_is ∙ seen.long) t.every) es
      ∙ ap (λ (d : Device). (step d (write bytes)).done) same

  pub written-made : (r : List ℕ) → r ≡ unpaged_form.store n unpaged_at o.unpaged
      → (o.answer ≡ (step (device_of s) (write bytes)).done.answer)
      × (r ≡ store_device (stores (device_of s) (write bytes)) s (step (device_of s) (write bytes)).done.device)
  written-made r e = (
    answer-is (device_of s) (write bytes) o (pages_in n) written-beside,
    device-stored (device_of s) (write bytes) o (pages_in n) written-beside s n r
        (n_is ∙ seen.whole ∙ ap (store_pages (stores (device_of s) (write bytes)) s pages_from) (ap pages_in (sym n_is))) e,
  )

-- ---- a tick

pub ticked-made : (s : List ℕ) → Held s → (u : Unpaged) → u ≡ unpaged_form.get s unpaged_at → (m n : List ℕ)
    → m ≡ store_all page_form s pages_from (map ticked (pages_in s)) → n ≡ unpaged_form.store m unpaged_at u
    → (0 ≡ (step (device_of s) tick).done.answer) × (n ≡ store_device (stores (device_of s) tick) s (step (device_of s) tick).done.device)
unfolding stores touches answer_of
ticked-made s h u eu m n em en =
    let d = device_of s in
    let zero-answer : answered d tick ≡ 0 = answered-of d tick h.valid in
    let same = same_device s h u eu in
    let z : answered (device u (pages_in s)) tick ≡ 0 = ap (λ (x : Device). answered x tick) same ∙ zero-answer in
    let after : beside (outcome u 0) (map ticked (pages_in s)) ≡ (step d tick).done =
    ap (λ (a : ℕ). beside (outcome u a) (map ticked (pages_in s))) (sym z) ∙ tick_done u (pages_in s) z ∙ ap (λ (x : Device). (step x tick).done) same in (
      answer-is d tick (outcome u 0) _ after,
      device-stored d tick (outcome u 0) _ after s m n
          (em ∙ sym (every_stored_lem (stores d tick) s pages_from (map ticked (pages_in s)) (λ i. rw (eq-eqb (answered d tick) 0 zero-answer)))) en,
    )

-- ---- a read, and nothing orderly

pub refused-made : (s : List ℕ) → Held s → (u v : Unpaged) (a : ℕ) (t : List ℕ) → u ≡ unpaged_form.get s unpaged_at → v ≡ refused u a → t ≡ unpaged_form.store s unpaged_at v
    → t ≡ store_unpaged s (refused_device (device_of s) a)
unfolding refused_device
refused-made s h u v a t eu ev et = et ∙ ap (unpaged_form.store s unpaged_at) (ev ∙ ap (λ (x : Unpaged). refused x a) (eu ∙ sym (unpaged-of s)))

module _ (s : List ℕ) (h : Held s) (u : Unpaged) (eu : u ≡ unpaged_form.get s unpaged_at) (header : List ℕ) (n a : ℕ)
    (i : ℕ) (ei : i ≡ shown u) (p : Page) (ep : p ≡ get_or (pages_in s) i power_on_page) (ea : a ≡ read_answer u p header n) where
  read_answered : a ≡ answered (device_of s) (read header n)
  unfolding answer_of
  read_answered =
      ea ∙ ap₂ (λ (x : Unpaged) (q : Page). read_answer x q header n) (eu ∙ sym (unpaged-of s)) (shown-taken s h u eu i ei p ep) ∙ sym (answered-of (device_of s) (read header n) h.valid)

  pub read_made : (t : List ℕ) → t ≡ store_unpaged s (refused_device (device_of s) a)
      → (a ≡ (step (device_of s) (read header n)).done.answer) × (t ≡ store_unpaged s (step (device_of s) (read header n)).done.device)
  read_made t et =
      let r = stepped (device_of s) (read header n) (refused_device (device_of s) a) a read_answered (read_left (device_of s) header n a) in
      (ap (λ (x : Done). x.answer) r, et ∙ ap (λ (x : Done). store_unpaged s x.device) r)

pub disorder-made : (s t : List ℕ) → t ≡ store_unpaged s (refused_device (device_of s) 2) → t ≡ store_unpaged s (device_of s)
unfolding cml_bits
disorder-made s t e = e ∙ ap (store_unpaged s) (device-stays (device_of s) 2 refl)

-- ---- an alert response

pub alert_made : (s : List ℕ) → Held s → (u : Unpaged) → u ≡ unpaged_form.get s unpaged_at → (n : ℕ) (t : Sending)
    → ((ps : List Page) → eight_valid ≡ surveyed ps
    → (beside t.outcome ps ≡ (step (device u ps) (alert_response n)).done) × (reply_of t.stream n ≡ (step (device u ps) (alert_response n)).reply))
    → Answers s (alert_response n) t
alert_made s h u eu n t f =
    let both = f (pages_in s) (all_seen s h) in
    let same = same_device s h u eu in
    record {
      left = ap (λ (ps : List Page). beside t.outcome ps) (pages_of s) ∙ both.0 ∙ ap (λ (d : Device). (step d (alert_response n)).done) same;
      sends = both.1 ∙ ap (λ (d : Device). (step d (alert_response n)).reply) same;
    }

-- ---- what supplies

pub supplies-at : (s : List ℕ) (i : ℕ) → supplies (get_or (pages_in s) i power_on_page) ≡ supplies_at (device_of s).pages i
unfolding supplies_at
supplies-at s i = supplies-taken (pages_in s) i ∙ chosen (ltb i 8) (supplies (get_or (pages_in s) i no_page)) ∙ ap (λ (l : List Page). supplies_at l i) (sym (pages_of s))
  where
    chosen : (a b : Bool) → (a && b) ≡ cond a b false
    chosen true b = refl
    chosen false b = refl
