-- Other calls between the events of a transaction.
-- Assumes nothing.
use Prim.Native.Nat.{ℕ, zero, suc}
use mathlib.Core.Path.{◌≡◌, refl, sym, ap, ◌∙◌}
use mathlib.Core.Bool.{Bool, true, and-eq-true_iff}
use mathlib.Core.List.{List, [], ◌∷◌, ◌++◌}
use lib.Dec.{eqb}
use lib.ListN.{length, get_or}
use Rattle.laws.specs.Lists.{map_at}
use Rattle.laws.proofs.Branches.{either}
use Rattle.bus.specs.Part.{part_valid}
use Rattle.page.specs.declared.Page.{Page}
use Rattle.page.specs.Page.{no_page}
use Rattle.page.specs.Causes.{settled, ticked, moved, raised}
use Rattle.page.specs.Settings.{set_measurement}
use Rattle.unpaged.specs.declared.Unpaged.{Unpaged}
use Rattle.unpaged.specs.Unpaged.{refused, shown}
use Rattle.writes.specs.Answers.{data_answer, length_answer, code_answer, addressed_answer, write_answer}
use Rattle.reads.specs.Request.{request_of}
use Rattle.reads.specs.Answers.{read_answer}
use Rattle.reads.proofs.Requests.{answer-same}
use Rattle.device.specs.declared.Device.{Device}
use Rattle.device.specs.declared.Done.{Done}
use Rattle.device.specs.Device.{device_valid, page_of, page_shown, alert_risen}
use Rattle.device.specs.Step.{Call, write, read, measure, sample, alert_response, tick, answer_of, answered, effect, measured, ticked_device, refused_device, step}
use Rattle.device.proofs.Touches.{measured-pages, ticked-pages}
use Rattle.history.specs.Run.{next, answer}
use Rattle.history.proofs.Outcomes.{done_next, refused-next, by_answer}
use Rattle.history.proofs.Runs.{same_length}
use Rattle.history.proofs.Valid.{valid_after}
use Rattle.stream.specs.Stream.{state_valid}
use Rattle.stream.specs.Between.{Mixed, put, aside, puts, later}
use Rattle.stream.proofs.Fold.{Stays, Steady, fifteen-left, write_between, read_between, sent-between, first_between, second_between}
use Rattle.traffic.specs.Traffic.{Between, Others, at_second, WritesBetween, ReadsBetween, AcksBetween}

-- ---- every call leaves a valid state valid, and another as it was

pub all_stay : (c : Call) → Stays c
unfolding Stays
all_stay c d =
    either (device_valid d) (λ v. valid_after d c v ∙ sym v)
    (λ v. ap (λ (r : Done). device_valid r.device) (fifteen-left d c v))

steady : (l : List Mixed) → Steady l
steady [] = tt
steady (put b ∷ l) = steady l
steady (aside c ∷ l) = (all_stay c, steady l)

-- ---- the calls between leave what an answer depends on

record Same (d e : Device) : Type 0 where
  number : length e.pages ≡ length d.pages
  valid : device_valid e ≡ device_valid d
  page : e.unpaged.page ≡ d.unpaged.page
  protect : e.unpaged.protect ≡ d.unpaged.protect
  formats : (i : ℕ) → (page_of e i).formats ≡ (page_of d i).formats

record Kept (u v : Unpaged) : Type 0 where
  page : v.page ≡ u.page
  protect : v.protect ≡ u.protect

refused-kept : (d : Device) (a : ℕ) → Kept d.unpaged (refused_device d a).unpaged
unfolding refused_device refused
refused-kept d a = record { page = refl; protect = refl }

effect-kept : (d : Device) (c : Call) → Between c → Kept d.unpaged (effect d c).unpaged
unfolding effect measured alert_risen ticked_device
effect-kept d (write s) h = absurd h
effect-kept d (read header n) h = absurd h
effect-kept d (measure page quantity word) h = record { page = refl; protect = refl }
effect-kept d (sample n) h = record { page = refl; protect = refl }
effect-kept d (alert_response n) h = record { page = refl; protect = refl }
effect-kept d tick h = record { page = refl; protect = refl }

next-kept : (d : Device) (c : Call) → Between c → Kept d.unpaged (next d c).unpaged
next-kept d c h =
    by_answer d c (λ z. rw (done_next d c z) (effect-kept d c h)) (λ r. rw (refused-next d c r) (refused-kept d (answer d c)))

-- no call between changes a format
mapped_formats : (t : ℕ → Bool) (f : Page → Page) → ((p : Page) → (f p).formats ≡ p.formats) → (l : List Page) (i : ℕ)
    → (get_or (map_at t f l) i no_page).formats ≡ (get_or l i no_page).formats
mapped_formats t f k [] i = refl
mapped_formats t f k (p ∷ l) zero = either (t 0) (λ y. rw y (k p)) (λ n. rw n)
mapped_formats t f k (p ∷ l) (suc i) = mapped_formats (λ i. t (suc i)) f k l i

settled-formats : (p : Page) → (settled p).formats ≡ p.formats
unfolding settled moved raised
settled-formats p = refl

measured-formats : (q w : ℕ) (p : Page) → (settled (set_measurement p q w)).formats ≡ p.formats
unfolding set_measurement
measured-formats q w p = settled-formats (set_measurement p q w)

ticked-formats : (p : Page) → (ticked p).formats ≡ p.formats
unfolding ticked moved
ticked-formats p = refl

effect-formats : (d : Device) (c : Call) → Between c → (i : ℕ) → (page_of (effect d c) i).formats ≡ (page_of d i).formats
unfolding effect
effect-formats d (write s) h i = absurd h
effect-formats d (read header n) h i = absurd h
effect-formats d (measure page quantity word) h i =
    rw (measured-pages d page quantity word)
    (mapped_formats (eqb page) (λ p. settled (set_measurement p quantity word)) (measured-formats quantity word) d.pages i)
effect-formats d (sample n) h i = refl
effect-formats d (alert_response n) h i = refl
effect-formats d tick h i = rw (ticked-pages d) (mapped_formats (λ i. true) ticked ticked-formats d.pages i)

next-formats : (d : Device) (c : Call) → Between c → (i : ℕ) → (page_of (next d c) i).formats ≡ (page_of d i).formats
unfolding refused_device
next-formats d c h i = by_answer d c (λ z. rw (done_next d c z) (effect-formats d c h i)) (λ r. rw (refused-next d c r))

later_same : (l : List Mixed) (d : Device) → Others l → Same d (later d l)
unfolding Stays
later_same [] d h = record { number = refl; valid = refl; page = refl; protect = refl; formats = λ i. refl }
later_same (put b ∷ l) d h = later_same l d h
later_same (aside c ∷ l) d h =
    let k = next-kept d c h.0 in
    let r = later_same l (next d c) h.1 in
    record {
      number = r.number ∙ same_length d c;
      valid = r.valid ∙ all_stay c d;
      page = r.page ∙ k.page;
      protect = r.protect ∙ k.protect;
      formats = λ i. r.formats i ∙ next-formats d c h.0 i;
    }

joined : (d e f : Device) → Same d e → Same e f → Same d f
joined d e f a b = record {
  number = b.number ∙ a.number;
  valid = b.valid ∙ a.valid;
  page = b.page ∙ a.page;
  protect = b.protect ∙ a.protect;
  formats = λ i. b.formats i ∙ a.formats i;
}

-- ---- so the answer is the same

write_same : (n : ℕ) (u v : Unpaged) (s : List ℕ) → v.protect ≡ u.protect → write_answer n v s ≡ write_answer n u s
unfolding write_answer addressed_answer code_answer length_answer data_answer
write_same n u v s e = rw e

read_same : (u v : Unpaged) (p q : Page) (header : List ℕ) (n : ℕ) → v.page ≡ u.page → q.formats ≡ p.formats
    → read_answer v q header n ≡ read_answer u p header n
unfolding read_answer
read_same u v p q header n e f = answer-same v u q p (request_of header) n (ap (λ (x : ℕ). eqb x 0xFF) e) f

module _ (d e : Device) (k : Same d e) where
  write_answer_lem : (s : List ℕ) → (step e (write s)).done.answer ≡ (step d (write s)).done.answer
  unfolding step answered answer_of
  write_answer_lem s = rw (k.valid, k.number, write_same (length d.pages) d.unpaged e.unpaged s k.protect)

  -- the page shown has the same formats
  shown-formats : (page_shown e).formats ≡ (page_shown d).formats
  unfolding shown
  shown-formats = rw k.page (k.formats _)

  read_answer_lem : (header : List ℕ) (n : ℕ) → (step e (read header n)).done.answer ≡ (step d (read header n)).done.answer
  unfolding step answered answer_of
  read_answer_lem header n = rw (k.valid, read_same d.unpaged e.unpaged (page_shown d) (page_shown e) header n k.page shown-formats)

-- ---- the claims

pub writes_between : WritesBetween
unfolding WritesBetween
writes_between s l v h =
    let e = write_between s v l (steady l) in
    record {
      falls = e;
      answer = ap (λ (r : Done). r.answer) e ∙ write_answer_lem s.device (later s.device l) (later_same l s.device h) (puts l);
    }

pub reads_between : ReadsBetween
unfolding ReadsBetween
reads_between s l m b k v hl hm hk none =
    let d = s.device in
    let e = read_between s v l (steady l) m (steady m) none b k (steady k) in
    let second = joined d (later d l) (at_second d l m) (later_same l d hl) (later_same m (later d l) hm) in
    let last = joined d (at_second d l m) (later (at_second d l m) k) second (later_same k (at_second d l m) hk) in
    record {
      falls = e;
      answer = ap (λ (r : Done). r.answer) e ∙ read_answer_lem d (later (at_second d l m) k) last (puts l ++ b ∷ []) (length (puts k));
      reply = sent-between s v l (steady l) m (steady m) none b k (steady k);
    }

pub acks_between : AcksBetween
unfolding AcksBetween state_valid
acks_between s l m b v hl hm none =
    let both = (and-eq-true_iff (part_valid s.part) (device_valid s.device)).0 v in
    (first_between s both.0 l (steady l) b both.1, second_between s both.0 l (steady l) m (steady m) none b both.1)
