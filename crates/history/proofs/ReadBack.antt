-- What was written is read back, and what was measured, after every run.
-- Assumes nothing.
use Prim.Native.Nat.{ℕ, zero, suc, ◌<◌, ◌+◌}
use mathlib.Core.Path.{◌≡◌, refl, sym, ap, ◌∙◌}
use mathlib.Core.Bool.{Bool, true, false, cond, not, ◌&&◌, ◌||◌, and-false, or-true, and-eq-true_iff, false≢true}
use mathlib.Core.List.{List, [], ◌∷◌, map}
use native.Mathlib.Omega.{arith}
use lib.Dec.{eqb, ltb, leb, ltb→lt}
use lib.ListN.{length, get_or}
use borrow.Author.Tests.{eqb-true, eq-eqb, ne_eqb, le-ltb, ltb-true}
use Rattle.laws.specs.Lists.{Bytes, any_of}
use Rattle.laws.proofs.Branches.{either}
use Rattle.laws.proofs.Every.{each, agree-test}
use Rattle.cause.specs.Causes.{read_codes}
use Rattle.command.specs.declared.meaning.Command.TheVariants.{Reading}
use Rattle.command.specs.Table.{table, entry_of, lookup}
use Rattle.command.specs.Meaning.{command_of, reading_of}
use Rattle.command.specs.Paged.{paged}
use Rattle.page.specs.declared.Page.{Page}
use Rattle.page.specs.Choice.{usual_page, chosen_page}
use Rattle.page.specs.Status.{reading}
use Rattle.page.specs.PowerOn.{PowerOnQuiet}
use Rattle.page.proofs.Chosen.{chosen_reading}
use Rattle.page.proofs.PowerOn.{power_on-quiet}
use Rattle.unpaged.specs.declared.Unpaged.{Unpaged}
use Rattle.unpaged.specs.Unpaged.{every_page, acts_on, shown, power_on_unpaged}
use Rattle.writes.specs.Accepted.{code_of}
use Rattle.reads.specs.Request.{plain_of, addressed_of, request_of}
use Rattle.reads.specs.Answers.{data_answer, request_answer, read_answer}
use Rattle.reads.specs.Data.{word_bytes, read_data}
use Rattle.reads.proofs.Replies.{replies_follow}
use Rattle.device.specs.declared.Device.{Device}
use Rattle.device.specs.Device.{Choice, number_of, choice_at, supported, power_on, device_valid, page_of, page_shown}
use Rattle.device.specs.Step.{Call, write, read, answer_of, sent, step}
use Rattle.device.proofs.States.{answered-of}
use Rattle.device.proofs.PowerOn.{powered, powered-sized, granted-number}
use Rattle.history.specs.Run.{next, answer, run, reached}
use Rattle.history.specs.Valid.{ReachedValid}
use Rattle.history.specs.ReadBack.{latest, OnBus, AllOnBus, Reads, stored, stored_at, starts_as, StoredCodes, is_unpaged, stores, written_data, WrittenBack, WriteThenRead, measures, measured_word, MeasuredBack}
use Rattle.history.proofs.Runs.{kept-in_runs, same_length}
use Rattle.history.proofs.Valid.{valid_after, reached-valid}
use Rattle.history.proofs.Effects.{page-after-write}
use Rattle.history.proofs.Measured.{WordField, reading-field, mark-field}
use Rattle.history.proofs.Stored.{PageField, DeviceField, Field, on_page, on_device, Row, each_at, rows}
use Rattle.history.proofs.StoredSteps.{AllSized, sized_after, page-steps, word-steps, device-steps}

-- ---- a read of a code that may be read replies with its data

-- a page is read where one is selected
pub open_for : (u : Unpaged) (code i n : ℕ) → supported n ≡ true → i < n → (is_unpaged code || eqb u.page i) ≡ true → (every_page u && paged code) ≡ false
unfolding supported paged
open_for u code i n ok small h =
    either (is_unpaged code)
    (λ y. either (eqb code 0x00) (λ z. rw z (and-false (every_page u)))
    (λ z. let w : eqb code 0x10 ≡ true = rw z at y in rw (z, w) (and-false (every_page u))))
    (λ z. let there : u.page ≡ i = eqb-true u.page i (rw z at h) in
    let few = ltb-true n 97 ((and-eq-true_iff (ltb 0 n) (ltb n 97)).0 ok).1 in
    rw (ne_eqb u.page 0xFF (λ e. omega arith)))

-- and it is the page shown
pub shows : (u : Unpaged) (i n : ℕ) → supported n ≡ true → i < n → u.page ≡ i → shown u ≡ i
unfolding supported shown
shows u i n ok small there =
    let few = ltb-true n 97 ((and-eq-true_iff (ltb 0 n) (ltb n 97)).0 ok).1 in
    rw (ne_eqb u.page 0xFF (λ e. omega arith)) there

module _ (d : Device) (v : device_valid d ≡ true) (code : ℕ) (small : code < 256) (readable : (lookup code).read ≡ true) (one : (every_page d.unpaged && paged code) ≡ false) where
  abbrev c : Call
  c = read (0xC0 ∷ code ∷ 0xC1 ∷ []) (lookup code).length

  answers : read_answer d.unpaged (page_shown d) (0xC0 ∷ code ∷ 0xC1 ∷ []) (lookup code).length ≡ 0
  unfolding read_answer request_of addressed_of plain_of request_answer data_answer
  answers =
      let k = (lookup code).length in
      rw (readable, one, le-ltb k k (omega arith), le-ltb (k + 1) k (omega arith))

  read_answer_lem : answer d c ≡ 0
  unfolding step answer_of
  read_answer_lem = answered-of d c v ∙ answers

  read_reply : (step d c).reply ≡ read_data d.unpaged (page_shown d) (command_of code)
  unfolding step answer_of sent
  read_reply =
      rw (answered-of d c v)
      ((replies_follow.of_code d.unpaged (page_shown d) code (lookup code).length small readable).plain answers refl)

  pub reads_data : (bytes : List ℕ) → read_data d.unpaged (page_shown d) (command_of code) ≡ bytes → Reads d code bytes
  reads_data bytes e = record { accepted = read_answer_lem; reply = read_reply ∙ e }

-- ---- runs

-- a view of the state that each call changes to what it gave, where it passes the test, is after a run what the latest such call gave
module _ {A : Type 0} (test : Device → Call → Bool) (given : Call → A) (view : Device → A) (Inv : Device → Type 0) (keeps : (d : Device) (c : Call) → Inv d → Inv (next d c)) where
  on_bus_latest : ((d : Device) (c : Call) → Inv d → OnBus c → view (next d c) ≡ cond (test d c) (given c) (view d))
      → (d : Device) (cs : List Call) → Inv d → AllOnBus cs → view (run d cs) ≡ latest test given d cs (view d)
  unfolding latest run AllOnBus
  on_bus_latest steps d [] inv b = refl
  on_bus_latest steps d (c ∷ cs) inv b =
      on_bus_latest steps (next d c) cs (keeps d c inv) b.1
      ∙ ap (latest test given (next d c) cs) (steps d c inv b.0)

  all_latest : ((d : Device) (c : Call) → Inv d → view (next d c) ≡ cond (test d c) (given c) (view d))
      → (d : Device) (cs : List Call) → Inv d → view (run d cs) ≡ latest test given d cs (view d)
  unfolding latest run
  all_latest steps d [] inv = refl
  all_latest steps d (c ∷ cs) inv =
      all_latest steps (next d c) cs (keeps d c inv) ∙ ap (latest test given (next d c) cs) (steps d c inv)

record Kept (n : ℕ) (d : Device) : Type 0 where
  whole : length d.pages ≡ n
  sized : AllSized d

kept-after : (n : ℕ) (d : Device) (c : Call) → Kept n d → Kept n (next d c)
kept-after n d c k = record { whole = same_length d c ∙ k.whole; sized = sized_after d c k.sized }

powered-kept : (x : Choice) → Kept (number_of x) (power_on x)
powered-kept x =
    let w = (powered x).whole in
    record { whole = w; sized = record { at = λ i h. powered-sized x i (rw w at h) } }

module _ (x : Choice) (cs : List Call) (i : ℕ) (small : i < number_of x) where
  abbrev n : ℕ
  n = number_of x

  abbrev d : Device
  d = reached x cs

  pub stored-page : (code : ℕ) (f : PageField code) → AllOnBus cs
      → f.get (page_of d i) ≡ latest (stores i code) written_data (power_on x) cs (f.get (chosen_page (choice_at x i)))
  stored-page code f b =
      on_bus_latest (stores i code) written_data (λ (e : Device). f.get (page_of e i)) (Kept n) (kept-after n)
      (λ e c k o. page-steps e k.sized i (rw k.whole small) code f c o) (power_on x) cs (powered-kept x) b
      ∙ ap (λ (p : Page). latest (stores i code) written_data (power_on x) cs (f.get p)) ((powered x).page i small)

  stored-device : (code : ℕ) (f : DeviceField code)
      → f.get d.unpaged.page d.unpaged.protect
      ≡ latest (stores i code) written_data (power_on x) cs (f.get 0 0)
  stored-device code f =
      all_latest (stores i code) written_data (λ (e : Device). f.get e.unpaged.page e.unpaged.protect) (λ e. Unit) (λ e c k. tt)
      (λ e c k. device-steps e i code f c) (power_on x) cs tt
      ∙ rw ((powered x).selected, (powered x).protect)

  measured-field : {A : Type 0} (q : ℕ) (f : WordField q A)
      → f.get (page_of d i) ≡ latest (measures i q) (λ c. f.given (measured_word c)) (power_on x) cs (f.get (chosen_page (choice_at x i)))
  measured-field q f =
      all_latest (measures i q) (λ c. f.given (measured_word c)) (λ (e : Device). f.get (page_of e i)) (Kept n) (kept-after n)
      (λ e c k. word-steps e k.sized i (rw k.whole small) q f c) (power_on x) cs (powered-kept x)
      ∙ ap (λ (p : Page). latest (measures i q) (λ c. f.given (measured_word c)) (power_on x) cs (f.get p)) ((powered x).page i small)

  module _ (q : ℕ) (few : q < 4) where
    pub measured-word : reading (page_of d i) q ≡ latest (measures i q) measured_word (power_on x) cs 0
    measured-word =
        measured-field q (reading-field q few) ∙ ap (latest (measures i q) measured_word (power_on x) cs) (chosen_reading (choice_at x i) q few)

    pub ever_measured_lem : get_or (page_of d i).measured q false ≡ latest (measures i q) (λ c. true) (power_on x) cs false
    unfolding PowerOnQuiet
    ever_measured_lem =
        measured-field q (mark-field q few)
        ∙ ap (latest (measures i q) (λ c. true) (power_on x) cs) ((power_on-quiet (choice_at x i)).unmeasured q few)

-- ---- the claims

pub stored-codes : StoredCodes
unfolding StoredCodes lookup table entry_of
stored-codes c h =
    agree-test (λ c. (lookup c).written && (lookup c).read && not (leb 0x7A c && leb c 0x7E)) (λ c. any_of (eqb c) (map (λ r. r.0) stored)) 256 tt c h

module _ (m : ℕ) (h : m < length stored) where
  stored-byte : (stored_at m).0 < 256
  stored-byte = ltb→lt (stored_at m).0 256 (each (λ m. ltb (stored_at m).0 256) 21 tt m h)

  stored-read : (lookup (stored_at m).0).read ≡ true
  unfolding lookup table entry_of
  stored-read = agree-test (λ m. (lookup (stored_at m).0).read) (λ m. true) 21 tt m h

module _ (x : Choice) (cs : List Call) (i : ℕ) (b : AllOnBus cs) (ok : supported (number_of x) ≡ true) (small : i < number_of x) (code : ℕ) (start : List ℕ) where
  abbrev after : Device
  after = reached x cs

  abbrev at_start : Page
  at_start = chosen_page (choice_at x i)

  abbrev due : List ℕ
  due = latest (stores i code) written_data (power_on x) cs start

  reads_field : Field code → read_data power_on_unpaged at_start (command_of code) ≡ start → (is_unpaged code || eqb after.unpaged.page i) ≡ true
      → read_data after.unpaged (page_shown after) (command_of code) ≡ due
  unfolding power_on_unpaged
  reads_field (on_page f) e selected =
      let there : after.unpaged.page ≡ i = eqb-true after.unpaged.page i (rw f.paged at selected) in
      f.shown after.unpaged (page_shown after)
      ∙ ap (λ (j : ℕ). f.get (page_of after j)) (shows after.unpaged i (number_of x) ok small there) ∙ stored-page x cs i small code f b
      ∙ ap (latest (stores i code) written_data (power_on x) cs) (sym (f.shown power_on_unpaged at_start) ∙ e)
  reads_field (on_device f) e selected =
      f.shown after.unpaged (page_shown after) ∙ stored-device x cs i small code f
      ∙ ap (latest (stores i code) written_data (power_on x) cs) (sym (f.shown power_on_unpaged at_start) ∙ e)

pub written_back : WrittenBack
unfolding WrittenBack ReachedValid
written_back x cs i m ok b small h selected =
    let c = choice_at x i in
    let r = each_at (Row c) (0x00, []) stored (rows c) m h in
    reads_data (reached x cs) (reached-valid x cs ok) (stored_at m).0 (stored-byte m h) (stored-read m h)
    (open_for (reached x cs).unpaged (stored_at m).0 i (number_of x) (granted-number x ok) small selected)
    (latest (stores i (stored_at m).0) written_data (power_on x) cs (starts_as c (stored_at m)))
    (reads_field x cs i b (granted-number x ok) small (stored_at m).0 (starts_as c (stored_at m)) r.field r.powered selected)

-- right after a write
module _ (d : Device) (s : List ℕ) (z : answer d (write s) ≡ 0) (code : ℕ) (same : code_of s ≡ code) where
  abbrev e : Device
  e = next d (write s)

  stores-it : stores d.unpaged.page code d (write s) ≡ true
  unfolding stores acts_on
  stores-it = rw (eq-eqb (answer d (write s)) 0 z, eq-eqb (code_of s) code same, eq-eqb d.unpaged.page d.unpaged.page refl) (or-true (is_unpaged code))

  same_page : is_unpaged code ≡ false → e.unpaged.page ≡ d.unpaged.page
  same_page p =
      page-after-write d s z
      ∙ rw (same, either (eqb code 0x00) (λ y. absurd (false≢true (sym p ∙ rw y))) (λ n. n))

  selected_still : (is_unpaged code || eqb e.unpaged.page d.unpaged.page) ≡ true
  selected_still =
      either (is_unpaged code) (λ y. rw y)
      (λ n. rw n (eq-eqb e.unpaged.page d.unpaged.page (same_page n)))

  reads_it : Field code → AllSized d → supported (length d.pages) ≡ true → d.unpaged.page < length d.pages → Bytes s
      → read_data e.unpaged (page_shown e) (command_of code) ≡ written_data (write s)
  reads_it (on_page f) g ok small b =
      f.shown e.unpaged (page_shown e)
      ∙ ap (λ (j : ℕ). f.get (page_of e j)) (shows e.unpaged d.unpaged.page (length d.pages) ok small (same_page f.paged))
      ∙ page-steps d g d.unpaged.page small code f (write s) b ∙ rw stores-it
  reads_it (on_device f) g ok small b =
      f.shown e.unpaged (page_shown e) ∙ device-steps d d.unpaged.page code f (write s) ∙ rw stores-it

pub write_then_read : WriteThenRead
unfolding WriteThenRead ReachedValid
write_then_read x cs s m ok b h same small z =
    let n = number_of x in
    let d = reached x cs in
    let k = kept-in_runs (Kept n) (kept-after n) (power_on x) cs (powered-kept x) in
    rw same
    (reads_data (next d (write s)) (valid_after d (write s) (reached-valid x cs ok)) (stored_at m).0 (stored-byte m h) (stored-read m h)
    (open_for (next d (write s)).unpaged (stored_at m).0 d.unpaged.page n (granted-number x ok) small (selected_still d s z (stored_at m).0 same))
    (written_data (write s))
    (reads_it d s z (stored_at m).0 same (each_at (Row usual_page) (0x00, []) stored (rows usual_page) m h).field k.sized (rw k.whole (granted-number x ok)) (rw k.whole small) b))

read_means : (q : ℕ) → q < 4 → command_of (get_or read_codes q 0) ≡ Reading q
unfolding command_of reading_of
read_means zero h = refl
read_means (suc zero) h = refl
read_means (suc (suc zero)) h = refl
read_means (suc (suc (suc zero))) h = refl
read_means (suc (suc (suc (suc q)))) h = absurd (omega arith)

module _ (q : ℕ) (few : q < 4) where
  read_byte : get_or read_codes q 0 < 256
  read_byte = ltb→lt (get_or read_codes q 0) 256 (each (λ q. ltb (get_or read_codes q 0) 256) 4 tt q few)

  read_read : (lookup (get_or read_codes q 0)).read ≡ true
  unfolding lookup table entry_of
  read_read = agree-test (λ q. (lookup (get_or read_codes q 0)).read) (λ q. true) 4 tt q few

  read_data_lem : (u : Unpaged) (p : Page) → read_data u p (command_of (get_or read_codes q 0)) ≡ word_bytes (reading p q)
  unfolding read_data
  read_data_lem u p = rw (read_means q few)

pub measured-back : MeasuredBack
unfolding MeasuredBack ReachedValid
measured-back x cs i q ok small few selected =
    let d = reached x cs in
    reads_data d (reached-valid x cs ok) (get_or read_codes q 0) (read_byte q few) (read_read q few)
    (open_for d.unpaged (get_or read_codes q 0) i (number_of x) (granted-number x ok) small (rw (eq-eqb d.unpaged.page i selected) (or-true (is_unpaged (get_or read_codes q 0)))))
    (word_bytes (latest (measures i q) measured_word (power_on x) cs 0))
    (read_data_lem q few d.unpaged (page_shown d)
    ∙ ap (λ (j : ℕ). word_bytes (reading (page_of d j) q)) (shows d.unpaged i (number_of x) (granted-number x ok) small selected)
    ∙ ap word_bytes (measured-word x cs i small q few))
