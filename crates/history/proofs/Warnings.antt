-- Devices that differ in warn limits, warnings' bits and the alert at most: every call leaves them so, and so does a warn limit.
-- Assumes nothing.
use Prim.Native.Nat.{ℕ, suc, ◌<◌, ◌≤◌}
use mathlib.Core.Path.{◌≡◌, refl, sym, ap, ap₂, ◌∙◌}
use mathlib.Core.Bool.{Bool, true, cond, ◌&&◌, false≢true}
use mathlib.Core.List.{List, [], ◌∷◌, ◌++◌}
use native.Mathlib.Omega.{arith}
use lib.Dec.{eqb, ltb}
use lib.ListN.{length, get_or, get_or-eq_default}
use lib.Bits.{bit_or, or_zero_r}
use borrow.Author.Tests.{eqb-true, ltb-true, ltb-false}
use Rattle.laws.specs.Lists.{all_of, map_at}
use Rattle.laws.proofs.Branches.{either, cond_same, cond-apply}
use Rattle.laws.proofs.Places.{length-map_at, get_or-map_at}
use Rattle.account.specs.declared.Account.{Account}
use Rattle.account.specs.Account.{sampled}
use Rattle.cause.specs.Causes.{warnings}
use Rattle.command.specs.declared.meaning.Command.TheVariants.{Limit}
use Rattle.command.specs.Meaning.{command_of, fault_of}
use Rattle.page.specs.declared.Page.{Page}
use Rattle.page.specs.Page.{no_page}
use Rattle.page.specs.Causes.{settled, ticked}
use Rattle.page.specs.Settings.{page_valid, set_measurement}
use Rattle.unpaged.specs.declared.Unpaged.{Unpaged}
use Rattle.unpaged.specs.Unpaged.{acts_on, cml_bits, refused, unpaged_valid, shown}
use Rattle.unpaged.specs.Events.{alert_answer}
use Rattle.writes.specs.declared.asked.Setting.{Setting}
use Rattle.writes.specs.declared.asked.Write.{Write}
use Rattle.writes.specs.Asked.{asked, write_of, word_of}
use Rattle.writes.specs.Answers.{data_answer, length_answer, code_answer, addressed_answer, write_answer}
use Rattle.writes.specs.Left.{page_left, unpaged_left}
use Rattle.writes.specs.Accepted.{code_of}
use Rattle.reads.specs.Request.{request_of}
use Rattle.reads.specs.Answers.{read_answer}
use Rattle.reads.proofs.Requests.{answer-same}
use Rattle.device.specs.declared.Device.{Device}
use Rattle.device.specs.Device.{Choice, device_valid, page_of, page_shown, alert_risen, power_on}
use Rattle.device.specs.Step.{Call, write, read, measure, sample, alert_response, tick, answer_of, answered, effect, refused_device, step, written, measured, ticked_device}
use Rattle.device.proofs.Touches.{written-pages, ticked-pages}
use Rattle.history.specs.Run.{next, answer, run, reached}
use Rattle.history.specs.Effects.{OnlyAlert}
use Rattle.history.specs.Warnings.{warn_limit, AlikePages, Alike, AnswerAlike, StayAlike, WarnLimitsAside}
use Rattle.history.proofs.AlikePages.{ticked-alike, measured-alike, left-alike, warn_limit-alike, alike_self, valid_alike}
use Rattle.history.proofs.Effects.{written-page-at, written-page, written-protect}
use Rattle.history.proofs.Outcomes.{done_next, refused-next, by_answer, write_next, written-cml, written-energy}
use Rattle.history.proofs.Runs.{current}

-- ---- answers

pages_valid : (l m : List Page) → length l ≡ length m → ((i : ℕ) → i < length l → AlikePages (get_or l i no_page) (get_or m i no_page))
    → all_of page_valid l ≡ all_of page_valid m
pages_valid [] [] n a = refl
pages_valid [] (y ∷ m) n a = absurd (omega arith)
pages_valid (x ∷ l) [] n a = absurd (omega arith)
pages_valid (x ∷ l) (y ∷ m) n a =
    ap₂ ◌&&◌ (valid_alike x y (a 0 (omega arith))) (pages_valid l m (omega arith) (λ i h. a (suc i) (omega arith)))

-- the pages of two devices; past their number there is none
page-alike : (d e : Device) → Alike d e → (i : ℕ) → AlikePages (page_of d i) (page_of e i)
page-alike d e a i =
    either (ltb i (length d.pages)) (λ y. a.pages i (ltb-true i (length d.pages) y))
    (λ n. let past = ltb-false i (length d.pages) n in
    let number = a.number in
    rw (get_or-eq_default d.pages no_page {n = i} past, get_or-eq_default e.pages no_page {n = i} (omega arith)) (alike_self no_page))

pub page-shown : (d e : Device) → Alike d e → AlikePages (page_shown d) (page_shown e)
unfolding shown
page-shown d e a = rw a.page (page-alike d e a (cond (eqb e.unpaged.page 0xFF) 0 e.unpaged.page))

module _ (d e : Device) (a : Alike d e) where
  device-valid : device_valid d ≡ device_valid e
  unfolding device_valid unpaged_valid
  device-valid = rw (a.number, a.page, a.protect, a.energy, pages_valid d.pages e.pages a.number a.pages)

  by_valid : (c : Call) → answer_of d c ≡ answer_of e c → answer d c ≡ answer e c
  unfolding step answered
  by_valid c h = rw (device-valid, h)

  write_answer_lem : (s : List ℕ) → answer_of d (write s) ≡ answer_of e (write s)
  unfolding answer_of write_answer addressed_answer code_answer length_answer data_answer
  write_answer_lem s = rw (a.number, a.protect)

  read_answer_lem : (header : List ℕ) (n : ℕ) → answer_of d (read header n) ≡ answer_of e (read header n)
  unfolding answer_of read_answer
  read_answer_lem header n =
      answer-same d.unpaged e.unpaged (page_shown d) (page_shown e) (request_of header) n (ap (λ (x : ℕ). eqb x 0xFF) a.page)
      (page-shown d e a).formats

  measure_answer_lem : (page quantity word : ℕ) → answer_of d (measure page quantity word) ≡ answer_of e (measure page quantity word)
  unfolding answer_of
  measure_answer_lem page quantity word = rw a.number

  sample_answer : (n : ℕ) → answer_of d (sample n) ≡ answer_of e (sample n)
  unfolding answer_of
  sample_answer n = rw a.energy

  tick_answer : answer_of d tick ≡ answer_of e tick
  unfolding answer_of
  tick_answer = refl

  pub answer-alike : (c : Call) → AnswerAlike d e c
  unfolding AnswerAlike
  answer-alike (write s) = by_valid (write s) (write_answer_lem s)
  answer-alike (read header n) = by_valid (read header n) (read_answer_lem header n)
  answer-alike (measure page quantity word) = by_valid (measure page quantity word) (measure_answer_lem page quantity word)
  answer-alike (sample n) = by_valid (sample n) (sample_answer n)
  answer-alike (alert_response n) = tt
  answer-alike tick = by_valid tick tick_answer

-- ---- what a call leaves

-- pages changed at the same places by the same function
mapped_alike : (t u : ℕ → Bool) (f : Page → Page) (l m : List Page) → length l ≡ length m → ((i : ℕ) → t i ≡ u i)
    → ((p q : Page) → AlikePages p q → AlikePages (f p) (f q))
    → ((i : ℕ) → i < length l → AlikePages (get_or l i no_page) (get_or m i no_page))
    → (i : ℕ) → i < length (map_at t f l) → AlikePages (get_or (map_at t f l) i no_page) (get_or (map_at u f m) i no_page)
mapped_alike t u f l m n same keeps a i h =
    let long = length-map_at t f l in
    let here : i < length l = omega arith in
    rw (get_or-map_at no_page t f l i here, get_or-map_at no_page u f m i (omega arith), same i)
    (either (u i) (λ y. rw y (keeps (get_or l i no_page) (get_or m i no_page) (a i here))) (λ y. rw y (a i here)))

mapped_length : (t u : ℕ → Bool) (f : Page → Page) (l m : List Page) → length l ≡ length m → length (map_at t f l) ≡ length (map_at u f m)
mapped_length t u f l m n = length-map_at t f l ∙ n ∙ sym (length-map_at u f m)

-- the unpaged part after a write
module _ (u v : Unpaged) where
  left-page : (w : Write) → u.page ≡ v.page → (unpaged_left w u).page ≡ (unpaged_left w v).page
  unfolding unpaged_left
  left-page Write.Nothing e = e
  left-page (Write.SelectPage x) e = refl
  left-page (Write.Protect x) e = e
  left-page (Write.Change s) e = e
  left-page (Write.Clear m) e = e
  left-page (Write.ClearCml m) e = e

  left-protect : (w : Write) → u.protect ≡ v.protect → (unpaged_left w u).protect ≡ (unpaged_left w v).protect
  unfolding unpaged_left
  left-protect Write.Nothing e = e
  left-protect (Write.SelectPage x) e = e
  left-protect (Write.Protect x) e = refl
  left-protect (Write.Change s) e = e
  left-protect (Write.Clear m) e = e
  left-protect (Write.ClearCml m) e = e

  left-cml : (w : Write) → u.cml ≡ v.cml → (unpaged_left w u).cml ≡ (unpaged_left w v).cml
  unfolding unpaged_left
  left-cml Write.Nothing e = e
  left-cml (Write.SelectPage x) e = e
  left-cml (Write.Protect x) e = e
  left-cml (Write.Change s) e = e
  left-cml (Write.Clear m) e = rw e
  left-cml (Write.ClearCml m) e = rw e

  acts_alike : u.page ≡ v.page → (i : ℕ) → acts_on u i ≡ acts_on v i
  unfolding acts_on
  acts_alike e i = rw e

module _ (d e : Device) (a : Alike d e) where
  abbrev u : Unpaged
  u = d.unpaged

  abbrev v : Unpaged
  v = e.unpaged

  written-alike : (w : Write) → Alike (written d w) (written e w)
  written-alike w = record {
    page = written-page d w ∙ left-page u v w a.page ∙ sym (written-page e w);
    protect = written-protect d w ∙ left-protect u v w a.protect ∙ sym (written-protect e w);
    cml = written-cml d w ∙ left-cml u v w a.cml ∙ sym (written-cml e w);
    energy = written-energy d w ∙ a.energy ∙ sym (written-energy e w);
    number = rw (written-pages d w, written-pages e w) (mapped_length (acts_on u) (acts_on v) (page_left w) d.pages e.pages a.number);
    pages = rw (written-pages d w, written-pages e w)
        (mapped_alike (acts_on u) (acts_on v) (page_left w) d.pages e.pages a.number (acts_alike u v a.page) (left-alike w) a.pages);
  }

  word-alike : (page quantity word : ℕ) → Alike (measured d page quantity word) (measured e page quantity word)
  unfolding measured alert_risen
  word-alike page quantity word =
      let f : Page → Page = λ p. settled (set_measurement p quantity word) in
      record {
        page = a.page;
        protect = a.protect;
        cml = a.cml;
        energy = a.energy;
        number = mapped_length (eqb page) (eqb page) f d.pages e.pages a.number;
        pages = mapped_alike (eqb page) (eqb page) f d.pages e.pages a.number (λ i. refl) (measured-alike quantity word) a.pages;
      }

  all_ticked_alike : Alike (ticked_device d) (ticked_device e)
  unfolding ticked_device
  all_ticked_alike = record {
    page = a.page;
    protect = a.protect;
    cml = a.cml;
    energy = a.energy;
    number = rw (ticked-pages d, ticked-pages e) (mapped_length every every ticked d.pages e.pages a.number);
    pages = rw (ticked-pages d, ticked-pages e) (mapped_alike every every ticked d.pages e.pages a.number (λ i. refl) ticked-alike a.pages);
  }
    where
      every : ℕ → Bool
      every i = true

  effect-alike : (c : Call) → Alike (effect d c) (effect e c)
  unfolding effect
  effect-alike (write s) = written-alike (asked s)
  effect-alike (read header n) = a
  effect-alike (measure page quantity word) = word-alike page quantity word
  effect-alike (sample n) = record {
    page = a.page;
    protect = a.protect;
    cml = a.cml;
    energy = ap (λ (x : Account). (sampled x n).account) a.energy;
    number = a.number;
    pages = a.pages;
  }
  effect-alike (alert_response n) = record {
    page = a.page;
    protect = a.protect;
    cml = a.cml;
    energy = a.energy;
    number = a.number;
    pages = a.pages;
  }
  effect-alike tick = all_ticked_alike

  refused-alike : (x : ℕ) → Alike (refused_device d x) (refused_device e x)
  unfolding refused_device refused
  refused-alike x = record {
    page = a.page;
    protect = a.protect;
    cml = ap (λ (y : ℕ). bit_or y (cml_bits x)) a.cml;
    energy = a.energy;
    number = a.number;
    pages = a.pages;
  }

  -- with the same answer
  next-alike : (c : Call) → answer d c ≡ answer e c → Alike (next d c) (next e c)
  next-alike c same =
      by_answer d c (λ z. rw (done_next d c z, done_next e c (sym same ∙ z)) (effect-alike c))
      (λ z. rw (refused-next d c z, refused-next e c (λ y. z (same ∙ y)), same) (refused-alike (answer e c)))

-- an alert response leaves all but the alert, whatever its answer
module _ (d : Device) (n : ℕ) where
  alert_done : OnlyAlert d (effect d (alert_response n))
  unfolding effect
  alert_done = record { page = refl; protect = refl; cml = refl; energy = refl; pages = refl }

  no_cml : cml_bits (answer d (alert_response n)) ≡ 0
  unfolding step answered answer_of alert_answer cml_bits
  no_cml = simp (cond-apply cml_bits, cond_same)

  alert_refused : OnlyAlert d (refused_device d (answer d (alert_response n)))
  unfolding refused_device refused
  alert_refused = record { page = refl; protect = refl; cml = rw no_cml (or_zero_r d.unpaged.cml); energy = refl; pages = refl }

  only-alert : OnlyAlert d (next d (alert_response n))
  only-alert =
      by_answer d (alert_response n) (λ z. rw (done_next d (alert_response n) z) alert_done)
      (λ z. rw (refused-next d (alert_response n) z) alert_refused)

alert_alike : (d e : Device) → Alike d e → (n : ℕ) → Alike (next d (alert_response n)) (next e (alert_response n))
alert_alike d e a n =
    let o = only-alert d n in
    let r = only-alert e n in
    record {
      page = o.page ∙ a.page ∙ sym r.page;
      protect = o.protect ∙ a.protect ∙ sym r.protect;
      cml = o.cml ∙ a.cml ∙ sym r.cml;
      energy = o.energy ∙ a.energy ∙ sym r.energy;
      number = rw (o.pages, r.pages) a.number;
      pages = rw (o.pages, r.pages) a.pages;
    }

next-after : (d e : Device) → Alike d e → (c : Call) → Alike (next d c) (next e c)
unfolding AnswerAlike
next-after d e a (write s) = next-alike d e a (write s) (answer-alike d e a (write s))
next-after d e a (read header n) = next-alike d e a (read header n) (answer-alike d e a (read header n))
next-after d e a (measure page quantity word) =
    next-alike d e a (measure page quantity word) (answer-alike d e a (measure page quantity word))
next-after d e a (sample n) = next-alike d e a (sample n) (answer-alike d e a (sample n))
next-after d e a (alert_response n) = alert_alike d e a n
next-after d e a tick = next-alike d e a tick (answer-alike d e a tick)

pub stay_alike : StayAlike
unfolding StayAlike
stay_alike d e c a = (answer-alike d e a c, next-after d e a c)

-- ---- a warn limit

-- its code means one of the limits 6 to 10
limit-meant : (code : ℕ) → warn_limit code ≡ true → (k : ℕ) × (6 ≤ k) × (k < 11) × (command_of code ≡ Limit k)
unfolding warn_limit warnings command_of fault_of
limit-meant code h =
    either (eqb code 0x42) (λ y. (6, omega arith, omega arith, ap command_of (eqb-true code 0x42 y)))
    (λ a. either (eqb code 0x4A) (λ y. (7, omega arith, omega arith, ap command_of (eqb-true code 0x4A y)))
    (λ b. either (eqb code 0x51) (λ y. (8, omega arith, omega arith, ap command_of (eqb-true code 0x51 y)))
    (λ c. either (eqb code 0x57) (λ y. (9, omega arith, omega arith, ap command_of (eqb-true code 0x57 y)))
    (λ e. either (eqb code 0x58) (λ y. (10, omega arith, omega arith, ap command_of (eqb-true code 0x58 y)))
    (λ f. absurd (false≢true (rw (a, b, c, e, f) at h)))))))

module _ (chosen : Choice) (cs : List Call) where
  abbrev before : Device
  before = reached chosen cs

  -- set in a run, it leaves the state alike
  limit-set : (k w : ℕ) → 6 ≤ k → k < 11 → Alike (written before (Write.Change (Setting.Limit k w))) before
  unfolding unpaged_left
  limit-set k w low high =
      let x = Write.Change (Setting.Limit k w) in
      let g = current chosen cs in
      let long = length-map_at (acts_on before.unpaged) (page_left x) before.pages in
      let number : length (written before x).pages ≡ length before.pages = ap length (written-pages before x) ∙ long in
      record {
        page = written-page before x;
        protect = written-protect before x;
        cml = written-cml before x;
        energy = written-energy before x;
        number = number;
        pages = λ i h.
            let whole = g.whole in
            rw (written-page-at before x i (omega arith))
            (either (acts_on before.unpaged i) (λ y. rw y (warn_limit-alike k w (page_of before i) low high (g.page i (omega arith))))
            (λ y. rw y (alike_self (page_of before i))));
      }

  limit-written : (s : List ℕ) → warn_limit (code_of s) ≡ true → answer before (write s) ≡ 0 → Alike (next before (write s)) before
  unfolding asked write_of
  limit-written s h z =
      let m = limit-meant (code_of s) h in
      let means = m.3 in
      rw (write_next before s z, means) (limit-set m.0 (word_of (get_or s 2 0) (get_or s 3 0)) m.1 m.2)

run-alike : (ds : List Call) (d e : Device) → Alike d e → Alike (run d ds) (run e ds)
unfolding run
run-alike [] d e a = a
run-alike (c ∷ ds) d e a = run-alike ds (next d c) (next e c) (next-after d e a c)

run-append : (d : Device) (cs ds : List Call) → run d (cs ++ ds) ≡ run (run d cs) ds
unfolding run
run-append d [] ds = refl
run-append d (c ∷ cs) ds = run-append (next d c) cs ds

pub warn_limits_aside : WarnLimitsAside
unfolding WarnLimitsAside run
warn_limits_aside x cs ds s h z =
    rw (run-append (power_on x) cs (write s ∷ ds), run-append (power_on x) cs ds)
    (run-alike ds (next (reached x cs) (write s)) (reached x cs) (limit-written x cs s h z))
