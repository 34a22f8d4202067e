-- What the functions of the calls share: the answer, the page that a call needs, the state left and the reply.
-- Assumes nothing.
use Prim.Native.Nat.{ℕ, ◌%◌, ◌<◌}
use mathlib.Core.Path.{◌≡◌, refl, sym, ap, ◌∙◌}
use mathlib.Core.Bool.{Bool, true, false, cond, or-false, and-eq-true_iff}
use mathlib.Core.List.{List}
use native.Mathlib.Omega.{arith}
use lib.Dec.{eqb, ltb, leb}
use lib.ListN.{length, get_or}
use borrow.Author.Tests.{ltb-true, leb-false, eqb-true}
use Rattle.std.specs.Prelude.{Result}
use Rattle.answer.specs.declared.Refusal.{Refusal}
use Rattle.answer.specs.Answer.{number_of}
use Rattle.laws.proofs.Branches.{either}
use Rattle.page.specs.declared.Page.{Page}
use Rattle.page.specs.Page.{no_page}
use Rattle.unpaged.specs.Unpaged.{valid_page, every_page, cml_bits, shown}
use Rattle.unpaged.specs.Events.{measure_answer}
use Rattle.reads.specs.declared.request.Request.{Request}
use Rattle.reads.specs.Request.{request_of}
use Rattle.reads.specs.Answers.{request_answer, read_answer, answers_data}
use Rattle.reads.specs.Data.{read_stream}
use Rattle.reads.specs.Reply.{reply_of}
use Rattle.std.proofs.lemmas.List.{get_or_default}
use Rattle.device.specs.declared.Device.{Device}
use Rattle.device.specs.Device.{device_valid, supported, page_of, page_shown}
use Rattle.device.specs.Step.{Call, read, measure, answer_of, answered, effect, refused_device, left, sent, clocked, done, step}
use Rattle.device.proofs.States.{valid_parts, answer-zero}
use Rattle.device.proofs.Refused.{device-stays, refusal-nonzero}

module _ (d : Device) (c : Call) where
  pub answer-made : (valid : Bool) (rule a : ℕ) → valid ≡ device_valid d → rule ≡ answer_of d c → a ≡ cond valid rule 15 → a ≡ answered d c
  unfolding answered
  answer-made valid rule a v r e = e ∙ rw (v, r)

  pub stepped : (next : Device) (a : ℕ) → a ≡ answered d c → next ≡ left d c a → done next a ≡ (step d c).done
  unfolding step
  stepped next a e f = rw (f, e)

  -- what is left by a call that is done, and by one that is refused
  pub done_left : (next : Device) (a : ℕ) → a ≡ 0 → next ≡ effect d c → next ≡ left d c a
  unfolding left
  done_left next a z e = rw z e

  pub refused_left : (r : Refusal) (next : Device) (a : ℕ) → a ≡ number_of r → next ≡ refused_device d (number_of r) → next ≡ left d c a
  unfolding left
  refused_left r next a n e = rw (n, refusal-nonzero r) e

  -- and a refused one as a whole
  pub refused_call : (r : Refusal) → number_of r ≡ answered d c → done (refused_device d (number_of r)) (number_of r) ≡ (step d c).done
  refused_call r e = stepped (refused_device d (number_of r)) (number_of r) e (refused_left r _ _ refl refl)

  pub done_call : (next : Device) → 0 ≡ answered d c → next ≡ effect d c → done next 0 ≡ (step d c).done
  done_call next z e = stepped next 0 z (done_left next 0 refl e)

  -- the reply buffer, by the bytes that were sent into it
  pub replied : (s r : List ℕ) (a : ℕ) → a ≡ answered d c → s ≡ sent d c a → r ≡ reply_of s (clocked c) → r ≡ (step d c).reply
  unfolding step
  replied s r a e f g = g ∙ rw (f, e)

module _ (d : Device) where
  -- PAGE of a valid state
  pub valid_page_lem : device_valid d ≡ true → valid_page (length d.pages) d.unpaged.page ≡ true
  valid_page_lem v = (valid_parts d v).page

  -- where not every page is selected, it is one of them
  pub one_small : valid_page (length d.pages) d.unpaged.page ≡ true → every_page d.unpaged ≡ false → d.unpaged.page < length d.pages
  unfolding valid_page
  one_small v e = ltb-true d.unpaged.page (length d.pages) (sym (or-false (ltb d.unpaged.page (length d.pages))) ∙ (rw e at v))

  -- a measurement with answer 0 names one
  pub measured-small : (page quantity word : ℕ) → answered d (measure page quantity word) ≡ 0 → page < length d.pages
  unfolding answer_of measure_answer
  measured-small page quantity word z =
      let a = answer-zero d (measure page quantity word) z in
      either (leb (length d.pages) page) (λ e. let n : 12 ≡ 0 = rw e at a in absurd (omega arith))
      (λ e. leb-false (length d.pages) page e)

  -- a read leaves what its answer's bit leaves, 0 among the answers
  pub read_left : (header : List ℕ) (n a : ℕ) → refused_device d a ≡ left d (read header n) a
  unfolding left effect cml_bits
  read_left header n a =
      either (eqb a 0) (λ y. rw y (device-stays d a (ap cml_bits (eqb-true a 0 y)))) (λ e. rw e)

  -- the page shown is one of them,
  shown-small : device_valid d ≡ true → shown d.unpaged < length d.pages
  unfolding shown supported
  shown-small v =
      let some = ltb-true 0 (length d.pages) ((and-eq-true_iff (ltb 0 (length d.pages)) _).0 (valid_parts d v).number).0 in
      either (every_page d.unpaged) (λ e. rw e some) (λ one. rw one (one_small (valid_page_lem v) one))

  -- taken out of eight by its number's remainder, or out of any number whatever stands past their end
  pub shown-of_eight : length d.pages ≡ 8 → device_valid d ≡ true → page_of d (shown d.unpaged % 8) ≡ page_shown d
  shown-of_eight long v =
      let h = shown-small v in
      let same : shown d.unpaged % 8 ≡ shown d.unpaged = omega arith in
      ap (page_of d) same

  pub shown-of_any : (q : Page) → device_valid d ≡ true → get_or d.pages (shown d.unpaged) q ≡ page_shown d
  shown-of_any q v = get_or_default d.pages (shown d.unpaged) q no_page (shown-small v)

  -- a read that asks for r, of a page p that is the one shown where the state is valid: its answer,
  module _ (header : List ℕ) (n a : ℕ) (r : Result Request ℕ) (p : Page) (asks : r ≡ request_of header) (is : device_valid d ≡ true → p ≡ page_shown d) where
    pub read_made : (valid : Bool) (rule : ℕ) → valid ≡ device_valid d → rule ≡ request_answer d.unpaged p r n → a ≡ cond valid rule 15
        → a ≡ answered d (read header n)
    unfolding answered answer_of read_answer
    read_made valid rule v e z =
        z ∙ either (device_valid d) (λ y. rw (v, y, e, asks, is y)) (λ no. rw (v, no))

    -- and what it sends
    pub sent-shown : a ≡ answered d (read header n) → read_stream d.unpaged p a r header ≡ sent d (read header n) a
    unfolding sent read_stream answered answers_data
    sent-shown e =
        either (device_valid d)
        (λ y. rw (asks, is y))
        (λ no. let z : a ≡ 15 = e ∙ rw no in rw z)
