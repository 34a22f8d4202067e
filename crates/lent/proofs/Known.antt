-- What a call knows of all records suffices: whatever was found by a survey of the records lent, the turn that is made of it is the
-- definition's, for those records.
-- Assumes nothing.
use Prim.Native.Nat.{ℕ}
use mathlib.Core.Path.{◌≡◌, refl, sym, ap, ◌∙◌}
use mathlib.Core.Bool.{true, ◌&&◌, and-eq-true_iff, and-true, and-false}
use mathlib.Core.List.{List}
use lib.Dec.{eqb, ltb}
use lib.ListN.{length}
use borrow.Author.Tests.{eqb-false}
use Rattle.std.specs.Prelude.{Option, Some, None, Result, Ok, Err, IfOk}
use Rattle.answer.specs.declared.Refusal.{Refusal}
use Rattle.answer.specs.Answer.{number_of, answer_of as number_given}
use Rattle.laws.specs.Lists.{all_of}
use Rattle.laws.proofs.Branches.{either}
use Rattle.account.specs.Account.{sampled}
use Rattle.page.specs.declared.Page.{Page}
use Rattle.page.specs.Page.{power_on_page}
use Rattle.page.specs.Settings.{page_valid}
use Rattle.unpaged.specs.declared.Unpaged.{Unpaged}
use Rattle.unpaged.specs.Unpaged.{shown, unpaged_valid}
use Rattle.unpaged.specs.Events.{measure_answer, alert_answer}
use Rattle.writes.specs.declared.asked.Write.{Write}
use Rattle.writes.specs.Asked.{asked}
use Rattle.writes.specs.Answers.{write_answer}
use Rattle.reads.specs.Request.{request_of}
use Rattle.reads.specs.Answers.{read_answer}
use Rattle.reads.specs.Reply.{reply_of}
use Rattle.device.specs.Device.{device, device_valid, supported, page_shown}
use Rattle.device.specs.Step.{Call, write, read, measure, sample, alert_response, tick, answer_of, answered, left, effect, sent, refused_device, step}
use Rattle.device.proofs.States.{valid_parts, answered-valid, answer-zero}
use Rattle.device.proofs.Refused.{refusal-nonzero}
use Rattle.device.proofs.Calls.{stepped, replied, read_left, shown-of_any, sent-shown}
use Rattle.records.specs.Records.{counted, surveyed, taken}
use Rattle.lent.specs.declared.Outcome.{Outcome}
use Rattle.lent.specs.declared.turns.Turn.{Turn}
use Rattle.lent.specs.declared.turns.Sending.{Sending}
use Rattle.lent.specs.Lent.{seen_valid, seen_answer, beside, outcome, refused_outcome, answered_turn, measure_turn, sample_left, read_turn, alert_turn}
use Rattle.lent.proofs.Seen.{seen_accepted, seen_refused}
use Rattle.lent.proofs.Taken.{few_taken, valid_few}
use Rattle.lent.proofs.Outcomes.{alert_done}

-- of a valid state the number is the number of records
seen-number : (u : Unpaged) (ps : List Page) → device_valid (device u ps) ≡ true → surveyed ps ≡ Some (length ps)
unfolding counted supported
seen-number u ps v =
    let parts = valid_parts (device u ps) v in
    rw (((and-eq-true_iff (ltb 0 (length ps)) (ltb (length ps) 97)).0 parts.number).1, parts.pages)

-- the test of a state, by what is known
pub seen-valid : (u : Unpaged) (ps : List Page) → seen_valid (surveyed ps) u ≡ device_valid (device u ps)
unfolding seen_valid counted supported device_valid
seen-valid u ps =
    let n = length ps in
    either (ltb n 97)
    (λ few. either (all_of page_valid ps)
    (λ v. let number : surveyed ps ≡ Some n = rw (few, v) in rw number (rw v (sym (and-true (supported n && unpaged_valid n u)))))
    (λ no. let none : surveyed ps ≡ None = rw (few, no) in rw none (rw no (sym (and-false (supported n && unpaged_valid n u))))))
    (λ many. let none : surveyed ps ≡ None = rw many in rw none (rw (many, and-false (ltb 0 n))))

-- an answer by a rule that is the definition's where the state is valid
pub answer-is : (u : Unpaged) (ps : List Page) (s : Option ℕ) (c : Call) (rule : ℕ → ℕ) → s ≡ surveyed ps
    → (device_valid (device u ps) ≡ true → rule (length ps) ≡ answer_of (device u ps) c) → seen_answer s u rule ≡ answered (device u ps) c
unfolding answered
answer-is u ps s c rule e r =
    either (device_valid (device u ps))
    (λ v. let number = seen-number u ps v in
    rw (e, v) (seen_accepted (surveyed ps) u rule (length ps) number (seen-valid u ps ∙ v) ∙ r v))
    (λ v. rw v (seen_refused s u rule (ap (λ (x : Option ℕ). seen_valid x u) e ∙ seen-valid u ps ∙ v)))

-- a write of answer 0 is one that asks for something
accepts : {w : Write} (j : Result Write Refusal) → number_given j ≡ 0 → IfOk j (λ x. x ≡ w) → j ≡ Ok w
accepts (Ok x) z e = ap Ok e
accepts (Err r) z e = absurd (eqb-false (number_of r) 0 (refusal-nonzero r) z)

-- ---- call by call

module _ (u : Unpaged) (s : Option ℕ) where
  -- n is the number of records, where they have one
  module _ (bytes : List ℕ) (n : ℕ) (en : (k : ℕ) → s ≡ Some k → n ≡ k) (j : Result Write Refusal) (ja : number_given j ≡ write_answer n u bytes) (ps : List Page) (e : s ≡ surveyed ps) where
    rule-is : device_valid (device u ps) ≡ true → number_given j ≡ answer_of (device u ps) (write bytes)
    unfolding answer_of
    rule-is v = ja ∙ ap (λ (k : ℕ). write_answer k u bytes) (en (length ps) (e ∙ seen-number u ps v))

    pub write_known : (p : Page) (w : Write) (t : Turn) → t ≡ answered_turn u p (seen_answer s u (λ k. number_given j)) w
        → t ≡ answered_turn u p (answered (device u ps) (write bytes)) w
    write_known p w t et = et ∙ ap (λ (a : ℕ). answered_turn u p a w) (answer-is u ps s (write bytes) (λ k. number_given j) e rule-is)

    pub write_asked : IfOk j (λ w. w ≡ asked bytes) → answered (device u ps) (write bytes) ≡ 0 → j ≡ Ok (asked bytes)
    write_asked jw z =
        let d = device u ps in
        accepts j (rule-is (answered-valid d (write bytes) z) ∙ answer-zero d (write bytes) z) jw

  pub measure_known : (p : Page) (k quantity word : ℕ) (t : Turn) → t ≡ measure_turn u p (seen_answer s u (λ n. measure_answer n k quantity)) quantity word
      → (ps : List Page) → s ≡ surveyed ps → t ≡ measure_turn u p (answered (device u ps) (measure k quantity word)) quantity word
  unfolding answer_of
  measure_known p k quantity word t et ps e =
      et ∙ ap (λ (a : ℕ). measure_turn u p a quantity word) (answer-is u ps s (measure k quantity word) _ e (λ v. refl))

  pub sample_known : (power : ℕ) (r : Outcome) → r ≡ sample_left u (seen_answer s u (λ n. (sampled u.energy power).answer)) power
      → (ps : List Page) → s ≡ surveyed ps → beside r ps ≡ (step (device u ps) (sample power)).done
  unfolding sample_left refused_outcome answer_of left effect refused_device
  sample_known power r er ps e =
      let d = device u ps in
      let a = answered d (sample power) in
      let r_is : r ≡ sample_left u a power = er ∙ ap (λ (x : ℕ). sample_left u x power) (answer-is u ps s (sample power) _ e (λ v. refl)) in
      either (eqb a 0)
      (λ y. rw (r_is, y) (stepped d (sample power) _ a refl (rw y)))
      (λ o. rw (r_is, o) (stepped d (sample power) _ a refl (rw o)))

  pub tick_known : (r : Outcome) → r ≡ outcome u (seen_answer s u (λ n. 0)) → (ps : List Page) → s ≡ surveyed ps → r ≡ outcome u (answered (device u ps) tick)
  unfolding answer_of
  tick_known r er ps e = er ∙ ap (outcome u) (answer-is u ps s tick _ e (λ v. refl))

  pub read_known : (p : Page) (header : List ℕ) (n : ℕ) (t : Sending) → t ≡ read_turn u p (seen_answer s u (λ k. read_answer u p header n)) (request_of header) header
      → (ps : List Page) → s ≡ surveyed ps → p ≡ taken ps (shown u)
      → (beside t.outcome ps ≡ (step (device u ps) (read header n)).done) × (reply_of t.stream n ≡ (step (device u ps) (read header n)).reply)
  unfolding read_turn refused_outcome answer_of refused_device
  read_known p header n t et ps e held =
      let d = device u ps in
      let a = answered d (read header n) in
      let is : device_valid d ≡ true → p ≡ page_shown d = λ v. held ∙ few_taken ps (shown u) (valid_few u ps v) ∙ shown-of_any d power_on_page v in
      let t_is : t ≡ read_turn u p a (request_of header) header =
      et ∙ ap (λ (x : ℕ). read_turn u p x (request_of header) header)
      (answer-is u ps s (read header n) _ e (λ v. ap (λ (q : Page). read_answer u q header n) (is v))) in
      let sent_is = ap (λ (x : Sending). x.stream) t_is ∙ sent-shown d header n a (request_of header) p refl is refl in (
        rw t_is (stepped d (read header n) _ a refl (read_left d header n a)),
        replied d (read header n) t.stream _ a refl sent_is refl,
      )

  pub alert_known : (n : ℕ) (t : Sending) → t ≡ alert_turn u (seen_answer s u (λ k. alert_answer u.alert n)) → (ps : List Page) → s ≡ surveyed ps
      → (beside t.outcome ps ≡ (step (device u ps) (alert_response n)).done) × (reply_of t.stream n ≡ (step (device u ps) (alert_response n)).reply)
  unfolding alert_turn answer_of sent
  alert_known n t et ps e =
      let d = device u ps in
      let a = answered d (alert_response n) in
      let t_is : t ≡ alert_turn u a = et ∙ ap (alert_turn u) (answer-is u ps s (alert_response n) _ e (λ v. refl)) in (
        rw t_is (alert_done u ps n a refl),
        replied d (alert_response n) t.stream _ a refl (ap (λ (x : Sending). x.stream) t_is) refl,
      )
