-- The turns of the calls are the calls' definition: an outcome beside the records that the call leaves is what `step` says.
-- Assumes nothing.
use Prim.Native.Nat.{ℕ, ◌<◌, ◌≤◌}
use mathlib.Core.Path.{◌≡◌, refl, sym, ap, ◌∙◌}
use mathlib.Core.Bool.{Bool, true, false, cond, ◌&&◌, ◌||◌, or-false, and-false, and-true, and-eq-true_iff}
use mathlib.Core.List.{List, map}
use native.Mathlib.Omega.{arith}
use lib.Dec.{eqb, ltb}
use lib.ListN.{length, get_or, set}
use lib.Seq.{set_out}
use borrow.Author.Tests.{eqb-true, ltb-true, eq-eqb, ne_eqb}
use Rattle.std.specs.Prelude.{Some, None}
use Rattle.std.proofs.lemmas.List.{get_or_default}
use Rattle.laws.specs.Lists.{any_of, any_pair}
use Rattle.laws.proofs.Branches.{either}
use Rattle.page.specs.declared.Page.{Page}
use Rattle.page.specs.Page.{no_page, power_on_page}
use Rattle.page.specs.Causes.{ticked}
use Rattle.page.specs.Status.{any_status, risen}
use Rattle.unpaged.specs.declared.Unpaged.{Unpaged}
use Rattle.unpaged.specs.Unpaged.{every_page, refused, cml_bits}
use Rattle.writes.specs.declared.asked.Write.{Write}
use Rattle.writes.specs.Asked.{asked}
use Rattle.writes.specs.Left.{page_left, unpaged_left, clearing}
use Rattle.device.specs.declared.Device.{Device}
use Rattle.device.specs.Device.{device, device_valid, supported}
use Rattle.device.specs.Step.{write, measure, alert_response, tick, answer_of, answered, effect, written, measured, ticked_device, refused_device, left, done, step}
use Rattle.device.proofs.OnePage.{one_written, one_measured}
use Rattle.device.proofs.EveryPage.{every-written}
use Rattle.device.proofs.States.{valid_parts, answered-valid}
use Rattle.device.proofs.Refused.{device-stays}
use Rattle.device.proofs.Calls.{stepped, valid_page_lem, one_small, measured-small}
use Rattle.lent.specs.declared.turns.Turn.{Turn}
use Rattle.lent.specs.Every.{swept, rising}
use Rattle.lent.specs.Lent.{beside, outcome, refused_outcome, accepted_page, accepted_turn, answered_turn, measured_turn, measured_page, measure_turn, finished, alert_left, turn}
use Rattle.records.specs.Records.{taken, put_back}
use Rattle.lent.proofs.Taken.{put_back_lem, few_taken, few_put, many_put, many_answered}

-- an answered alert response takes the alert down
pub alert_done : (u : Unpaged) (ps : List Page) (n a : ℕ) → a ≡ answered (device u ps) (alert_response n) → beside (alert_left u a) ps ≡ (step (device u ps) (alert_response n)).done
unfolding alert_left left effect refused_device refused_outcome
alert_done u ps n a e =
    either (eqb a 0) (λ y. rw y (stepped (device u ps) (alert_response n) _ a e (rw y)))
    (λ o. rw o (stepped (device u ps) (alert_response n) _ a e (rw o)))

-- what is looked at only after a clearing counts only there
cleared : (clears x y z : Bool) → cond clears ((clears && x) || y) z ≡ cond clears (x || y) z
cleared true x y z = refl
cleared false x y z = refl

-- FFh is past the records of a valid state
past : (u : Unpaged) (ps : List Page) → device_valid (device u ps) ≡ true → every_page u ≡ true → length ps ≤ u.page
unfolding supported
past u ps v every =
    let few = ltb-true (length ps) 97 ((and-eq-true_iff (ltb 0 (length ps)) (ltb (length ps) 97)).0 (valid_parts (device u ps) v).number).1 in
    let last = eqb-true u.page 0xFF every in
    omega (arith, few, last)

module _ (u : Unpaged) (ps : List Page) where
  -- an accepted write to the selected page p,
  one_accepted : (w : Write) (p : Page) → u.page < length ps → every_page u ≡ false → p ≡ get_or ps u.page no_page
      → beside (finished (accepted_turn u p w).outcome (clearing w) false (clearing w && any_of any_status (set ps u.page (page_left w p)))) (set ps u.page (page_left w p)) ≡ done (written (device u ps) w) 0
  unfolding accepted_turn finished
  one_accepted w p h one e =
      rw (cleared (clearing w) _ _ _, one, and-true (risen p (page_left w p)), or-false ((unpaged_left w u).alert || risen p (page_left w p)), e)
      (ap (λ (d : Device). done d 0) (one_written (device u ps) w h one))

  -- or to every page,
  every_accepted : (w : Write) (p : Page) → every_page u ≡ true
      → beside (finished (accepted_turn u p w).outcome (clearing w) (any_pair risen ps (map (page_left w) ps)) (clearing w && any_of any_status (map (page_left w) ps))) (map (page_left w) ps) ≡ done (written (device u ps) w) 0
  unfolding accepted_turn finished
  every_accepted w p every =
      rw (cleared (clearing w) _ _ _, every, and-false (risen p p), or-false (unpaged_left w u).alert)
      (ap (λ (d : Device). done d 0) (every-written (device u ps) w every))

  -- in one form
  accepted-write : (w : Write) (p : Page) → device_valid (device u ps) ≡ true → p ≡ get_or ps u.page power_on_page
      → let ys = set ps u.page (accepted_page u p w) in let every = cond (every_page u) (Some w) None in let zs = swept every ys in
      beside (finished (accepted_turn u p w).outcome (clearing w) (rising every ys) (clearing w && any_of any_status zs)) zs ≡ done (written (device u ps) w) 0
  accepted-write w p v held =
      either (every_page u)
      (λ every. rw (set_out ps u.page (accepted_page u p w) (past u ps v every), every) (every_accepted w p every))
      (λ one. let h = one_small (device u ps) (valid_page_lem (device u ps) v) one in
      rw one (one_accepted w p h one (held ∙ get_or_default ps u.page power_on_page no_page h)))

  -- and an accepted measurement on the page p
  accepted-measure : (k quantity word : ℕ) (p : Page) → k < length ps → p ≡ get_or ps k no_page
      → beside (measured_turn u p quantity word).outcome (set ps k (measured_page p quantity word)) ≡ done (measured (device u ps) k quantity word) 0
  unfolding measured_turn
  accepted-measure k quantity word p h e = rw e (ap (λ (d : Device). done d 0) (one_measured (device u ps) k quantity word h))

  -- a refused write
  refused-write : (bytes : List ℕ) → eqb (answered (device u ps) (write bytes)) 0 ≡ false
      → beside (finished (refused_outcome u (answered (device u ps) (write bytes))) false false false) ps ≡ (step (device u ps) (write bytes)).done
  unfolding finished refused_outcome left refused_device
  refused-write bytes n =
      let a = answered (device u ps) (write bytes) in
      rw (or-false (refused u a).alert) (stepped (device u ps) (write bytes) _ a refl (rw n))

  -- ys are the records with the page put back, zs those after the walk over every one
  turned-done : (bytes : List ℕ) (p : Page) (w : Write) (t : Turn) → p ≡ get_or ps u.page power_on_page → (answered (device u ps) (write bytes) ≡ 0 → w ≡ asked bytes)
      → t ≡ answered_turn u p (answered (device u ps) (write bytes)) w
      → let ys = set ps u.page t.page in let zs = swept t.every ys in
      beside (finished t.outcome t.clears (rising t.every ys) (t.clears && any_of any_status zs)) zs ≡ (step (device u ps) (write bytes)).done
  unfolding answered_turn accepted_turn left effect
  turned-done bytes p w t held ew e =
      let d = device u ps in
      let a = answered d (write bytes) in
      either (eqb a 0)
      (λ y. let z = eqb-true a 0 y in
      let t_is : t ≡ accepted_turn u p w = e ∙ rw y in
      rw t_is (accepted-write w p (answered-valid d (write bytes) z) held ∙ stepped d (write bytes) _ 0 (sym z) (ap (written d) (ew z))))
      (λ n. let t_is : t ≡ turn (refused_outcome u a) p None false = e ∙ rw n in
      rw (t_is, held, put_back_lem power_on_page ps u.page) (refused-write bytes n))

  pub write_done : (bytes : List ℕ) (p : Page) (w : Write) (t : Turn) (ys zs : List Page) (rose standing : Bool) → p ≡ get_or ps u.page power_on_page → (answered (device u ps) (write bytes) ≡ 0 → w ≡ asked bytes)
      → t ≡ answered_turn u p (answered (device u ps) (write bytes)) w → ys ≡ set ps u.page t.page → rose ≡ rising t.every ys → zs ≡ swept t.every ys
      → standing ≡ (t.clears && any_of any_status zs) → beside (finished t.outcome t.clears rose standing) zs ≡ (step (device u ps) (write bytes)).done
  write_done bytes p w t ys zs rose standing held ew e ey er ez es =
      rw (es, ez, er, ey) (turned-done bytes p w t held ew e)

  -- the same with a record that is taken out of at most 96
  pub write_lent : (bytes : List ℕ) (p : Page) (w : Write) (t : Turn) (ys zs : List Page) (rose standing : Bool) → p ≡ taken ps u.page
      → (answered (device u ps) (write bytes) ≡ 0 → w ≡ asked bytes)
      → t ≡ answered_turn u p (answered (device u ps) (write bytes)) w → ys ≡ put_back ps u.page t.page → rose ≡ rising t.every ys → zs ≡ swept t.every ys
      → standing ≡ (t.clears && any_of any_status zs) → beside (finished t.outcome t.clears rose standing) zs ≡ (step (device u ps) (write bytes)).done
  unfolding answered_turn
  write_lent bytes p w t ys zs rose standing held ew e ey er ez es =
      either (ltb (length ps) 97)
      (λ few. write_done bytes p w t ys zs rose standing (held ∙ few_taken ps u.page few) ew e (ey ∙ few_put ps u.page few t.page) er ez es)
      (λ many. let fifteen = many_answered ps many u (write bytes) in
      let refuses : eqb (answered (device u ps) (write bytes)) 0 ≡ false = rw fifteen in
      let t_is : t ≡ turn (refused_outcome u (answered (device u ps) (write bytes))) p None false = e ∙ rw refuses in
      rw (es, ez, er, ey, t_is, many_put ps many u.page p) (refused-write bytes refuses))

  pub measure_done : (k quantity word : ℕ) (p : Page) (t : Turn) → p ≡ get_or ps k power_on_page → t ≡ measure_turn u p (answered (device u ps) (measure k quantity word)) quantity word
      → beside t.outcome (set ps k t.page) ≡ (step (device u ps) (measure k quantity word)).done
  unfolding measure_turn measured_turn refused_outcome left effect refused_device
  measure_done k quantity word p t held e =
      let d = device u ps in
      let a = answered d (measure k quantity word) in
      either (eqb a 0)
      (λ y. let z = eqb-true a 0 y in
      let h = measured-small d k quantity word z in
      let t_is : t ≡ measured_turn u p quantity word = e ∙ rw y in
      rw t_is (accepted-measure k quantity word p h (held ∙ get_or_default ps k power_on_page no_page h) ∙ stepped d (measure k quantity word) _ 0 (sym z) refl))
      (λ n. let t_is : t ≡ turn (refused_outcome u a) p None false = e ∙ rw n in
      rw (t_is, held, put_back_lem power_on_page ps k) (stepped d (measure k quantity word) _ a refl (rw n)))

  pub measure_lent : (k quantity word : ℕ) (p : Page) (t : Turn) → p ≡ taken ps k → t ≡ measure_turn u p (answered (device u ps) (measure k quantity word)) quantity word
      → beside t.outcome (put_back ps k t.page) ≡ (step (device u ps) (measure k quantity word)).done
  unfolding measure_turn refused_outcome left refused_device
  measure_lent k quantity word p t held e =
      either (ltb (length ps) 97)
      (λ few. rw (few_put ps k few t.page) (measure_done k quantity word p t (held ∙ few_taken ps k few) e))
      (λ many. let a = answered (device u ps) (measure k quantity word) in
      let refuses : eqb a 0 ≡ false = rw (many_answered ps many u (measure k quantity word)) in
      let t_is : t ≡ turn (refused_outcome u a) p None false = e ∙ rw refuses in
      rw (t_is, many_put ps many k p) (stepped (device u ps) (measure k quantity word) _ a refl (rw refuses)))

refused-tick : (d : Device) → cml_bits (answered d tick) ≡ 0
unfolding answered answer_of cml_bits
refused-tick d = either (device_valid d) (λ y. rw y) (λ n. rw n)

-- a tick moves the machines of every record where its answer is 0, and changes nothing else
module _ (u : Unpaged) (ps : List Page) where
  pub tick_done : answered (device u ps) tick ≡ 0 → beside (outcome u (answered (device u ps) tick)) (map ticked ps) ≡ (step (device u ps) tick).done
  unfolding left effect ticked_device
  tick_done z = stepped (device u ps) tick _ _ refl (rw (eq-eqb (answered (device u ps) tick) 0 z))

  pub tick_kept : (answered (device u ps) tick ≡ 0 → ⊥) → beside (outcome u (answered (device u ps) tick)) ps ≡ (step (device u ps) tick).done
  unfolding left
  tick_kept other =
      stepped (device u ps) tick _ _ refl
      (rw (ne_eqb (answered (device u ps) tick) 0 other) (sym (device-stays (device u ps) (answered (device u ps) tick) no_bit)))
    where
      no_bit : cml_bits (answered (device u ps) tick) ≡ 0
      no_bit = refused-tick (device u ps)
