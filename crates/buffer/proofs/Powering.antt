-- Power-on of a buffer, by nothing and by choices as bytes: every byte of it is set.
-- Assumes nothing.
use Prim.Native.Nat.{ℕ, zero, suc, ◌+◌, ◌*◌, ◌<◌}
use mathlib.Core.Path.{◌≡◌, refl, sym, ap, ◌∙◌}
use mathlib.Core.Bool.{Bool, true, false, cond, ◌&&◌, false≢true, and-eq-true_iff}
use mathlib.Core.List.{List, [], map, append-nil}
use lib.ListN.{length, replicate, get_or-map}
use lib.Dec.{eqb}
use borrow.Author.Tests.{eq-eqb, ne_eqb}
use Rattle.std.proofs.lemmas.List.{ext_get_or}
use Rattle.std.specs.Array.{IsWholeChunk}
use Rattle.laws.specs.Lists.{all_of}
use Rattle.laws.proofs.Branches.{either}
use Rattle.bus.specs.Part.{idle}
use Rattle.bus.proofs.Defaults.{within}
use Rattle.page.specs.declared.Page.{Page}
use Rattle.page.specs.declared.PageChoice.{PageChoice}
use Rattle.page.specs.Page.{no_page, power_on_page}
use Rattle.page.specs.Choice.{usual_page, page_granted, chosen_page}
use Rattle.unpaged.specs.Unpaged.{power_on_unpaged}
use Rattle.device.specs.declared.Done.{Done}
use Rattle.device.specs.Device.{device, Choice, choice, usual, supported, granted, chosen_unpaged, power_on, power_on_by}
use Rattle.device.specs.Step.{done}
use Rattle.device.proofs.PowerOn.{usual-granted, usual-device}
use Rattle.stream.specs.Stream.{State, state}
use Rattle.layout.specs.Form.{get_all, store_all, FitAll}
use Rattle.layout.specs.Layout.{part_form, account_form, unpaged_form, page_form, device_form, state_form, choice_form, pages_in, choices_in, choice_wide, choices_size, pages_from, size, unpaged_at}
use Rattle.layout.specs.State.{encode}
use Rattle.layout.proofs.Laws.{unpaged-fits, state-back}
use Rattle.layout.proofs.Shapes.{shape_fits}
use Rattle.layout.proofs.EightPages.{whole_wide, choice-at}
use Rattle.layout.proofs.Kept.{part-fits}
use Rattle.layout.proofs.StoredPart.{idle-sized}
use Rattle.buffer.specs.Buffer.{power_fed, power_gives, powered_by, power_by_fed, power_by_gives}
use Rattle.buffer.specs.Private.{fresh, choices_granted}
use Rattle.buffer.proofs.Rules.{power_on-shape, chosen_shape}
use Rattle.buffer.proofs.Changing.{page_of}

-- ---- the whole state stored

chosen_device : (cs : List PageChoice) → power_on (choice cs) ≡ device power_on_unpaged (map chosen_page cs)
unfolding power_on chosen_unpaged
chosen_device cs = refl

-- the device that power-on leaves has these pages, as wide as their places
module _ (ps : List Page) (eight : length ps ≡ 8) (fits : FitAll page_form ps) where
  abbrev whole : State
  whole = state idle (device power_on_unpaged ps)

  whole-fits : state_form.Fits whole
  unfolding state_form device_form
  whole-fits = (part-fits idle idle-sized, (unpaged-fits power_on_unpaged, (eight, fits)))

  whole-store : (s : List ℕ)
      → store_all page_form (unpaged_form.store (part_form.store s 0 idle) unpaged_at power_on_unpaged) pages_from ps ≡ state_form.store s 0 whole
  unfolding state_form part_form device_form unpaged_form account_form
  whole-store s = refl

  whole-made : (s : List ℕ) → length s ≡ size → (b t : List ℕ) → b ≡ fresh s → t ≡ store_all page_form b pages_from ps → t ≡ encode whole
  unfolding encode
  whole-made s l b t eb et =
      et ∙ ap (λ (m : List ℕ). store_all page_form m pages_from ps) eb
      ∙ whole-store s
      ∙ ap (λ (m : List ℕ). state_form.store m 0 whole) (sym (append-nil s))
      ∙ state-back.stored whole whole-fits [] s [] (l ∙ sym whole_wide)
      ∙ append-nil (state_form.put whole)

usual-all : (n : ℕ) → FitAll page_form (replicate n power_on_page)
usual-all zero = tt
usual-all (suc n) = (shape_fits power_on_page power_on-shape, usual-all n)

chosen_all : (n : ℕ) (cs : List ℕ) (o : ℕ) → FitAll page_form (map chosen_page (get_all choice_form n cs o))
chosen_all zero cs o = tt
chosen_all (suc n) cs o = (shape_fits _ (chosen_shape cs o), chosen_all n cs (o + choice_form.width))

pub power_fits : state_form.Fits (state idle (power_on (usual 8)))
power_fits = rw (usual-device 8) (whole-fits (replicate 8 power_on_page) refl (usual-all 8))

pub chosen_fits : (cs : List ℕ) → state_form.Fits (state idle (power_on (choice (choices_in cs))))
chosen_fits cs = rw (chosen_device (choices_in cs)) (whole-fits (map chosen_page (choices_in cs)) refl (chosen_all 8 cs 0))

pub powered-made : (s : List ℕ) → length s ≡ size → (b t : List ℕ) → b ≡ fresh s → t ≡ store_all page_form b pages_from (replicate 8 power_on_page) → t ≡ power_fed s
unfolding power_fed
powered-made s l b t eb et =
    rw (eq-eqb (length s) size l, usual-device 8) (whole-made (replicate 8 power_on_page) refl (usual-all 8) s l b t eb et)

pub chosen_made : (cs s : List ℕ) → length s ≡ size → (b t : List ℕ) → b ≡ fresh s → t ≡ store_all page_form b pages_from (map chosen_page (choices_in cs))
    → t ≡ encode (state idle (power_on (choice (choices_in cs))))
chosen_made cs s l b t eb et =
    rw (chosen_device (choices_in cs)) (whole-made (map chosen_page (choices_in cs)) refl (chosen_all 8 cs 0) s l b t eb et)

-- ---- a buffer of another length, and power-on of one, t, that has the right length

module _ (s : List ℕ) (n : length s ≡ size → ⊥) where
  pub power_refused : (15 ≡ power_gives s) × (s ≡ power_fed s)
  unfolding power_gives power_fed
  power_refused = (rw (ne_eqb (length s) size n), rw (ne_eqb (length s) size n))

  pub by-refused : (cs : List ℕ) → (15 ≡ power_by_gives s cs) × (s ≡ power_by_fed s cs)
  unfolding power_by_gives power_by_fed
  by-refused cs = (rw (ne_eqb (length s) size n), rw (ne_eqb (length s) size n))

pub power_taken : (s t n : List ℕ) → length s ≡ size → t ≡ s → n ≡ power_fed t → (0 ≡ power_gives s) × (n ≡ power_fed s)
unfolding power_gives
power_taken s t n l e f = (rw (eq-eqb (length s) size l), f ∙ ap power_fed e)

-- ---- power-on by choices as bytes: what the test of them says

both-passed : {A : Type 0} (a b : Bool) (x y : A) → (a && b) ≡ true → cond a (cond b x y) y ≡ x
both-passed true true x y e = refl
both-passed true false x y e = absurd (false≢true e)
both-passed false b x y e = absurd (false≢true e)

one_failed : {A : Type 0} (a b : Bool) (x y : A) → (a && b) ≡ false → cond a (cond b x y) y ≡ y
one_failed true true x y e = absurd (false≢true (sym e))
one_failed true false x y e = refl
one_failed false b x y e = refl

module _ (cs : List ℕ) where
  by_tests : powered_by cs
      ≡ cond (eqb (length cs) choices_size)
      (cond (all_of page_granted (choices_in cs)) (done (power_on (choice (choices_in cs))) 0) (done (power_on (usual 8)) 27))
      (done (power_on (usual 8)) 27)
  unfolding powered_by power_on_by granted supported
  by_tests = refl

  pub granted-by : choices_granted cs ≡ true → powered_by cs ≡ done (power_on (choice (choices_in cs))) 0
  unfolding choices_granted
  granted-by e = by_tests ∙ both-passed (eqb (length cs) choices_size) (all_of page_granted (choices_in cs)) _ _ e

  pub refused-by : choices_granted cs ≡ false → powered_by cs ≡ done (power_on (usual 8)) 27
  unfolding choices_granted
  refused-by e = by_tests ∙ one_failed (eqb (length cs) choices_size) (all_of page_granted (choices_in cs)) _ _ e

  module _ (s : List ℕ) (l : length s ≡ size) (n : List ℕ) where
    -- with choices ds that are the granted ones
    pub granted-gives : (ds : List ℕ) → (choices_granted cs ≡ true) × (ds ≡ cs) → n ≡ encode (state idle (power_on (choice (choices_in ds))))
        → (0 ≡ power_by_gives s cs) × (n ≡ power_by_fed s cs)
    unfolding power_by_gives power_by_fed
    granted-gives ds e en = (
      rw (eq-eqb (length s) size l, granted-by e.0),
      rw (eq-eqb (length s) size l, granted-by e.0) (en ∙ ap (λ (x : List ℕ). encode (state idle (power_on (choice (choices_in x))))) e.1),
    )

    pub refused-gives : choices_granted cs ≡ false → (t : List ℕ) → t ≡ s → n ≡ power_fed t → (27 ≡ power_by_gives s cs) × (n ≡ power_by_fed s cs)
    unfolding power_by_gives power_by_fed power_fed
    refused-gives e t et en =
        (rw (eq-eqb (length s) size l, refused-by e), rw (refused-by e) (rw et at en))

  -- the test of them, where they have the right length, and where they have another
  pub granted-is : (r : Bool) (ds : List ℕ) → IsWholeChunk cs ds choices_size → r ≡ all_of page_granted (choices_in ds) → r ≡ choices_granted cs
  unfolding choices_granted
  granted-is r ds w e = rw (eq-eqb (length cs) choices_size w.long) (e ∙ ap (λ (x : List ℕ). all_of page_granted (choices_in x)) w.same)

  pub granted-not : (length cs ≡ choices_size → ⊥) → choices_granted cs ≡ false
  unfolding choices_granted
  granted-not l = rw (ne_eqb (length cs) choices_size l)

-- the choice that the device is powered on by, which is one that power-on grants
pub record ByChoice (cs : List ℕ) : Type 0 where
  pub x : Choice
  pub is_granted : granted x ≡ true
  pub same : (powered_by cs).device ≡ power_on x
  pub fits : state_form.Fits (state idle (power_on x))

pub by_choice : (cs : List ℕ) → ByChoice cs
unfolding choices_granted granted supported
by_choice cs =
    either (choices_granted cs)
    (λ y. record {
      x = choice (choices_in cs);
      is_granted = ((and-eq-true_iff (eqb (length cs) choices_size) (all_of page_granted (choices_in cs))).0 y).1;
      same = ap (λ (q : Done). q.device) (granted-by cs y);
      fits = chosen_fits cs;
    })
    (λ n. record { x = usual 8; is_granted = usual-granted 8; same = ap (λ (q : Done). q.device) (refused-by cs n); fits = power_fits })

-- every page by its choice
pub chosen_mapped : (cs s : List ℕ) → ((k : ℕ) → k < 8 → page_of s k ≡ chosen_page (choice_form.get cs (choice_wide * k)))
    → pages_in s ≡ map chosen_page (choices_in cs)
chosen_mapped cs s h =
    ext_get_or no_page (pages_in s) (map chosen_page (choices_in cs)) refl
    (λ k m. h k m ∙ ap chosen_page (sym (choice-at cs k m usual_page)) ∙ sym (get_or-map chosen_page (choices_in cs) k usual_page)
    ∙ within (map chosen_page (choices_in cs)) k (chosen_page usual_page) no_page m)
