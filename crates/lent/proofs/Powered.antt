-- What power-on by choices leaves, by its answer.
-- Assumes nothing.
use Prim.Native.Nat.{ℕ}
use mathlib.Core.Path.{◌≡◌, refl, sym, ap, subst, ◌∙◌}
use mathlib.Core.Bool.{Bool, true, false, ◌&&◌, and-eq-true_iff}
use mathlib.Core.List.{List}
use native.Mathlib.Omega.{arith}
use lib.Dec.{eqb}
use lib.ListN.{length, replicate, length-replicate}
use borrow.Author.Tests.{eqb-true, eq-eqb}
use Rattle.laws.specs.Lists.{all_of}
use Rattle.laws.proofs.Branches.{either}
use Rattle.page.specs.declared.Page.{Page}
use Rattle.page.specs.declared.PageChoice.{PageChoice}
use Rattle.page.specs.Page.{power_on_page}
use Rattle.page.specs.Choice.{page_granted}
use Rattle.unpaged.specs.Unpaged.{power_on_unpaged}
use Rattle.device.specs.declared.Device.{Device}
use Rattle.device.specs.Device.{device, choice, supported, granted, chosen_unpaged, power_on}
use Rattle.device.specs.Step.{done}
use Rattle.device.proofs.PowerOn as power
use Rattle.records.specs.Records.{chosen_pages}
use Rattle.records.proofs.Choices.{all_chosen}
use Rattle.lent.specs.Lent.{powered_by, powered}
use Rattle.lent.specs.PowerOn.{power_on_answer, PoweredAs, PowerOnByLeaves}

module _ (ps : List Page) (cs : List PageChoice) where
  -- as many choices as records, and each of them granted
  abbrev taken : Bool
  taken = eqb (length cs) (length ps) && all_of page_granted cs

  as_many : taken ≡ true → length cs ≡ length ps
  as_many t = eqb-true (length cs) (length ps) ((and-eq-true_iff (eqb (length cs) (length ps)) (all_of page_granted cs)).0 t).0

  module _ (s : supported (length ps) ≡ true) where
    each-granted : (eqb (length cs) (length ps) && granted (choice cs)) ≡ taken
    unfolding granted
    each-granted =
        either (eqb (length cs) (length ps))
        (λ e. let same : length cs ≡ length ps = eqb-true (length cs) (length ps) e in rw (e, same, s))
        (λ e. rw e)

  -- ---- the three cases of the definition

  pub is_kept : supported (length ps) ≡ false → powered_by (choice cs) ps ≡ done (device power_on_unpaged ps) 15
  unfolding powered_by chosen_unpaged
  is_kept s = rw s

  pub is_usual : supported (length ps) ≡ true → taken ≡ false → powered_by (choice cs) ps ≡ done (device power_on_unpaged (replicate (length ps) power_on_page)) 27
  unfolding powered_by
  is_usual s t = rw (s, each-granted s, t, power.usual-device (length ps))

  is_chosen : supported (length ps) ≡ true → taken ≡ true → powered_by (choice cs) ps ≡ done (power_on (choice cs)) 0
  unfolding powered_by
  is_chosen s t = rw (s, each-granted s, t)

  each-by : taken ≡ true → device power_on_unpaged (chosen_pages (length ps) cs) ≡ power_on (choice cs)
  unfolding power_on chosen_unpaged
  each-by t = ap (device power_on_unpaged) (ap (λ (m : ℕ). chosen_pages m cs) (sym (as_many t)) ∙ all_chosen cs)

  pub is_each : supported (length ps) ≡ true → taken ≡ true → powered_by (choice cs) ps ≡ done (device power_on_unpaged (chosen_pages (length ps) cs)) 0
  is_each s t = is_chosen s t ∙ sym (ap (λ (d : Device). done d 0) (each-by t))

  -- ---- what each answer leaves

  as_kept : supported (length ps) ≡ false → PoweredAs ps cs (done (device power_on_unpaged ps) 15)
  unfolding power_on_answer supported
  as_kept s = record {
    answer = rw s;
    unpaged = refl;
    number = refl;
    fifteen = λ z. refl;
    twenty_seven = λ z. absurd (omega (arith, z));
    each = λ z. absurd (omega (arith, z));
  }

  as_usual : supported (length ps) ≡ true → taken ≡ false → PoweredAs ps cs (done (device power_on_unpaged (replicate (length ps) power_on_page)) 27)
  unfolding power_on_answer supported
  as_usual s t = record {
    answer = rw (s, t);
    unpaged = refl;
    number = length-replicate (length ps) power_on_page;
    fifteen = λ z. absurd (omega (arith, z));
    twenty_seven = λ z. refl;
    each = λ z. absurd (omega (arith, z));
  }

  chosen_unpaged_lem : (power_on (choice cs)).unpaged ≡ power_on_unpaged
  unfolding power_on chosen_unpaged
  chosen_unpaged_lem = refl

  as_chosen : supported (length ps) ≡ true → taken ≡ true → PoweredAs ps cs (done (power_on (choice cs)) 0)
  unfolding power_on_answer supported
  as_chosen s t = record {
    answer = rw (s, t);
    unpaged = chosen_unpaged_lem;
    number = (power.powered (choice cs)).whole ∙ as_many t;
    fifteen = λ z. absurd (omega (arith, z));
    twenty_seven = λ z. absurd (omega (arith, z));
    each = λ z i h. (power.powered (choice cs)).page i (rw (as_many t) h);
  }

pub power_on-by_leaves : PowerOnByLeaves
unfolding PowerOnByLeaves
power_on-by_leaves ps cs =
    either (supported (length ps))
    (λ s. either (taken ps cs)
    (λ t. subst (PoweredAs ps cs) (sym (is_chosen ps cs s t)) (as_chosen ps cs s t))
    (λ t. subst (PoweredAs ps cs) (sym (is_usual ps cs s t)) (as_usual ps cs s t)))
    (λ s. subst (PoweredAs ps cs) (sym (is_kept ps cs s)) (as_kept ps cs s))

-- ---- and power-on without choices

module _ (ps : List Page) where
  pub usual_kept : supported (length ps) ≡ false → powered ps ≡ done (device power_on_unpaged ps) 15
  unfolding powered_by
  usual_kept s = rw (s, power.usual-unpaged (length ps))

  pub usual_done : supported (length ps) ≡ true → powered ps ≡ done (device power_on_unpaged (replicate (length ps) power_on_page)) 0
  unfolding powered_by
  usual_done s =
      rw (s, power.usual-number (length ps), eq-eqb (length ps) (length ps) refl, power.usual-granted (length ps), s, power.usual-device (length ps))
