-- What a page keeps of a measured quantity: the latest word, and the mark that there is one; and what a write, a measurement and a tick leave
-- of them.
-- Assumes nothing.
use Prim.Native.Nat.{ℕ, ◌<◌, ◌%◌}
use mathlib.Core.Path.{◌≡◌, refl, sym, ap}
use mathlib.Core.Bool.{Bool, true, false, cond}
use mathlib.Core.List.{List}
use native.Mathlib.Omega.{arith}
use lib.Dec.{eqb}
use lib.ListN.{get_or}
use lib.Seq.{get_or-set_same, get_or-set_other}
use borrow.Author.Tests.{eqb-true, eqb-false}
use Rattle.laws.proofs.Branches.{either}
use Rattle.page.specs.declared.Page.{Page}
use Rattle.page.specs.Causes.{moved, settled, ticked}
use Rattle.page.specs.Settings.{set_measurement, set_operation, set_vout_command, set_limit, set_response, clear_bits}
use Rattle.page.specs.Status.{reading}
use Rattle.page.proofs.Chosen.{Sized}
use Rattle.writes.specs.declared.asked.Setting.{Setting}
use Rattle.writes.specs.declared.asked.Write.{Write}
use Rattle.writes.specs.Left.{applied, changed, cleared, page_left}
use Rattle.history.proofs.Effects.{left-reading}
use Rattle.history.proofs.Fields.{measured-reading}

-- what a page keeps of quantity q: a measurement of that quantity sets it, and nothing else changes it
pub record WordField (q : ℕ) (A : Type 0) : Type 0 where
  pub get : Page → A
  pub given : ℕ → A
  pub write_keeps : (w : Write) (p : Page) → get (page_left w p) ≡ get p
  pub measure_sets : (p : Page) → Sized p → (quantity word : ℕ) → quantity < 4
      → get (settled (set_measurement p quantity word)) ≡ cond (eqb quantity q) (given word) (get p)
  pub tick_keeps : (p : Page) → get (ticked p) ≡ get p

pub ticked-words : (p : Page) (q : ℕ) → (reading (ticked p) q ≡ reading p q) × ((ticked p).measured ≡ p.measured)
unfolding ticked moved reading
ticked-words p q = (refl, refl)

pub left-mark : (w : Write) (p : Page) → (page_left w p).measured ≡ p.measured
unfolding page_left changed cleared settled moved clear_bits applied set_operation set_vout_command set_limit set_response
left-mark Write.Nothing p = refl
left-mark (Write.SelectPage x) p = refl
left-mark (Write.Protect x) p = refl
left-mark (Write.Change (Setting.Operation x)) p = refl
left-mark (Write.Change (Setting.VoutCommand w)) p = refl
left-mark (Write.Change (Setting.Limit k w)) p = refl
left-mark (Write.Change (Setting.Response k x)) p = refl
left-mark (Write.Clear m) p = refl
left-mark (Write.ClearCml m) p = refl

pub measured-mark : (p : Page) → Sized p → (quantity word q : ℕ) → quantity < 4 → q < 4
    → get_or (settled (set_measurement p quantity word)).measured q false ≡ cond (eqb quantity q) true (get_or p.measured q false)
unfolding settled moved set_measurement
measured-mark p z quantity word q small few =
    let here : quantity % 4 ≡ quantity = omega arith in
    let long = z.measured in
    either (eqb quantity q)
    (λ y. rw (y, here, eqb-true quantity q y, get_or-set_same p.measured q true false (omega arith)))
    (λ n. rw (n, here, get_or-set_other p.measured quantity q true false (λ e. eqb-false quantity q n (sym e))))

module _ (q : ℕ) (few : q < 4) where
  abbrev pub reading-field : WordField q ℕ
  reading-field = record {
    get = λ p. reading p q;
    given = λ w. w;
    write_keeps = λ w p. left-reading w p q;
    measure_sets = λ p z quantity word small. measured-reading p z quantity word q small few;
    tick_keeps = λ p. (ticked-words p q).0;
  }

  abbrev pub mark-field : WordField q Bool
  mark-field = record {
    get = λ p. get_or p.measured q false;
    given = λ w. true;
    write_keeps = λ w p. ap (λ (l : List Bool). get_or l q false) (left-mark w p);
    measure_sets = λ p z quantity word small. measured-mark p z quantity word q small few;
    tick_keeps = λ p. ap (λ (l : List Bool). get_or l q false) (ticked-words p q).1;
  }
