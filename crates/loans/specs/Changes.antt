-- Answer 15 over lent records, and which of them a call may change, with any number of them and any values in them.
-- Assumes nothing.
use Rattle.std.specs.Prelude.{ℕ, ◌≡◌, false, not, ◌&&◌, List, eqb, length, get_or, replicate}
use Rattle.laws.specs.Lists.{all_of}
use Rattle.page.specs.declared.Page.{Page}
use Rattle.page.specs.declared.PageChoice.{PageChoice}
use Rattle.page.specs.Page.{no_page}
use Rattle.page.specs.Settings.{page_valid}
use Rattle.unpaged.specs.declared.Unpaged.{Unpaged}
use Rattle.unpaged.specs.Unpaged.{power_on_unpaged, unpaged_valid}
use Rattle.device.specs.Device.{device, supported}
use Rattle.device.specs.Step.{Call, clocked}
use Rattle.device.specs.Touches.{touches}
use Rattle.lent.specs.declared.Outcome.{Outcome}
use Rattle.lent.specs.Lent.{beside}
use Rattle.lent.specs.PowerOn.{PoweredAs}
use Rattle.loans.specs.Alike.{LentDone, LentReply, LentPowered, LentPoweredBy}

-- 15 goes exactly to no record or more than ninety-six, to an unpaged part with a value that is not valid, as PAGE beyond the records, and to a
-- record with one (data sheet 12.2)
unfoldable pub FifteenExactly : Type 0
FifteenExactly =
    (u : Unpaged) (ps : List Page) (c : Call) (o : Outcome) (qs : List Page) → LentDone u ps c o qs
    → eqb o.answer 15 ≡ not (supported (length ps) && unpaged_valid (length ps) u && all_of page_valid ps)

-- Records ps became qs: a write changes the selected one alone, or under FFh any; a measurement that of its page; a tick any; no other call any
-- (`touches`, data sheet 15.2).
pub record Untouched (u : Unpaged) (ps : List Page) (c : Call) (qs : List Page) : Type 0 where
  pub number : length qs ≡ length ps
  pub others : (i : ℕ) → touches (device u ps) c i ≡ false → get_or qs i no_page ≡ get_or ps i no_page

unfoldable pub RecordsStay : Type 0
RecordsStay = (u : Unpaged) (ps : List Page) (c : Call) (o : Outcome) (qs : List Page) → LentDone u ps c o qs → Untouched u ps c qs

-- under 15 no record changes, nor the unpaged part, and the reply is FFh throughout (data sheet 12.4)
unfoldable pub FifteenLeaves : Type 0
FifteenLeaves =
    (u : Unpaged) (ps : List Page) (c : Call) (o : Outcome) (qs : List Page) → LentDone u ps c o qs → o.answer ≡ 15 → (o.unpaged ≡ u) × (qs ≡ ps)

unfoldable pub FifteenReplies : Type 0
FifteenReplies =
    (u : Unpaged) (ps : List Page) (c : Call) (o : Outcome) (qs : List Page) (reply : List ℕ) → LentDone u ps c o qs → LentReply u ps c reply
    → o.answer ≡ 15 → reply ≡ replicate (clocked c) 0xFF

-- power-on with no record or more than ninety-six gets 15 and touches none; the unpaged part that it hands back is the usual one
unfoldable pub PowerOnLeaves : Type 0
PowerOnLeaves =
    (ps : List Page) (o : Outcome) (qs : List Page) → LentPowered ps o qs → supported (length ps) ≡ false
    → (o.answer ≡ 15) × (o.unpaged ≡ power_on_unpaged) × (qs ≡ ps)

-- Power-on by choices: 15 exactly with no record or more than ninety-six, 27 exactly where there are others than as many choices, or one is not
-- granted, otherwise 0; and what each answer leaves (crate lent).
unfoldable pub PowerOnByLeaves : Type 0
PowerOnByLeaves = (ps : List Page) (cs : List PageChoice) (o : Outcome) (qs : List Page) → LentPoweredBy ps cs o qs → PoweredAs ps cs (beside o qs)
