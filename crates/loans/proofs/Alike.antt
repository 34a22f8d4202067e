-- Both devices do what `step` says, so they do the same.
-- Assumes nothing.
use mathlib.Core.Path.{◌≡◌, sym, ap, ◌∙◌}
use mathlib.Core.Bool.{true}
use mathlib.Core.List.{List}
use lib.ListN.{length}
use lib.Dec.{ltb}
use Rattle.laws.proofs.Branches.{either}
use Rattle.page.specs.declared.Page.{Page}
use Rattle.device.specs.declared.Done.{Done}
use Rattle.device.specs.Device.{usual, supported, granted, power_on_by}
use Rattle.device.specs.Step.{done}
use Rattle.device.specs.Supply.{supplies_at}
use Rattle.device.proofs.PowerOn.{usual-number, usual-granted}
use Rattle.lent.specs.declared.Outcome.{Outcome}
use Rattle.lent.specs.Lent.{beside, powered_by}
use Rattle.loans.specs.Alike.{Same, AnswerAlike, ReplyAlike, PowerOnAlike, PowerOnByAlike, SuppliesAlike}

same : (r : Done) (o : Outcome) (qs : List Page) → beside o qs ≡ r → Same r.device r.answer o qs
same r o qs e = record {
  answer = ap (λ (x : Done). x.answer) e;
  unpaged = ap (λ (x : Done). x.device.unpaged) e;
  pages = ap (λ (x : Done). x.device.pages) e;
}

pub answer-alike : AnswerAlike
unfolding AnswerAlike
answer-alike d c r o qs a b = same r o qs (b ∙ sym a)

pub reply-alike : ReplyAlike
unfolding ReplyAlike
reply-alike d c reply lentReply a b = b ∙ sym a

granted-eight : granted (usual 8) ≡ true
unfolding supported
granted-eight = usual-granted 8

pub power_on-alike : PowerOnAlike
unfolding PowerOnAlike powered_by supported
power_on-alike d ps o qs eight a b =
    same (done d 0) o qs (b ∙ rw (eight, usual-number 8, granted-eight) (ap (λ x. done x 0) (sym a)))

pub power_on-by_alike : PowerOnByAlike
unfolding PowerOnByAlike powered_by power_on_by supported
power_on-by_alike cs r ps o qs as_many eight a b = same r o qs (b ∙ rw (eight, a, as_many))

pub supplies-alike : SuppliesAlike
unfolding SuppliesAlike supplies_at
supplies-alike d i r s a b = b ∙ either (ltb i (length d.pages)) (λ e. rw e) (λ e. rw e) ∙ sym a
