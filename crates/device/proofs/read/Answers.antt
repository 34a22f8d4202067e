-- `device::read` meets its contract.
-- Assumes nothing.
use Rattle.std.proofs.Common.{◌≡◌, ℕ, List, true, length, ap, ◌∙◌, rules}
use Rattle.laws.proofs.Folds.{length-mapped}
use Rattle.reads.specs.Reply.{reply_of}
use Rattle.reads.proofs.Numbered.{numbered_is}
use Rattle.device.specs.Device.{device, device_valid, page_shown}
use Rattle.device.specs.Step.{read, refused_device}
use Rattle.device.proofs.Calls.{shown-of_eight, read_made, sent-shown, stepped, read_left, replied}
use Rattle.device.proofs.read.Goals as goal

pub returns : goal.returns
unfolding refused_device
returns c =
    let d = c.args.d in
    let header = c.args.header.now in
    let n = length c.args.reply.now in
    let asks = numbered_is _ _ c.map_err-request.ensures.cases ∙ c.request_of.ensures in
    let long : length d.pages ≡ 8 = search (rules, length-mapped) in
    let is : device_valid d ≡ true → c.page_shown-p.result ≡ page_shown d = λ v. c.page_shown-p.ensures ∙ shown-of_eight d long v in
    let e = read_made d header n _ _ _ asks is _ _ c.is_valid.ensures c.request_answer-rule.ensures c.answered-answer.ensures in record {
      value = stepped d (read header n) _ _ e (ap (λ u. device u d.pages) c.refused-d.ensures ∙ read_left d header n _);
      reply_after = replied d (read header n) _ _ _ e (c.read_stream-stream.ensures ∙ sent-shown d header _ _ _ _ asks is e) (c.send.ensures ∙ ap (λ (l : List ℕ). reply_of l n) c.as_slice.ensures);
    }
