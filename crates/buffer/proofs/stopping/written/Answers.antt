-- `buffer::stopping::written` meets its contract.
-- Assumes nothing.
use Rattle.buffer.proofs.Calling.{written-made}
use Rattle.buffer.proofs.stopping.written.Goals as goal

pub returns : goal.returns
returns c =
    let ended =
    written-made _ c.requires _ c.unpaged_of-u.ensures _ _ _ _ _ _ _ _ _ c.page_at-p.ensures c.judged-write.ensures.answer c.judged-write.ensures.write
    c.write_left-turn.ensures c.put_page.ensures c.rest-rose.ensures.rose c.rest-rose.ensures.left c.any_bit-standing.ensures c.finished-outcome.ensures in
    let r = ended _ c.set_unpaged.ensures in
    record { answer = r.0; left = r.1 }
