-- `reads::data::with_check` meets its contract.
-- Assumes nothing.
use Rattle.std.proofs.Common.{◌≡◌, ℕ, List, [], ◌∷◌, ◌++◌, sym, ap, ◌∙◌}
use Rattle.pec.specs.Pec.{pec, pec_from}
use Rattle.pec.proofs.Laws.{pec-append}
use Rattle.reads.specs.Data.{covered, checked}
use Rattle.reads.proofs.data.with_check.Goals as goal

-- the check k, carried on from the header, stands behind the data
appended : (header body : List ℕ) (h k : ℕ) → h ≡ pec (covered header) → k ≡ pec_from h body → body ++ (k ∷ []) ≡ checked header body
unfolding checked pec
appended header body h k start e = ap (λ (x : ℕ). body ++ (x ∷ [])) (e ∙ rw start (sym (pec-append 0 (covered header) body)))

pub returns : goal.returns
returns c =
    let a = c.args in
    c.push.ensures
    ∙ appended a.header.now a.body _ _ c.header_check.ensures (c.pec_from-check.ensures ∙ ap (pec_from c.header_check.result) c.as_slice.ensures)
