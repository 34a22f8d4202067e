-- `device::steps::written` meets its contract.
-- Assumes nothing.
use Rattle.std.proofs.Common.{◌≡◌, refl, ◌<◌, length, sym, ◌∙◌, arith, rules}
use Rattle.std.proofs.Math.ListN.{length-set}
use Rattle.laws.proofs.Folds.{length-mapped}
use Rattle.laws.proofs.Places.{pair_same}
use Rattle.page.specs.Page.{no_page}
use Rattle.page.specs.Status.{risen}
use Rattle.page.proofs.Bits.{risen-none}
use Rattle.writes.specs.Left.{page_left}
use Rattle.device.specs.Private.{end_of}
use Rattle.device.proofs.Range.{in_order, acts_within, map-none, map-agree, map_more, pair_more, same_length, same_here}
use Rattle.device.proofs.Written.{all_written}
use Rattle.device.proofs.steps.written.Goals as goal

pub loop-k-init : goal.loop-k-init
loop-k-init c =
    let a = c.args in
    record {
      unpaged = refl;
      whole = search (rules, length-mapped);
      changed = map-none no_page (page_left a.w) a.d.now.pages _;
      rose = sym (pair_same no_page risen risen-none a.d.now.pages);
    }

pub loop-k-preserved : goal.loop-k-preserved
loop-k-preserved c =
    let l = c.loop-k in
    let first = c.acted_on-start.result.start in
    let a = c.args in
    let q = c.page_left-q.result in
    let f = page_left a.w in
    let is = l.invariant.changed in
    let ps = a.d.now.pages in
    let here = same_here no_page f ps l.d.pages first l.k is in
    let long = same_length no_page f ps l.d.pages first l.k is in
    let order = in_order a.d.now.unpaged.page in
    let r = c.acted_on-start.ensures in
    let small : l.k < length ps = omega (arith, r.first, r.last, order) in
    record {
      unpaged = l.invariant.unpaged;
      whole = length-set l.d.pages l.k q ∙ l.invariant.whole;
      changed = map_more no_page f ps l.d.pages first l.k is q (omega arith) small c.page_left-q.ensures;
      rose = rw (l.invariant.rose, c.risen-rose.ensures, here) (sym (pair_more no_page f risen risen-none ps l.d.pages l.k q small long here));
    }

pub returns : goal.returns
returns c =
    let l = c.loop-k in
    let a = c.args in
    let r = c.acted_on-start.ensures in
    let long : length a.d.now.pages ≡ 8 = search (rules, length-mapped) in
    let order = in_order a.d.now.unpaged.page in
    let done : l.k ≡ end_of a.d.now.unpaged.page = omega (arith, r.first, r.last, order) in
    let is = rw (done, r.first) at l.invariant.changed in
    simp (c.alert_after-d.ensures, c.unpaged_left-d.ensures, l.invariant.unpaged)
    (all_written a.d.now a.w l.d.pages l.rose
    (is ∙ map-agree no_page (page_left a.w) _ _ a.d.now.pages (λ i lt. acts_within a.d.now.unpaged i c.requires (omega (arith, long))))
    l.invariant.rose)
