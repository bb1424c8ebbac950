use Rattle.std.proofs.Common.{[], ◌∙◌, sym, inl, inr}
use Rattle.searches.specs.Sought.{sought}
use Rattle.searches.proofs.PageWalk.{passed, cut_off, fetched, leaf_walked, inner_walked, turned_more, turned_out}
use Rattle.searches.proofs.walking.+walk.Goals as goal

pub walk_page-returns-in_default : goal.walk_page-returns-in_default
walk_page-returns-in_default g t c =
    passed (sought g.O.PointOrder.meaning c.args.request.now) (g.S.PageStore.meaning c.args.store.now) c.args.at c.args.end c.args.next c.args.finds.now c.in_default.ensures

pub walk_page-returns-then-is_err : goal.walk_page-returns-then-is_err
walk_page-returns-then-is_err g t c =
    cut_off (sought g.O.PointOrder.meaning c.args.request.now) (g.S.PageStore.meaning c.args.store.now) c.args.at c.args.end c.args.next c.args.finds.now
    c.in-Some.a c.in-Some.ensures c.fetch.result (g.S.PageStore.meaning c.fetch.new.store) _ _ (sym c.is_err.ensures.value ∙ c.if-is_err.true) c.fetch.ensures

pub walk_page-returns-then-at-le1 : goal.walk_page-returns-then-at-le1
walk_page-returns-then-at-le1 g t c =
    leaf_walked (sought g.O.PointOrder.meaning c.args.request.now) (g.S.PageStore.meaning c.args.store.now) c.args.at c.args.end c.args.next c.args.finds.now
    c.in-Some.a c.in-Some.ensures (g.S.PageStore.meaning c.fetch.new.store) [] c.fetch.new.into
    (fetched _ _ _ _ c.fetch.result _ _ (sym c.is_err.ensures.value ∙ c.if-is_err.false) c.fetch.ensures)
    c.as_slice-entries.result.now (c.as_slice-entries.ensures ∙ c.of_page-list.ensures)
    c.put_finds.result c.first_past.result c.put_finds.new.finds c.if-at-le1.true c.put_finds.ensures c.first_past.ensures

pub walk_page-returns : goal.walk_page-returns
walk_page-returns g t c =
    inner_walked (sought g.O.PointOrder.meaning c.args.request.now) (g.S.PageStore.meaning c.args.store.now) c.args.at c.args.end c.args.next c.args.finds.now
    c.in-Some.a c.in-Some.ensures (g.S.PageStore.meaning c.fetch.new.store) [] c.fetch.new.into
    (fetched _ _ _ _ c.fetch.result _ _ (sym c.is_err.ensures.value ∙ c.if-is_err.false) c.fetch.ensures)
    c.as_slice-entries.result.now (c.as_slice-entries.ensures ∙ c.of_page-list.ensures)
    c.walk_children-below.result _ c.walk_children-below.new.finds c.if-at-le1.false c.walk_children-below.ensures

pub walk_children-returns : goal.walk_children-returns
walk_children-returns g t c =
    turned_out (sought g.O.PointOrder.meaning c.args.request.now) (g.S.PageStore.meaning c.args.store.now) c.args.level c.args.children.now c.args.end c.args.next c.args.finds.now
    c.loop-i.i c.loop-i.walked _ _ c.loop-i.invariant.1 (inl c.loop-i-test.false)

pub walk_children-returns-in_default : goal.walk_children-returns-in_default
walk_children-returns-in_default g t c =
    turned_out (sought g.O.PointOrder.meaning c.args.request.now) (g.S.PageStore.meaning c.args.store.now) c.args.level c.args.children.now c.args.end c.args.next c.args.finds.now
    _ _ _ _
    (turned_more (sought g.O.PointOrder.meaning c.args.request.now) (g.S.PageStore.meaning c.args.store.now) c.args.level c.args.children.now c.args.end c.args.next c.args.finds.now
    c.loop-i.i c.loop-i.walked _ _ c.loop-i.invariant.1 c.end_of.result c.walk_page-part.result _ c.walk_page-part.new.finds c.loop-i.invariant.0 c.loop-i-test.true
    c.end_of.ensures.inside c.end_of.ensures.last c.walk_page-part.ensures)
    (inr c.in_default.not-Done)

pub walk_children-loop-i-preserved : goal.walk_children-loop-i-preserved
walk_children-loop-i-preserved g t c = (
  c.in-Done.is,
  turned_more (sought g.O.PointOrder.meaning c.args.request.now) (g.S.PageStore.meaning c.args.store.now) c.args.level c.args.children.now c.args.end c.args.next c.args.finds.now
      c.loop-i.i c.loop-i.walked _ _ c.loop-i.invariant.1 c.end_of.result c.walk_page-part.result _ c.walk_page-part.new.finds c.loop-i.invariant.0 c.loop-i-test.true
      c.end_of.ensures.inside c.end_of.ensures.last c.walk_page-part.ensures,
)
