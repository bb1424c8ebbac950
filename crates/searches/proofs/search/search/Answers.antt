use Rattle.std.proofs.Common.{◌≡◌, arith, rules}
use Rattle.searches.specs.Sought.{sought}
use Rattle.searches.specs.Searching.{nothing}
use Rattle.searches.proofs.Searched.{none_left, walked}
use Rattle.searches.proofs.search.search.Goals as goal

pub returns-in_default : goal.returns-in_default
returns-in_default g c =
    let q = sought g.O.PointOrder.meaning c.args.request.now in
    let m = g.S.PageStore.meaning c.args.store.now in
    let d = c.default-in_default.ensures in
    let empty : c.default-in_default.result ≡ nothing = λ i. record { count = d.0 i; reads = d.1.0 i; ending = d.1.1 i } in
    rw empty (none_left q m c.args.root c.args.top c.args.memory.now c.in_default.ensures)

pub returns : goal.returns
returns g c =
    walked (sought g.O.PointOrder.meaning c.args.request.now) (g.S.PageStore.meaning c.args.store.now) c.args.root c.args.top c.args.memory.now
    c.in-Some.first c.walk_page-part.result (g.S.PageStore.meaning c.walk_page-part.new.store) c.over-finds.result c.walk_page-part.new.finds _ c.len.result
    (omega (arith, c.if-root-eq0.false)) c.in-Some.ensures c.over-finds.ensures.memory c.over-finds.ensures.empty c.walk_page-part.ensures c.walk_page-part.new.finds.within (search rules) c.len.ensures
