use Rattle.std.proofs.Common.{ap}
use Rattle.std.proofs.lemmas.Result.{err_from_is_err_and}
use Rattle.records.specs.Free.{numbers}
use Rattle.orders.specs.declared.point.Point.{Point}
use Rattle.index.specs.Steps.Names.{from_low, to_high}
use Rattle.index.proofs.Tallying.{shut_refused, outside_refused, on_tree}
use Rattle.index.proofs.Searching.{outside_at, inside_at, searched_at}
use Rattle.index.proofs.index.Index.search_tree.Goals as goal

pub returns-in_default-clause-step : goal.returns-in_default-clause-step
returns-in_default-clause-step g c = shut_refused c.in_default.is from_low

pub returns-in_err-located-clause-step : goal.returns-in_err-located-clause-step
returns-in_err-located-clause-step g c =
    let p = err_from_is_err_and c.from_residual.result c.from_residual.ensures.1 in
    rw (p.1, p.2) (on_tree c.in-Some.is (outside_refused c.in-Some.tree from_low (outside_at (ap (λ (p : Point). p.coords) c.low.ensures) c.in_err-located.ensures)))

pub returns-in_err-located-2-clause-step : goal.returns-in_err-located-2-clause-step
returns-in_err-located-2-clause-step g c =
    let p = err_from_is_err_and c.from_residual-in_err-located-2.result c.from_residual-in_err-located-2.ensures.1 in
    rw (p.1, p.2) (on_tree c.in-Some.is (outside_refused c.in-Some.tree to_high (outside_at (ap (λ (p : Point). p.coords) c.high.ensures) c.in_err-located-2.ensures)))

pub returns-clause-step : goal.returns-clause-step
returns-clause-step g c =
    let t = c.in-Some.tree in
    on_tree c.in-Some.is
    (searched_at _ _ _ t.root.level t.root.page t.total (numbers t.free) _ _ (inside_at (ap (λ (p : Point). p.coords) c.low.ensures) c.in_ok-located.ensures)
    (inside_at (ap (λ (p : Point). p.coords) c.high.ensures) c.in_ok-located-2.ensures) c.top_of-top.ensures c.search.ensures)
