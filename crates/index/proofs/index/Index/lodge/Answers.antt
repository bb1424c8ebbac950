use Rattle.std.proofs.Common.{arith}
use Rattle.std.proofs.lemmas.Result.{err_from_is_err_and}
use Rattle.records.specs.Free.{numbers}
use Rattle.index.specs.Steps.Names.{lodging}
use Rattle.index.proofs.Settling.{after_known}
use Rattle.index.proofs.Tallying.{shut_refused, outside_refused, from_tree}
use Rattle.index.proofs.Lodging.{lodge_refused, lodge_copied}
use Rattle.index.proofs.index.Index.lodge.Goals as goal

pub returns-in_default-clause-step : goal.returns-in_default-clause-step
returns-in_default-clause-step g c = shut_refused c.in_default.is lodging

pub returns-in_err-address-clause-step : goal.returns-in_err-address-clause-step
returns-in_err-address-clause-step g c =
    let p = err_from_is_err_and c.from_residual.result c.from_residual.ensures.1 in
    rw (p.1, p.2) (from_tree c.in-Some.is (outside_refused c.in-Some.tree lodging c.in_err-address.ensures))

pub returns-in_err-copied-clause-step : goal.returns-in_err-copied-clause-step
returns-in_err-copied-clause-step g c =
    let t = c.in-Some.tree in
    let p = err_from_is_err_and c.from_residual-in_err-copied.result c.from_residual-in_err-copied.ensures.1 in
    rw (p.1, p.2) (from_tree c.in-Some.is (lodge_refused _ (g.met.O.PointOrder.lawful c.args.self.now.order) _ _ t.root.level t.root.page t.total (numbers t.free) _ _ c.in_ok-address.ensures _ c.in_err-copied.ensures))

pub returns-clause-step : goal.returns-clause-step
returns-clause-step g c =
    let t = c.in-Some.tree in
    from_tree c.in-Some.is
    (lodge_copied _ (g.met.O.PointOrder.lawful c.args.self.now.order) _ _ t.root.level t.root.page t.total (numbers t.free) _ _ c.in_ok-address.ensures _ _ _ _ _ c.in_ok-copied.ensures (λ lt. omega (arith, c.saturating_add-total.ensures))
    c.settle.ensures.header (after_known t c.settle.new.self _ _ _ c.settle.ensures.tree))
