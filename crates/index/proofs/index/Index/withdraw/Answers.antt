use Rattle.std.proofs.lemmas.Result.{err_from_is_err_and}
use Rattle.records.specs.Free.{numbers}
use Rattle.index.specs.Steps.Names.{withdrawing}
use Rattle.index.proofs.Settling.{after_known}
use Rattle.index.proofs.Tallying.{shut_refused, outside_refused, from_tree}
use Rattle.index.proofs.Withdrawing.{withdraw_refused, withdraw_copied}
use Rattle.index.proofs.index.Index.withdraw.Goals as goal

pub returns-in_default-clause-step : goal.returns-in_default-clause-step
returns-in_default-clause-step g c = shut_refused c.in_default.is withdrawing

pub returns-in_err-address-clause-step : goal.returns-in_err-address-clause-step
returns-in_err-address-clause-step g c =
    let p = err_from_is_err_and c.from_residual.result c.from_residual.ensures.1 in
    rw (p.1, p.2) (from_tree c.in-Some.is (outside_refused c.in-Some.tree withdrawing c.in_err-address.ensures))

pub returns-in_err-copied-clause-step : goal.returns-in_err-copied-clause-step
returns-in_err-copied-clause-step g c =
    let t = c.in-Some.tree in
    let p = err_from_is_err_and c.from_residual-in_err-copied.result c.from_residual-in_err-copied.ensures.1 in
    rw (p.1, p.2) (from_tree c.in-Some.is (withdraw_refused _ _ _ t.root.level t.root.page t.total (numbers t.free) _ _ c.in_ok-address.ensures _ c.in_err-copied.ensures))

pub returns-clause-step : goal.returns-clause-step
returns-clause-step g c =
    let t = c.in-Some.tree in
    from_tree c.in-Some.is
    (withdraw_copied _ _ _ t.root.level t.root.page t.total (numbers t.free) _ _ c.in_ok-address.ensures _ _ _ _ _ c.in_ok-copied.ensures c.saturating_sub-total.ensures
    c.settle.ensures.header (after_known t c.settle.new.self _ _ _ c.settle.ensures.tree))
