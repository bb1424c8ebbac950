use Rattle.std.proofs.lemmas.Result.{err_from_is_err_and}
use Rattle.records.specs.Free.{numbers}
use Rattle.index.specs.Steps.Names.{tallying}
use Rattle.index.proofs.Tallying.{shut_refused, outside_refused, on_tree, tally_steps}
use Rattle.index.proofs.index.Index.tally.Goals as goal

pub returns-in_default-clause-step : goal.returns-in_default-clause-step
returns-in_default-clause-step g c = shut_refused c.in_default.is tallying

pub returns-in_err-address-clause-step : goal.returns-in_err-address-clause-step
returns-in_err-address-clause-step g c =
    let p = err_from_is_err_and c.from_residual.result c.from_residual.ensures.1 in
    rw (p.1, p.2) (on_tree c.in-Some.is (outside_refused c.in-Some.tree tallying c.in_err-address.ensures))

pub returns-clause-step : goal.returns-clause-step
returns-clause-step g c =
    let t = c.in-Some.tree in
    on_tree c.in-Some.is (tally_steps _ _ _ t.root.level t.root.page t.total (numbers t.free) _ _ _ c.in_ok-address.ensures c.tally.ensures)
