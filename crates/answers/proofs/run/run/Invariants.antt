use Rattle.std.proofs.Common.{◌≡◌, take}
use Rattle.index.specs.View.{view}
use Rattle.answers.specs.Runs.{Chain}
use Rattle.answers.proofs.run.run.Given as goal

abbrev pub invariant-loop-asked : goal.invariant-loop-asked
invariant-loop-asked g l =
    Chain (g.O.PointOrder.meaning l.initial.index.order) l.n (view g.S.PageStore.meaning l.initial.index) (take l.asked-index l.calls) l.answers.items (view g.S.PageStore.meaning l.index)
    × (l.index.order ≡ l.initial.index.order)
