use Rattle.std.proofs.Common.{map, take}
use Rattle.exports.specs.Batches.{lodging, onward, opened}
use Rattle.exports.specs.Standing.{StandsAt}
use Rattle.exports.proofs.batch.lodge_all.Given as goal

-- the first i points are lodged
abbrev pub invariant-loop-i : goal.invariant-loop-i
invariant-loop-i g l =
    StandsAt g.S.PageStore.meaning g.O.PointOrder.meaning l.fn.store l.fn.order (onward (map lodging (take l.i l.points)) (opened l.charge)) l.index
