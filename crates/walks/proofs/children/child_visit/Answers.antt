use Rattle.std.proofs.Common.{◌-◌, arith}
use Rattle.walks.proofs.ChildVisits.{key_below, begins_past, child_at}
use Rattle.walks.proofs.children.child_visit.Goals as goal
use Rattle.walks.proofs.children.child_visit.Goals.{then-i-eq0, else-i-eq0}

pub overflow_add-lo : goal.overflow_add-lo
overflow_add-lo c =
    let h = c.requires.within in
    let z = c.if-i-eq0.false in
    omega (arith, key_below c.args.entries.now _ _ (c.args.i - 1) c.requires.keys (omega arith))

pub returns : goal.returns
returns c =
    child_at _ c.args.v.hi c.args.entries.now c.args.v.lo c.args.i c.if-i-eq0.lo c.end_of.result c.requires.within
    (λ z. elim c.if-i-eq0.branch [ then-i-eq0 w ↦ w.lo-is | else-i-eq0 w ↦ absurd (w.if-i-eq0.false z) ])
    (λ k z. elim c.if-i-eq0.branch [ then-i-eq0 w ↦ absurd (omega (arith, w.if-i-eq0.true)) | else-i-eq0 w ↦ begins_past c.args.entries.now _ k _ z w.lo-is ])
    (λ l. c.end_of.ensures.inside (omega arith))
    (λ l. c.end_of.ensures.last (omega arith))
