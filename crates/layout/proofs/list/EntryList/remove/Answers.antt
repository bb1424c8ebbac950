use Rattle.std.proofs.Common.{refl}
use Rattle.layout.proofs.Leaves.{removes_none, removes_one, removes_many}
use Rattle.layout.proofs.list.EntryList.remove.Goals as goal

pub returns-in_default : goal.returns-in_default
returns-in_default c = removes_none _ _ _ _ c.in_default.ensures refl

pub returns-then-deref-i-le1 : goal.returns-then-deref-i-le1
returns-then-deref-i-le1 c = removes_one _ _ _ _ _ c.in-Ok.ensures c.deref.ensures.0 c.if-deref-i-le1.true c.remove.ensures.items

pub returns-else-deref-i-le1 : goal.returns-else-deref-i-le1
returns-else-deref-i-le1 c = removes_many _ _ _ _ _ c.in-Ok.ensures c.deref.ensures.0 c.deref_mut.ensures.value c.if-deref-i-le1.false
