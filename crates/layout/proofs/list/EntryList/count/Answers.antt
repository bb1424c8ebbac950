use Rattle.layout.proofs.Leaves.{counted, uncounted}
use Rattle.layout.proofs.list.EntryList.count.Goals as goal

pub returns-in_default : goal.returns-in_default
returns-in_default c = uncounted _ _ _ c.in_default.ensures

pub returns : goal.returns
returns c = counted _ _ _ _ c.in-Ok.ensures c.deref.ensures.0
