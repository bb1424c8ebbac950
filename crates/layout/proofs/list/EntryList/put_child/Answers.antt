use Rattle.layout.proofs.Lists.{written}
use Rattle.layout.proofs.Inners.{puts_one, puts_two}
use Rattle.layout.proofs.list.EntryList.put_child.Goals as goal

pub returns-in-One : goal.returns-in-One
returns-in-One c = puts_one _ _ _ _ _ _ c.in-One.is c.end_key-key.ensures (written _ _ _ _ c.deref_mut.ensures.value) c.args.address c.in-Some.ensures

pub returns-else-is_full : goal.returns-else-is_full
returns-else-is_full c = puts_two _ _ _ _ _ _ _ _ _ c.in-Two.is c.end_key-key.ensures (written _ _ _ _ c.deref_mut-in-Two.ensures.value) c.insert.ensures.items c.args.address c.in-Some.ensures
