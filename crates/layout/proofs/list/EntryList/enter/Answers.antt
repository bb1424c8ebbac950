use Rattle.std.proofs.Common.{sym, refl, arith}
use Rattle.std.proofs.lemmas.Bool.{eqb-true, eqb-false}
use Rattle.layout.specs.Listed.{entries}
use Rattle.layout.proofs.Leaves.{enters_full, enters_there, enters_none, enters_new}
use Rattle.layout.proofs.list.EntryList.enter.Goals as goal

pub returns-then-e : goal.returns-then-e
returns-then-e c = enters_full _ _ _ _ c.in-Ok.ensures c.deref_mut.ensures.value c.if-e.true

pub returns-else-e : goal.returns-else-e
returns-else-e c = enters_there _ _ _ _ c.in-Ok.ensures c.deref_mut.ensures.value c.if-e.false

pub returns-in-Err : goal.returns-in-Err
returns-in-Err c = enters_none c.args.address (entries c.args.self.now) _ _ c.in-Err.ensures (eqb-true _ _ (sym (c.if-is_full.ensures.value))) refl

pub returns-in-Err-2 : goal.returns-in-Err-2
returns-in-Err-2 c = enters_new c.args.address (entries c.args.self.now) _ _ c.in-Err.ensures (let n = eqb-false _ _ (sym c.if-is_full.ensures.value) in omega (arith, c.is_full.ensures.fits)) c.insert.ensures.items
