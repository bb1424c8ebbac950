use Rattle.pages.proofs.Fills.{Gone}
use Rattle.pages.proofs.table.SkipTable.without.Given as goal

abbrev pub invariant-loop-b : goal.invariant-loop-b
invariant-loop-b l = Gone l.bad l.size l.b-index l.last l.places.items
