use Rattle.searches.specs.Sought.{sought}
use Rattle.searches.proofs.LeafFinds.{Searched}
use Rattle.searches.proofs.finding.put_finds.Given as goal

abbrev pub invariant-loop-e : goal.invariant-loop-e
invariant-loop-e g l = Searched (sought g.O.PointOrder.meaning l.request) l.entries l.e-index l.initial.finds l.finds
