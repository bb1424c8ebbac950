use Rattle.slots.proofs.Surveying.{Seen}
use Rattle.slots.proofs.survey.surveyed.Given as goal

abbrev pub invariant-loop-i : goal.invariant-loop-i
invariant-loop-i l = Seen l.slots l.pages l.i l.home l.used
