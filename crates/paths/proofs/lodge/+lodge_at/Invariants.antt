use Rattle.paths.proofs.lodge.+lodge_at.Given as goal

abbrev pub decreases-lodge_at : goal.decreases-lodge_at
decreases-lodge_at g l = l.step.at.level
