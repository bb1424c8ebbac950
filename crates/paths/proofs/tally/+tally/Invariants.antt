use Rattle.paths.proofs.tally.+tally.Given as goal

abbrev pub decreases-tally : goal.decreases-tally
decreases-tally g l = l.root.level
