use Rattle.paths.proofs.withdraw.+withdraw_at.Given as goal

abbrev pub decreases-withdraw_at : goal.decreases-withdraw_at
decreases-withdraw_at g l = l.step.at.level
