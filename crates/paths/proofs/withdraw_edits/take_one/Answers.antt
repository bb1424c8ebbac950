use Rattle.paths.proofs.WithdrawEditing.{few_taken}
use Rattle.paths.proofs.withdraw_edits.take_one.Goals as goal

pub returns-clause-few : goal.returns-clause-few
returns-clause-few c = few_taken _ _ _ c.remove.result c.requires c.remove.ensures
