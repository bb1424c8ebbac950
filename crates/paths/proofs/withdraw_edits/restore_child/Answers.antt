use Rattle.layout.specs.Listed.{entries}
use Rattle.paths.proofs.WithdrawEditing.{restores_some, restores_none, few_some, few_none}
use Rattle.paths.proofs.withdraw_edits.restore_child.Goals as goal

pub returns-in-Some-clause-clears : goal.returns-in-Some-clause-clears
returns-in-Some-clause-clears c = restores_some _ c.in-Some.page _ _ c.put_child.result c.args.left c.requires c.in-Some.is c.put_child.ensures

pub returns-in-Some-clause-few : goal.returns-in-Some-clause-few
returns-in-Some-clause-few c = few_some _ c.in-Some.page _ _ c.put_child.result c.requires c.put_child.ensures

pub returns-in-None-clause-clears : goal.returns-in-None-clause-clears
returns-in-None-clause-clears c = restores_none c.args.address (entries c.args.list.now) _ c.args.left c.in-None.is c.drop_child.ensures

pub returns-in-None-clause-few : goal.returns-in-None-clause-few
returns-in-None-clause-few c = few_none _ _ _ c.requires c.drop_child.ensures
