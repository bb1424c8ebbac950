use Rattle.paths.proofs.LodgeEdits.{puts}
use Rattle.paths.proofs.lodge_edits.renew_child.Goals as goal

pub returns : goal.returns
returns c = puts _ _ _ _ c.put_child.result c.requires c.put_child.ensures
