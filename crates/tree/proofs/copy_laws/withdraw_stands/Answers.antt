use Rattle.tree.proofs.CopyKept.{withdraw_law}
use Rattle.tree.proofs.copy_laws.withdraw_stands.Goals as goal

pub returns : goal.returns
returns c = withdraw_law
