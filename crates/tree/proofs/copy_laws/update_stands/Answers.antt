use Rattle.tree.proofs.CopyUpdate.{update_law}
use Rattle.tree.proofs.copy_laws.update_stands.Goals as goal

pub returns : goal.returns
returns c = update_law
