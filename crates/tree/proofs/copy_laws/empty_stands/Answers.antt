use Rattle.tree.proofs.CopyKept.{empty_law}
use Rattle.tree.proofs.copy_laws.empty_stands.Goals as goal

pub returns : goal.returns
returns c = empty_law
