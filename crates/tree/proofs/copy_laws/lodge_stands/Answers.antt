use Rattle.tree.proofs.CopyKept.{lodge_law}
use Rattle.tree.proofs.copy_laws.lodge_stands.Goals as goal

pub returns : goal.returns
returns c = lodge_law
