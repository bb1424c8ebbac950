use Rattle.tree.proofs.CopyUnique.{same_law}
use Rattle.tree.proofs.copy_laws.same_stands.Goals as goal

pub returns : goal.returns
returns c = same_law
