use Rattle.tree.proofs.CopyUnique.{unique_law}
use Rattle.tree.proofs.copy_laws.unique_stands.Goals as goal

pub returns : goal.returns
returns c = unique_law
