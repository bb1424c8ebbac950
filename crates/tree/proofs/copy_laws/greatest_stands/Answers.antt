use Rattle.tree.proofs.CopyKept.{greatest_law}
use Rattle.tree.proofs.copy_laws.greatest_stands.Goals as goal

pub returns : goal.returns
returns c = greatest_law
