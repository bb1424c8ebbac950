use Rattle.tree.proofs.CopyKept.{number_law}
use Rattle.tree.proofs.copy_laws.number_stands.Goals as goal

pub returns : goal.returns
returns c = number_law
