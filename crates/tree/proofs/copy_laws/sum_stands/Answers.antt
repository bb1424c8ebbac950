use Rattle.tree.proofs.CopyKept.{sum_law}
use Rattle.tree.proofs.copy_laws.sum_stands.Goals as goal

pub returns : goal.returns
returns c = sum_law
