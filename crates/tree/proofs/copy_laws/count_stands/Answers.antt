use Rattle.tree.proofs.CopyKept.{count_law}
use Rattle.tree.proofs.copy_laws.count_stands.Goals as goal

pub returns : goal.returns
returns c = count_law
