use Rattle.tree.proofs.CopyKept.{sorted_law}
use Rattle.tree.proofs.copy_laws.sorted_stands.Goals as goal

pub returns : goal.returns
returns c = sorted_law
