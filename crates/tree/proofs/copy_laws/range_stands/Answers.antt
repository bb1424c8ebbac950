use Rattle.tree.proofs.CopyKept.{range_law}
use Rattle.tree.proofs.copy_laws.range_stands.Goals as goal

pub returns : goal.returns
returns c = range_law
