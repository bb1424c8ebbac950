use Rattle.tree.proofs.CopyKept.{opened_law}
use Rattle.tree.proofs.copy_laws.opened_stands.Goals as goal

pub returns : goal.returns
returns c = opened_law
