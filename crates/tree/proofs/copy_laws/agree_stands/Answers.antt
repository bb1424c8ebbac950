use Rattle.tree.proofs.CopyKept.{agree_law}
use Rattle.tree.proofs.copy_laws.agree_stands.Goals as goal

pub returns : goal.returns
returns c = agree_law
