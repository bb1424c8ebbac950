use Rattle.tree.proofs.CopyFinding.{height_law}
use Rattle.tree.proofs.copy_laws.height_stands.Goals as goal

pub returns : goal.returns
returns c = height_law
