use Rattle.tree.proofs.CopyFinding.{find_law}
use Rattle.tree.proofs.copy_laws.find_stands.Goals as goal

pub returns : goal.returns
returns c = find_law
