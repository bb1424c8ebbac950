use Rattle.tree.proofs.CopySums.{total_law}
use Rattle.tree.proofs.copy_laws.total_stands.Goals as goal

pub returns : goal.returns
returns c = total_law
