use Rattle.tree.proofs.CopyDescent.{descent_law}
use Rattle.tree.proofs.copy_laws.descent_stands.Goals as goal

pub returns : goal.returns
returns c = descent_law
