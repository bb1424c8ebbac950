use Rattle.tree.proofs.CopyDescent.{path_law}
use Rattle.tree.proofs.copy_laws.path_stands.Goals as goal

pub returns : goal.returns
returns c = path_law
