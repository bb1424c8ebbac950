use Rattle.tree.proofs.CopyDescent.{writes_law}
use Rattle.tree.proofs.copy_laws.writes_stands.Goals as goal

pub returns : goal.returns
returns c = writes_law
