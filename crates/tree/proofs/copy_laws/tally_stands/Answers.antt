use Rattle.tree.proofs.CopyDescent.{tally_law}
use Rattle.tree.proofs.copy_laws.tally_stands.Goals as goal

pub returns : goal.returns
returns c = tally_law
