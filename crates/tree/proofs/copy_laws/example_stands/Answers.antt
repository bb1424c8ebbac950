use Rattle.tree.proofs.CopyExample.{eleven_law}
use Rattle.tree.proofs.copy_laws.example_stands.Goals as goal

pub returns : goal.returns
returns c = eleven_law
