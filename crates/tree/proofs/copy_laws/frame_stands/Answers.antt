use Rattle.tree.proofs.CopyKept.{frame_law}
use Rattle.tree.proofs.copy_laws.frame_stands.Goals as goal

pub returns : goal.returns
returns c = frame_law
