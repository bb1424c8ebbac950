use Rattle.tree.proofs.CopyMemory.{memory_law}
use Rattle.tree.proofs.copy_laws.memory_stands.Goals as goal

pub returns : goal.returns
returns c = memory_law
