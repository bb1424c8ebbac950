use Rattle.tree.proofs.CopyPlaces.{leaf_count_law}
use Rattle.tree.proofs.copy_laws.leaf_count_stands.Goals as goal

pub returns : goal.returns
returns c = leaf_count_law
