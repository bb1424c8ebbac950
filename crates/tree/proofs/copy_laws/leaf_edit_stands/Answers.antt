use Rattle.tree.proofs.CopyPlaces.{leaf_edit_law}
use Rattle.tree.proofs.copy_laws.leaf_edit_stands.Goals as goal

pub returns : goal.returns
returns c = leaf_edit_law
