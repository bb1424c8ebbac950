use Rattle.tree.proofs.CopyPlaces.{inner_edit_law}
use Rattle.tree.proofs.copy_laws.inner_edit_stands.Goals as goal

pub returns : goal.returns
returns c = inner_edit_law
