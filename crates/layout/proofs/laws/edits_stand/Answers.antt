use Rattle.layout.proofs.LeafKeeps.{leaf_law}
use Rattle.layout.proofs.InnerKeeps.{inner_law}
use Rattle.layout.proofs.laws.edits_stand.Goals as goal

pub returns : goal.returns
returns c = record { leaf = leaf_law; inner = inner_law }
