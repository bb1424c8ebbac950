-- `first` is shut, and opens here so that the steps compute
use Rattle.std.proofs.Common.{refl, arith}
use Rattle.tree.specs.SearchSteps.{first}
use Rattle.tree.proofs.search_laws.search_example_stands.Goals as goal

pub returns : goal.returns
unfolding first
returns c = record { ordered = omega arith; level = omega arith; steps = refl; limited = refl; later = refl }
