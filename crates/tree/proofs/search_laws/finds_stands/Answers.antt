use Rattle.tree.proofs.SearchFinds.{finds_law}
use Rattle.tree.proofs.search_laws.finds_stands.Goals as goal

pub returns : goal.returns
returns c = finds_law
