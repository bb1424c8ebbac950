use Rattle.tree.proofs.SearchLimiting.{pass_law, unpaid_law, leaf_law, inner_law}
use Rattle.tree.proofs.search_laws.page_walk_stands.Goals as goal

pub returns : goal.returns
returns c = record { pass = pass_law; unpaid = unpaid_law; leaf = leaf_law; inner = inner_law }
