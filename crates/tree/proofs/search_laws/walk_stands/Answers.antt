use Rattle.tree.proofs.SearchAsks.{limited_law}
use Rattle.tree.proofs.SearchWalking.{walk_law}
use Rattle.tree.proofs.search_laws.walk_stands.Goals as goal

pub returns : goal.returns
returns c = record { walk = walk_law; limited = limited_law }
