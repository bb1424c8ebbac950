use Rattle.tree.proofs.SearchLooping.{entry_law}
use Rattle.tree.proofs.search_laws.entry_loop_stands.Goals as goal

pub returns : goal.returns
returns c = entry_law
