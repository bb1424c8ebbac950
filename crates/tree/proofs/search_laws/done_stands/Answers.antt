use Rattle.tree.proofs.SearchRunning.{done_law, only_law, append_law}
use Rattle.tree.proofs.SearchWhole.{exact_law}
use Rattle.tree.proofs.search_laws.done_stands.Goals as goal

pub returns : goal.returns
returns c = record { done = done_law; only = only_law; append = append_law; exact = exact_law }
