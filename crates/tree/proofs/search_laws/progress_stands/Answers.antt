use Rattle.tree.proofs.SearchProgress.{progress_law, progress_more_law}
use Rattle.tree.proofs.SearchWhole.{rounds_law}
use Rattle.tree.proofs.search_laws.progress_stands.Goals as goal

pub returns : goal.returns
returns c = record { progress = progress_law; progress_more = progress_more_law; rounds = rounds_law }
