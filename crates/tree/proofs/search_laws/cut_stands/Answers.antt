use Rattle.tree.proofs.SearchCut.{cut_page_law}
use Rattle.tree.proofs.SearchRunning.{cut_law, more_law}
use Rattle.tree.proofs.search_laws.cut_stands.Goals as goal

pub returns : goal.returns
returns c = record { cut = cut_law; cut_page = cut_page_law; more = more_law }
