use Rattle.tree.proofs.SearchAgain.{again_law}
use Rattle.tree.proofs.SearchResume.{resume_law, finish_law}
use Rattle.tree.proofs.search_laws.resume_stands.Goals as goal

pub returns : goal.returns
returns c = record { resume = resume_law; finish = finish_law; again = again_law }
