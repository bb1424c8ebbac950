use Rattle.index.proofs.LawWhole.{search_law}
use Rattle.index.proofs.laws.search_stands.Goals as goal

pub returns : goal.returns
returns c = search_law
