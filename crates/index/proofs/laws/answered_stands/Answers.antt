use Rattle.index.proofs.LawsCounts.{answered_law}
use Rattle.index.proofs.laws.answered_stands.Goals as goal

pub returns : goal.returns
returns c = answered_law
