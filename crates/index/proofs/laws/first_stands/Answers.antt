use Rattle.index.proofs.LawsFirst.{first_law}
use Rattle.index.proofs.laws.first_stands.Goals as goal

pub returns : goal.returns
returns c = first_law
