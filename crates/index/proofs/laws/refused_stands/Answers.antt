use Rattle.index.proofs.LawsKept.{refused_law}
use Rattle.index.proofs.laws.refused_stands.Goals as goal

pub returns : goal.returns
returns c = refused_law
