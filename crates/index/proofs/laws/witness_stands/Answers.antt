use Rattle.index.proofs.LawsWitness.{witness_law}
use Rattle.index.proofs.laws.witness_stands.Goals as goal

pub returns : goal.returns
returns c = witness_law
