use Rattle.index.proofs.LawsHistories.{tally_law}
use Rattle.index.proofs.laws.tally_stands.Goals as goal

pub returns : goal.returns
returns c = tally_law
