use Rattle.index.proofs.LawsCounts.{counts_law}
use Rattle.index.proofs.laws.counts_stands.Goals as goal

pub returns : goal.returns
returns c = counts_law
