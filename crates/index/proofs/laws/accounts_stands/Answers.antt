use Rattle.index.proofs.LawsKept.{accounts_law}
use Rattle.index.proofs.laws.accounts_stands.Goals as goal

pub returns : goal.returns
returns c = accounts_law
