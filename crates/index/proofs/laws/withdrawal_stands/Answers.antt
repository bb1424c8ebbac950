use Rattle.index.proofs.LawsHistories.{withdrawal_law}
use Rattle.index.proofs.laws.withdrawal_stands.Goals as goal

pub returns : goal.returns
returns c = withdrawal_law
