use Rattle.index.proofs.LawsHistories.{history_law}
use Rattle.index.proofs.laws.history_stands.Goals as goal

pub returns : goal.returns
returns c = history_law
