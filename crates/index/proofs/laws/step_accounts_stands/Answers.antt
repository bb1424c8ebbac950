use Rattle.index.proofs.LawsKept.{step_accounts_law}
use Rattle.index.proofs.laws.step_accounts_stands.Goals as goal

pub returns : goal.returns
returns c = step_accounts_law
