use Rattle.index.proofs.LawsBlank.{blank_law}
use Rattle.index.proofs.laws.blank_stands.Goals as goal

pub returns : goal.returns
returns c = blank_law
