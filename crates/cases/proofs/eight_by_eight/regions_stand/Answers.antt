use Rattle.cases.proofs.Eight.{regions}
use Rattle.cases.proofs.eight_by_eight.regions_stand.Goals as goal

pub returns : goal.returns
returns c = regions
