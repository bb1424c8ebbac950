use Rattle.cases.proofs.Readouts.{readouts}
use Rattle.cases.proofs.branch.readouts_stand.Goals as goal

pub returns : goal.returns
returns c = readouts
