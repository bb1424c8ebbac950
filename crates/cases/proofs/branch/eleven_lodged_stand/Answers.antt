use Rattle.cases.proofs.Branches.{enough}
use Rattle.cases.proofs.branch.eleven_lodged_stand.Goals as goal

pub returns : goal.returns
returns c = enough
