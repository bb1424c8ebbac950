use Rattle.cases.proofs.Branches.{short}
use Rattle.cases.proofs.branch.ten_remain_stand.Goals as goal

pub returns : goal.returns
returns c = short
