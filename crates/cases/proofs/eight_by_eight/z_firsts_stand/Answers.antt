use Rattle.cases.proofs.Eight.{z_firsts}
use Rattle.cases.proofs.eight_by_eight.z_firsts_stand.Goals as goal

pub returns : goal.returns
returns c = z_firsts
