use Rattle.cases.proofs.Eight.{row_firsts}
use Rattle.cases.proofs.eight_by_eight.row_firsts_stand.Goals as goal

pub returns : goal.returns
returns c = row_firsts
