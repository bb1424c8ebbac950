use Rattle.cases.proofs.Eight.{box_exactly}
use Rattle.cases.proofs.eight_by_eight.box_addresses_stand.Goals as goal

pub returns : goal.returns
returns c = box_exactly
