use Rattle.paths.proofs.LodgeKeeping.{lodge_keeps, lodge_frees, lodge_keeps_old}
use Rattle.paths.proofs.lodge.lodge_stands.Goals as goal

pub returns : goal.returns
returns c = record { next = lodge_keeps; free = lodge_frees; refused = lodge_keeps_old }
