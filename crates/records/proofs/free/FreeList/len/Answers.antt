use Rattle.records.proofs.Frees.{kept}
use Rattle.records.proofs.free.FreeList.len.Goals as goal

pub returns : goal.returns
returns c = (kept c.args.self.now).counted
