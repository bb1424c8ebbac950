use Rattle.records.proofs.Frees.{front_is}
use Rattle.records.proofs.free.FreeList.front.Goals as goal

pub returns : goal.returns
returns c = rw c.then_some.ensures (front_is c.args.self.now)
