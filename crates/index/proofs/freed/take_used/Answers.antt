use Rattle.records.specs.Free.{numbers}
use Rattle.index.proofs.Freeing.{taken_more}
use Rattle.index.proofs.freed.take_used.Goals as goal

pub loop-preserved : goal.loop-preserved
loop-preserved c = taken_more c.loop.counter (numbers c.args.free.now) (numbers c.loop.free) (numbers c.take_front.new.self) c.take_front.result c.loop.invariant c.take_front.ensures
