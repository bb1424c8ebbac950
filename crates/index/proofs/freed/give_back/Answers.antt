use Rattle.std.proofs.Common.{◌++◌, reverse, ap, ◌∙◌}
use Rattle.records.specs.Free.{numbers}
use Rattle.index.proofs.Freeing.{given_more}
use Rattle.index.proofs.freed.give_back.Goals as goal

pub loop-page-preserved : goal.loop-page-preserved
loop-page-preserved c =
    given_more c.loop-page.page-index c.args.path.now (numbers c.args.free.now) (numbers c.loop-page.free) (numbers c.put_front.new.self) c.put_front.result
    c.loop-page-test.true c.loop-page.invariant c.put_front.ensures
