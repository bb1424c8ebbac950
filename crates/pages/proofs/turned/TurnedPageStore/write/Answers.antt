use Rattle.pages.proofs.Turns.{writes}
use Rattle.pages.proofs.turned.TurnedPageStore.write.Goals as goal

pub returns-clause-write : goal.returns-clause-write
returns-clause-write g c =
    writes (g.S.PageStore.meaning c.args.self.now.below) (g.S.PageStore.meaning c.write.new.self) c.args.page c.args.from.now c.turn_all.new.page c.write.result
    c.turn_all.ensures.back c.write.ensures
