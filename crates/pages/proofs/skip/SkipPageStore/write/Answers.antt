use Rattle.pages.proofs.Skips.{writes}
use Rattle.pages.proofs.skip.SkipPageStore.write.Goals as goal

pub returns-clause-write : goal.returns-clause-write
returns-clause-write g c =
    writes c.args.self.now.table (g.S.PageStore.meaning c.args.self.now.below) _ c.size.ensures c.args.page c.in_ok-place.place c.in_ok-place.ensures
    c.args.from.now (g.S.PageStore.meaning c.write.new.self) c.write.result c.write.ensures
