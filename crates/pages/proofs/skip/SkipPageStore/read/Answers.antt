use Rattle.pages.proofs.Skips.{reads}
use Rattle.pages.proofs.skip.SkipPageStore.read.Goals as goal

pub returns-clause-read : goal.returns-clause-read
returns-clause-read g c =
    reads c.args.self.now.table (g.S.PageStore.meaning c.args.self.now.below) _ c.size.ensures c.args.page c.in_ok-place.place c.in_ok-place.ensures
    (g.S.PageStore.meaning c.read.new.self) c.args.into.now c.read.new.into c.read.result c.read.ensures
