use Rattle.pages.proofs.Histories.{reads_back}
use Rattle.pages.proofs.stack.read_back.Goals as goal

pub returns-clause-law : goal.returns-clause-law
returns-clause-law g c = reads_back (g.S.PageStore.meaning c.args.store.now) (g.S.PageStore.meaning c.read.new.self) c.args.page c.args.into.now c.read.new.into c.read.result c.read.ensures
