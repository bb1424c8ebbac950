use Rattle.index.proofs.LawEndings.{ending_law}
use Rattle.index.proofs.LawWhole.{run_law}
use Rattle.index.proofs.index.Index.search.Goals as goal

pub returns-clause-law : goal.returns-clause-law
returns-clause-law g c = run_law _ (g.met.O.PointOrder.lawful c.args.self.now.order) _ _ _ _ _ _ _ c.search_tree.ensures.step

pub returns-clause-ending : goal.returns-clause-ending
returns-clause-ending g c = ending_law _ _ _ _ _ _ _ _ c.search_tree.ensures.step
