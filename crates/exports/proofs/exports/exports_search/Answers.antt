use Rattle.exports.specs.Batches.{SearchBatch}
use Rattle.exports.proofs.Standings.{lent_so}
use Rattle.exports.proofs.exports.exports_search.Goals as goal

pub returns-in-Ok-clause-searches : goal.returns-in-Ok-clause-searches
returns-in-Ok-clause-searches c range =
    lent_so (λ o m. SearchBatch o m c.args.charge c.args.boxes.now c.args.finds.now c.search_all.new.finds c.search_all.result) c.over-in-Ok.result.rule.space c.in-Ok.space c.args.n c.args.p _ _ _ c.over-in-Ok.ensures c.in-Ok.ensures.0 c.in-Ok.ensures.1 c.over.ensures.bytes c.over.ensures.uncharged
    c.search_all.ensures
