use Rattle.exports.specs.Batches.{LodgeBatch}
use Rattle.exports.proofs.Standings.{lent_so}
use Rattle.exports.proofs.exports.exports_lodge.Goals as goal

pub returns-in-Ok-clause-lodges : goal.returns-in-Ok-clause-lodges
returns-in-Ok-clause-lodges c range =
    lent_so (λ o m. LodgeBatch o m c.args.charge c.args.points.now c.lodge_all.result) c.over-in-Ok.result.rule.space c.in-Ok.space c.args.n c.args.p _ _ _ c.over-in-Ok.ensures c.in-Ok.ensures.0 c.in-Ok.ensures.1 c.over.ensures.bytes c.over.ensures.uncharged
    c.lodge_all.ensures
