use Rattle.exports.specs.Batches.{TallyBatch}
use Rattle.exports.proofs.Standings.{lent_so}
use Rattle.exports.proofs.exports.exports_tally.Goals as goal

pub returns-in-Ok-clause-tallies : goal.returns-in-Ok-clause-tallies
returns-in-Ok-clause-tallies c range =
    lent_so (λ o m. TallyBatch o m c.args.charge c.args.points.now c.args.counts.now c.tally_all.new.counts c.tally_all.result) c.over-in-Ok.result.rule.space c.in-Ok.space c.args.n c.args.p _ _ _ c.over-in-Ok.ensures c.in-Ok.ensures.0 c.in-Ok.ensures.1 c.over.ensures.bytes c.over.ensures.uncharged
    c.tally_all.ensures
