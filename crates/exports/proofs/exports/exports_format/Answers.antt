use Rattle.exports.specs.Batches.{FormatBatch}
use Rattle.exports.proofs.Standings.{lent_so}
use Rattle.exports.proofs.exports.exports_format.Goals as goal

pub returns-in-Ok-clause-formats : goal.returns-in-Ok-clause-formats
returns-in-Ok-clause-formats c range =
    lent_so (λ o m. FormatBatch o m c.args.charge c.format.result) c.over-in-Ok.result.rule.space c.in-Ok.space c.args.n c.args.p _ _ _ c.over-in-Ok.ensures c.in-Ok.ensures.0 c.in-Ok.ensures.1 c.over.ensures.bytes c.over.ensures.uncharged
    c.format.ensures
