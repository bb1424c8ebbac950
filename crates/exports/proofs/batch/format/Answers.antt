use Rattle.std.proofs.Common.{refl}
use Rattle.exports.specs.Batches.{granted}
use Rattle.exports.specs.Batches.FormatBatch.{formatted, unformatted}
use Rattle.exports.proofs.Standings.{led_on, refused_on}
use Rattle.exports.proofs.batch.format.Goals as goal

pub returns-in-Ok : goal.returns-in-Ok
returns-in-Ok g c =
    formatted refl (led_on g.S.PageStore.meaning g.O.PointOrder.meaning c.args.store c.args.order c.shut_index-index.result (granted c.args.charge) _ _ _ c.shut_index-index.ensures c.in-Ok.ensures.step)

pub returns : goal.returns
returns g c =
    unformatted refl (refused_on g.S.PageStore.meaning g.O.PointOrder.meaning c.args.store c.args.order c.shut_index-index.result (granted c.args.charge) c.in-Err.fault _ _ _ c.number.ensures
    c.shut_index-index.ensures c.in-Err.ensures.step)
