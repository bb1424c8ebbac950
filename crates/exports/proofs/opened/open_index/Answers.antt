use Rattle.faults.specs.Refusals.{values_of}
use Rattle.index.specs.View.{view}
use Rattle.exports.specs.Batches.{granted}
use Rattle.exports.proofs.Standings.{refused_on, further}
use Rattle.exports.proofs.opened.open_index.Goals as goal

pub returns-in-Ok : goal.returns-in-Ok
returns-in-Ok g c =
    further g.S.PageStore.meaning g.O.PointOrder.meaning c.args.store c.args.order c.shut_index-index.result c.open.new.self (granted c.args.charge) _ _
    c.shut_index-index.ensures c.in-Ok.ensures.step c.in-Ok.ensures.order

pub returns-in-Err : goal.returns-in-Err
returns-in-Err g c = record {
  values = values_of c.in-Err.fault;
  left = view g.S.PageStore.meaning c.open.new.self;
  led = refused_on g.S.PageStore.meaning g.O.PointOrder.meaning c.args.store c.args.order c.shut_index-index.result (granted c.args.charge) c.in-Err.fault _ _ _ c.number.ensures
      c.shut_index-index.ensures c.in-Err.ensures.step;
}
