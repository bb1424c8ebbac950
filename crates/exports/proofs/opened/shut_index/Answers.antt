use Rattle.std.proofs.Common.{[]}
use Rattle.exports.proofs.Standings.{made, further}
use Rattle.exports.proofs.opened.shut_index.Goals as goal

pub returns : goal.returns
returns g c =
    let m = g.S.PageStore.meaning in
    let o = g.O.PointOrder.meaning in
    further m o c.args.store c.args.order c.new-index.result c.grant.new.self [] _ _ (made m o c.args.store c.args.order c.new-index.result c.new-index.ensures.made c.new-index.ensures.order) c.grant.ensures.step c.grant.ensures.order
