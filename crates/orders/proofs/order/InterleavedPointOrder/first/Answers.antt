use Rattle.orders.specs.Spaces.{InSpace}
use Rattle.orders.proofs.Blocks.{first_whole}
use Rattle.orders.proofs.order.InterleavedPointOrder.first.Goals as goal

pub returns : goal.returns
returns g c =
    let s = c.args.self.now.rule in
    let o = g.R.BitRule in
    let sp = o.space_of s in
    let lo = c.args.b.now.low.coords in
    let hi = c.args.b.now.high.coords in
    let in-lo : InSpace sp.n sp.p lo = rw (← c.space-space.ensures, ← c.low.ensures) (c.contains.ensures.0 c.if-not-contains.false) in
    let in-hi : InSpace sp.n sp.p hi = rw (← c.space-space.ensures, ← c.high.ensures) (c.contains-else-not-contains.ensures.0 c.if-not-contains-2.false) in
    let least = rw (c.whole.ensures.rule, c.whole.ensures.all, c.whole.ensures.start) at c.first.ensures in
    first_whole sp.n sp.p (o.turn_of s) (o.used_of s) (g.met.R.BitRule.deals s) lo hi c.args.from (o.kind_of s) c.first.result in-lo in-hi least
