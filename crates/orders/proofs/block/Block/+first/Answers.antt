use Rattle.std.proofs.Common.{◌≡◌, true, arith}
use Rattle.orders.proofs.Blocks.{apart, below, from_lower, from_upper}
use Rattle.orders.proofs.block.Block.+first.Goals as goal
use Rattle.orders.proofs.block.Block.+first.Goals.{then-not-touches-via-then-not-touches, then-not-touches-via-else-not-touches+then-from-self}

pub returns-then-not-touches : goal.returns-then-not-touches
returns-then-not-touches g t c =
    let b = c.args.self.now in
    let s = b.rule.now in
    let o = g.R.BitRule in
    let sp = o.space_of s in
    let lo = c.args.b.now.low.coords in
    let hi = c.args.b.now.high.coords in
    elim c.then-not-touches.branch [
      | then-not-touches-via-then-not-touches w ↦
          apart sp.n sp.p (o.turn_of s) (o.used_of s) (g.met.R.BitRule.deals s) lo hi c.args.from b.left b.c b.inside
          (λ touch. let yes : c.touches.result ≡ true = c.touches.ensures.1 (rw b.at touch) in cc)
      | then-not-touches-via-else-not-touches+then-from-self w ↦
          below sp.n sp.p (o.turn_of s) (o.used_of s) (g.met.R.BitRule.deals s) lo hi c.args.from b.left b.c (omega arith)
    ]

pub returns-in-Some : goal.returns-in-Some
returns-in-Some g t c =
    let b = c.args.self.now in
    let s = b.rule.now in
    let o = g.R.BitRule in
    let sp = o.space_of s in
    let half = rw (c.half.ensures.rule, c.half.ensures.less, c.half.ensures.bits) at c.in-Some.ensures in
    from_lower sp.n sp.p (o.turn_of s) (o.used_of s) (g.met.R.BitRule.deals s) c.args.b.now.low.coords c.args.b.now.high.coords c.args.from b.left b.c c.in-Some.a (omega arith) half

pub returns : goal.returns
returns g t c =
    let b = c.args.self.now in
    let s = b.rule.now in
    let o = g.R.BitRule in
    let sp = o.space_of s in
    let none = rw (c.half.ensures.rule, c.half.ensures.less, c.half.ensures.bits) at c.in_default.ensures in
    let half = rw (c.half-2.ensures.rule, c.half-2.ensures.less, c.half-2.ensures.bits) at c.first-2.ensures in
    from_upper sp.n sp.p (o.turn_of s) (o.used_of s) (g.met.R.BitRule.deals s) c.args.b.now.low.coords c.args.b.now.high.coords c.args.from b.left b.c c.first-2.result (omega arith) none half
