use Rattle.std.proofs.Common.{◌≡◌, ℕ, ◌-◌, ap, ◌∙◌, arith}
use Rattle.orders.specs.Interleaved.{bits_of}
use Rattle.orders.proofs.Blocks.{half_at, half_below, room_at}
use Rattle.orders.proofs.Bits.{lacks_some, lacks_less}
use Rattle.orders.proofs.block.Block.half.Goals as goal

pub overflow_mul-corner : goal.overflow_mul-corner
overflow_mul-corner g c =
    let b = c.args.self.now in
    let s = b.rule.now in
    let o = g.R.BitRule in
    let sp = o.space_of s in
    omega (arith, room_at sp.n sp.p (o.turn_of s) (o.used_of s) (g.met.R.BitRule.deals s) b.left b.c c.turn-j.result b.corner b.at c.turn-j.ensures.four)

pub overflow_add-corner : goal.overflow_add-corner
overflow_add-corner g c =
    let b = c.args.self.now in
    let s = b.rule.now in
    let o = g.R.BitRule in
    let sp = o.space_of s in
    omega (arith, room_at sp.n sp.p (o.turn_of s) (o.used_of s) (g.met.R.BitRule.deals s) b.left b.c c.turn-j.result b.corner b.at c.turn-j.ensures.four)

pub invariant_of-result-clause-short : goal.invariant_of-result-clause-short
invariant_of-result-clause-short g c =
    let b = c.args.self.now in
    half_below (bits_of (g.R.BitRule.space_of b.rule.now)) b.left b.c c.args.bit c.requires.some b.inside b.short c.requires.two

pub invariant_of-result-clause-at : goal.invariant_of-result-clause-at
invariant_of-result-clause-at g c =
    let b = c.args.self.now in
    let s = b.rule.now in
    let o = g.R.BitRule in
    let total = bits_of (o.space_of s) in
    let j : c.turn-j.result ≡ o.turn_of s (total - b.left) = c.turn-j.ensures.dealt (omega arith) ∙ ap (λ (z : ℕ). o.turn_of s (z - b.left)) c.bits.ensures.all in
    half_at (o.turn_of s) total b.left b.c c.args.bit c.turn-j.result b.corner c.requires.some b.inside c.requires.two b.at j

pub overflow_sub-lacks : goal.overflow_sub-lacks
overflow_sub-lacks g c =
    let b = c.args.self.now in
    let s = b.rule.now in
    let o = g.R.BitRule in
    let sp = o.space_of s in
    let t = bits_of sp - b.left in
    let j : c.turn-j.result ≡ o.turn_of s t = c.turn-j.ensures.dealt (omega arith) ∙ ap (λ (z : ℕ). o.turn_of s (z - b.left)) c.bits.ensures.all in
    let four = rw j at c.turn-j.ensures.four in
    rw j (omega (arith, b.lack (o.turn_of s t) four, lacks_some sp.n sp.p (o.turn_of s) (o.used_of s) (g.met.R.BitRule.deals s) t (omega arith)))

pub invariant_of-result-clause-lack : goal.invariant_of-result-clause-lack
invariant_of-result-clause-lack g c =
    let b = c.args.self.now in
    let s = b.rule.now in
    let o = g.R.BitRule in
    let sp = o.space_of s in
    let t = bits_of sp - b.left in
    let j : c.turn-j.result ≡ o.turn_of s t = c.turn-j.ensures.dealt (omega arith) ∙ ap (λ (z : ℕ). o.turn_of s (z - b.left)) c.bits.ensures.all in
    rw j (lacks_less sp.n sp.p (o.turn_of s) (o.used_of s) (g.met.R.BitRule.deals s) t (bits_of sp - (b.left - 1)) b.lacks (omega arith) (omega arith) b.lack)
