use Rattle.std.proofs.Common.{◌≡◌, ◌+◌, ◌-◌, ◌<◌, arith}
use Rattle.orders.specs.Interleaved.{bits_of}
use Rattle.orders.proofs.Bits.{lacks_all, lacks_some, lacks_less, bits_none, bits_more, bits_small}
use Rattle.orders.proofs.rule.address_by.Goals as goal

pub loop-t-init : goal.loop-t-init
loop-t-init g c =
    let s = c.args.s.now in
    let o = g.R.BitRule in
    let sp = o.space_of s in
    let S = g.met.R.BitRule.deals s in
    let ks = c.widths-lacks.ensures in
    (bits_none sp.n sp.p (o.turn_of s) (o.used_of s) S c.args.x, λ j lt. lacks_all sp.n sp.p (o.turn_of s) (o.used_of s) S c.widths-lacks.result (rw c.space.ensures at ks.some) (rw c.space.ensures at ks.none) j)

pub overflow_sub-lacks : goal.overflow_sub-lacks
overflow_sub-lacks g c =
    let s = c.args.s.now in
    let o = g.R.BitRule in
    let sp = o.space_of s in
    let S = g.met.R.BitRule.deals s in
    let t = c.loop-t.t in
    let lt : t < bits_of sp = omega (arith, c.bits-t-end.ensures.all) in
    let j : c.turn-j.result ≡ o.turn_of s t = c.turn-j.ensures.dealt lt in
    let four = rw j at c.turn-j.ensures.four in
    rw j (omega (arith, c.loop-t.invariant.1 (o.turn_of s t) four, lacks_some sp.n sp.p (o.turn_of s) (o.used_of s) S t lt))

pub overflow_mul-a : goal.overflow_mul-a
overflow_mul-a g c =
    let s = c.args.s.now in
    let o = g.R.BitRule in
    let sp = o.space_of s in
    let S = g.met.R.BitRule.deals s in
    let t = c.loop-t.t in
    let lt : t < bits_of sp = omega (arith, c.bits-t-end.ensures.all) in
    let j : c.turn-j.result ≡ o.turn_of s t = c.turn-j.ensures.dealt lt in
    let less = lacks_less sp.n sp.p (o.turn_of s) (o.used_of s) S t (t + 1) c.loop-t.lacks lt (omega arith) c.loop-t.invariant.1 in
    let four = rw j at c.turn-j.ensures.four in
    let bit = bits_more sp.n sp.p (o.turn_of s) (o.used_of s) S t (t + 1) c.args.x lt (omega arith) c.requires in
    let small = bits_small sp.n sp.p (o.turn_of s) (o.used_of s) S (bits_of sp - (t + 1)) c.args.x in
    rw c.loop-t.invariant.0 (omega (arith, bit, small))

pub overflow_add-a : goal.overflow_add-a
overflow_add-a g c =
    let s = c.args.s.now in
    let o = g.R.BitRule in
    let sp = o.space_of s in
    let S = g.met.R.BitRule.deals s in
    let t = c.loop-t.t in
    let lt : t < bits_of sp = omega (arith, c.bits-t-end.ensures.all) in
    let j : c.turn-j.result ≡ o.turn_of s t = c.turn-j.ensures.dealt lt in
    let less = lacks_less sp.n sp.p (o.turn_of s) (o.used_of s) S t (t + 1) c.loop-t.lacks lt (omega arith) c.loop-t.invariant.1 in
    let four = rw j at c.turn-j.ensures.four in
    let bit = bits_more sp.n sp.p (o.turn_of s) (o.used_of s) S t (t + 1) c.args.x lt (omega arith) c.requires in
    let small = bits_small sp.n sp.p (o.turn_of s) (o.used_of s) S (bits_of sp - (t + 1)) c.args.x in
    rw (c.loop-t.invariant.0, j, less (o.turn_of s t) four) (omega (arith, bit, small))

pub loop-t-preserved : goal.loop-t-preserved
loop-t-preserved g c =
    let s = c.args.s.now in
    let o = g.R.BitRule in
    let sp = o.space_of s in
    let S = g.met.R.BitRule.deals s in
    let t = c.loop-t.t in
    let lt : t < bits_of sp = omega (arith, c.bits-t-end.ensures.all) in
    let j : c.turn-j.result ≡ o.turn_of s t = c.turn-j.ensures.dealt lt in
    let less = lacks_less sp.n sp.p (o.turn_of s) (o.used_of s) S t (t + 1) c.loop-t.lacks lt (omega arith) c.loop-t.invariant.1 in
    let four = rw j at c.turn-j.ensures.four in
    let bit = bits_more sp.n sp.p (o.turn_of s) (o.used_of s) S t (t + 1) c.args.x lt (omega arith) c.requires in
    (rw (c.loop-t.invariant.0, j, less (o.turn_of s t) four) bit, rw j less)
