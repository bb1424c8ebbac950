use Rattle.std.proofs.Common.{length, ap, ◌∙◌, ◌≡◌, ◌-◌, ◌/◌, ◌^◌, arith}
use Rattle.orders.specs.Laws.{four, room}
use Rattle.orders.proofs.Bits.{bit_on, bits_all, four_of}
use Rattle.orders.proofs.rule.point_by.Goals as goal

pub overflow_mul-q : goal.overflow_mul-q
overflow_mul-q g c =
    let s = c.args.s.now in
    let o = g.R.BitRule in
    let sp = o.space_of s in
    let small = room sp.n sp.p (o.turn_of s) (o.used_of s) (g.met.R.BitRule.deals s) c.loop-t.t (c.args.a / 2 ^ (c.bits-bits.result - c.loop-t.t)) c.turn-j.result (omega arith) c.turn-j.ensures.four in
    simp c.loop-t.invariant (omega arith)

pub overflow_add-q : goal.overflow_add-q
overflow_add-q g c =
    let s = c.args.s.now in
    let o = g.R.BitRule in
    let sp = o.space_of s in
    let small = room sp.n sp.p (o.turn_of s) (o.used_of s) (g.met.R.BitRule.deals s) c.loop-t.t (c.args.a / 2 ^ (c.bits-bits.result - c.loop-t.t)) c.turn-j.result (omega arith) c.turn-j.ensures.four in
    simp c.loop-t.invariant (omega arith)

pub loop-t-preserved : goal.loop-t-preserved
loop-t-preserved g c =
    let turn = g.R.BitRule.turn_of c.args.s.now in
    let j : c.turn-j.result ≡ turn c.loop-t.t = c.turn-j.ensures.dealt (omega (arith, c.bits-bits.ensures.all)) in
    rw (c.loop-t.invariant, j) (bit_on turn c.bits-bits.result c.loop-t.t c.args.a c.loop-t-test.true)

pub overflow_cast-result : goal.overflow_cast-result
overflow_cast-result g c =
    let s = c.args.s.now in
    let o = g.R.BitRule in
    let sp = o.space_of s in
    simp c.loop-t.invariant (omega (arith, room sp.n sp.p (o.turn_of s) (o.used_of s) (g.met.R.BitRule.deals s) c.loop-t.t (c.args.a / 2 ^ (c.bits-bits.result - c.loop-t.t)) 0 (omega arith) (omega arith)))

pub overflow_cast-result-2 : goal.overflow_cast-result-2
overflow_cast-result-2 g c =
    let s = c.args.s.now in
    let o = g.R.BitRule in
    let sp = o.space_of s in
    simp c.loop-t.invariant (omega (arith, room sp.n sp.p (o.turn_of s) (o.used_of s) (g.met.R.BitRule.deals s) c.loop-t.t (c.args.a / 2 ^ (c.bits-bits.result - c.loop-t.t)) 1 (omega arith) (omega arith)))

pub overflow_cast-result-3 : goal.overflow_cast-result-3
overflow_cast-result-3 g c =
    let s = c.args.s.now in
    let o = g.R.BitRule in
    let sp = o.space_of s in
    simp c.loop-t.invariant (omega (arith, room sp.n sp.p (o.turn_of s) (o.used_of s) (g.met.R.BitRule.deals s) c.loop-t.t (c.args.a / 2 ^ (c.bits-bits.result - c.loop-t.t)) 2 (omega arith) (omega arith)))

pub overflow_cast-result-4 : goal.overflow_cast-result-4
overflow_cast-result-4 g c =
    let s = c.args.s.now in
    let o = g.R.BitRule in
    let sp = o.space_of s in
    simp c.loop-t.invariant (omega (arith, room sp.n sp.p (o.turn_of s) (o.used_of s) (g.met.R.BitRule.deals s) c.loop-t.t (c.args.a / 2 ^ (c.bits-bits.result - c.loop-t.t)) 3 (omega arith) (omega arith)))

pub returns : goal.returns
returns g c =
    let s = c.args.s.now in
    let o = g.R.BitRule in
    let sp = o.space_of s in
    let turn = o.turn_of s in
    let q = c.loop-t.q in
    let long : length q ≡ 4 = ap length c.loop-t.invariant ∙ four sp.n sp.p turn (o.used_of s) (g.met.R.BitRule.deals s) c.loop-t.t (c.args.a / 2 ^ (c.bits-bits.result - c.loop-t.t)) in
    let whole = bits_all turn c.bits-bits.result c.loop-t.t c.args.a q c.loop-t.auto.t-end (omega (arith, c.loop-t-test.false)) c.loop-t.invariant in
    four_of q long ∙ rw c.bits-bits.ensures.all at whole
