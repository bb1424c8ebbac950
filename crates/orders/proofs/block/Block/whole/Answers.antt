use Rattle.std.proofs.Common.{◌≡◌, ◌-◌, refl, arith}
use Rattle.orders.specs.Interleaved.{bits_of}
use Rattle.orders.proofs.Bits.{lacks_all}
use Rattle.orders.proofs.block.Block.whole.Goals as goal

pub invariant_of-result : goal.invariant_of-result
invariant_of-result g c =
    let s = c.args.rule.now in
    let o = g.R.BitRule in
    let sp = o.space_of s in
    let all = c.bits.ensures.all in
    let none : bits_of sp - c.bits.result ≡ 0 = omega (arith, all) in
    let ks = c.widths.ensures in
    record {
      inside = omega (arith, all);
      short = rw none (omega arith);
      at = rw none refl;
      lack = rw none (λ j lt. lacks_all sp.n sp.p (o.turn_of s) (o.used_of s) (g.met.R.BitRule.deals s) c.widths.result (rw c.space.ensures at ks.some) (rw c.space.ensures at ks.none) j);
    }
