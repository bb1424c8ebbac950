use Rattle.std.proofs.Common.{◌≡◌, [], length, refl, arith}
use Rattle.index.specs.Model.Call.{lodges}
use Rattle.exports.specs.Batches.{lodging, opened}
use Rattle.exports.specs.Batches.Ended.{whole, unopened, broken}
use Rattle.exports.proofs.Standings.{further, refused_on, onward_next, next_call, all_happened}
use Rattle.exports.proofs.batch.lodge_all.Goals as goal

pub returns-in-Err : goal.returns-in-Err
returns-in-Err g c = record { few = omega arith; ended = unopened refl c.in-Err.ensures.led }

pub returns-in-Err-lodge : goal.returns-in-Err-lodge
returns-in-Err-lodge g c = record {
  few = omega arith;
  ended = broken (next_call lodging c.args.points.now c.loop-i.i [] c.loop-i-test.true lodges)
      (refused_on g.S.PageStore.meaning g.O.PointOrder.meaning c.args.store c.args.order c.loop-i.index _ c.in-Err-lodge.fault _ _ _ c.number.ensures c.loop-i.invariant c.in-Err-lodge.ensures.step);
}

pub loop-i-preserved : goal.loop-i-preserved
loop-i-preserved g c =
    rw (onward_next lodging c.args.points.now c.loop-i.i [] c.loop-i-test.true (opened c.args.charge))
    (further g.S.PageStore.meaning g.O.PointOrder.meaning c.args.store c.args.order c.loop-i.index c.lodge.new.self _ _ _ c.loop-i.invariant c.in_default.ensures.step c.in_default.ensures.order)

pub returns : goal.returns
returns g c =
    let points = c.args.points.now in
    let e : c.loop-i.i ≡ length points = omega (arith, c.loop-i-test.false, c.loop-i.auto.i-end) in
    record { few = omega arith; ended = whole refl (all_happened lodging lodges points) (rw e at c.loop-i.invariant.led) }
