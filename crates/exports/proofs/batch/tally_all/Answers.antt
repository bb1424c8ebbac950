use Rattle.std.proofs.Common.{◌≡◌, length, refl, sym, ◌∙◌, arith, length-set, get_or-set_other}
use Rattle.exports.specs.Batches.{opened}
use Rattle.exports.specs.Batches.Ended.{whole, unopened, broken}
use Rattle.exports.proofs.Standings.{further, refused_on, onward_more}
use Rattle.exports.proofs.Tallied.{tallied_more, next_tally, all_tallied}
use Rattle.exports.proofs.batch.tally_all.Goals as goal

pub returns-in-Err : goal.returns-in-Err
returns-in-Err g c = record { few = (omega arith, omega arith); ended = unopened refl c.in-Err.ensures.led; rest = λ j le. refl }

pub returns-in-Err-tally : goal.returns-in-Err-tally
returns-in-Err-tally g c =
    let many = c.min-many.ensures in
    let same = c.loop-i.invariant.1 in
    record {
      few = (omega (arith, many), omega (arith, many, same));
      ended = broken (next_tally c.args.points.now c.loop-i.counts (length c.args.counts.now) c.loop-i.i (omega (arith, many, c.loop-i-test.true)) (omega (arith, many, same, c.loop-i-test.true)) (omega (arith, many, c.loop-i-test.true)))
          (refused_on g.S.PageStore.meaning g.O.PointOrder.meaning c.args.store c.args.order c.loop-i.index _ c.in-Err-tally.fault _ _ _ c.number.ensures c.loop-i.invariant.0 c.in-Err-tally.ensures.step);
      rest = c.loop-i.invariant.2;
    }

pub loop-i-preserved : goal.loop-i-preserved
loop-i-preserved g c =
    let many = c.min-many.ensures in
    let same = c.loop-i.invariant.1 in
    let n = c.in-Ok-tally.count in
    let more = tallied_more c.args.points.now c.loop-i.counts c.loop-i.i n (omega (arith, many, c.loop-i-test.true)) (omega (arith, many, same, c.loop-i-test.true)) in (
      rw (more, onward_more _ _ (opened c.args.charge))
          (further g.S.PageStore.meaning g.O.PointOrder.meaning c.args.store c.args.order c.loop-i.index c.tally.new.self _ _ _ c.loop-i.invariant.0 c.in-Ok-tally.ensures.step c.in-Ok-tally.ensures.order),
      length-set _ _ _ ∙ same,
      λ j le. get_or-set_other c.loop-i.counts c.loop-i.i j n 0 (λ e. omega arith) ∙ c.loop-i.invariant.2 j (omega arith),
    )

pub returns : goal.returns
returns g c =
    let many = c.min-many.ensures in
    let same = c.loop-i.invariant.1 in
    let e : c.loop-i.i ≡ c.min-many.result = omega (arith, c.loop-i-test.false, c.loop-i.auto.i-end) in
    record {
      few = (omega (arith, many), omega (arith, many, same));
      ended = whole refl (all_tallied c.args.points.now c.loop-i.counts (length c.args.counts.now) c.min-many.result (sym same) many) (rw e at c.loop-i.invariant.0.led);
      rest = λ j le. c.loop-i.invariant.2 j (omega arith);
    }
