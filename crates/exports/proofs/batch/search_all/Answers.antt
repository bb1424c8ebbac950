use Rattle.std.proofs.Common.{[], refl, inl, ◌∙◌, arith}
use Rattle.exports.specs.Batches.Ended.{unopened}
use Rattle.exports.specs.Batches.Sought.{none}
use Rattle.exports.proofs.Searching.{seek_refused, seek_more, all_sought}
use Rattle.exports.proofs.batch.search_all.Goals as goal

pub returns-in-Err : goal.returns-in-Err
returns-in-Err g c = record { few = omega arith; events = []; sought = none; ended = inl (unopened refl c.in-Err.ensures.led) }

pub loop-i-init : goal.loop-i-init
loop-i-init g c = (([], none, c.in-Ok.ensures), refl, refl, refl)

pub returns-in-Err-search_one : goal.returns-in-Err-search_one
returns-in-Err-search_one g c =
    let l = c.loop-i.invariant in
    seek_refused g.S.PageStore.meaning g.O.PointOrder.meaning c.args.store c.args.order c.args.charge _ _ c.args.boxes.now c.loop-i.i _ l.0.0 _ _ l.0.1 c.loop-i.index l.0.2
    c.loop-i-test.true c.search_one.new.index c.search_one.new.finds _ _ l.3 l.1 c.in-Err-search_one.ensures.seeks

pub loop-i-preserved : goal.loop-i-preserved
loop-i-preserved g c =
    let l = c.loop-i.invariant in (
      seek_more g.S.PageStore.meaning g.O.PointOrder.meaning c.args.store c.args.order c.args.charge _ _ c.args.boxes.now c.loop-i.i _ l.0.0 _ _ l.0.1 c.loop-i.index l.0.2
          c.loop-i-test.true c.search_one.new.index c.search_one.new.finds c.in-Ok-search_one.found _ _ l.3 c.saturating_add.ensures c.saturating_add-in-Ok-search_one.ensures c.in-Ok-search_one.ensures.seeks c.in-Ok-search_one.ensures.order,
      refl,
      l.2,
      c.search_one.auto.finds ∙ l.3,
    )

pub returns : goal.returns
returns g c =
    let l = c.loop-i.invariant in
    all_sought g.S.PageStore.meaning g.O.PointOrder.meaning c.args.store c.args.order c.args.charge _ _ c.args.boxes.now c.loop-i.i (record { low = []; high = [] }) l.0.0 _ _ l.0.1 c.loop-i.index l.0.2
    (omega (arith, c.loop-i-test.false, c.loop-i.auto.i-end)) c.loop-i.searched l.1 l.2 refl refl
