use Rattle.std.proofs.Common.{◌≡◌, max, ap, ◌∙◌, arith}
use Rattle.records.specs.Free.{numbers}
use Rattle.records.proofs.Rising.{built_next, went_put, went_left}
use Rattle.records.proofs.free.FreeList.rising.Goals as goal
use Rattle.records.proofs.free.FreeList.rising.Goals.{then-not-marks-k, else-not-marks-k}

pub loop-k-preserved : goal.loop-k-preserved
loop-k-preserved c =
    built_next _ _ _ _ _ (omega arith) (omega arith)
    (elim c.if-not-marks-k.branch [
      | then-not-marks-k w ↦ ap numbers w.list-is
          ∙ went_put _ _ _ _ _ c.loop-k.invariant (omega arith) _ _ (omega arith) (omega arith) w.if-not-marks-k.true w.put_front.ensures
      | else-not-marks-k w ↦ ap numbers w.list-is ∙ went_left _ _ _ _ _ c.loop-k.invariant (omega arith) w.if-not-marks-k.false
    ])

pub returns-after-not-marks-k : goal.returns-after-not-marks-k
returns-after-not-marks-k c =
    let e : c.loop-k.k ≡ max c.args.first 1 = omega arith in
    rw (← c.min-high.ensures, ← e)
    (elim c.if-not-marks-k.branch [
      | then-not-marks-k w ↦ ap numbers w.list-is
          ∙ went_put _ _ _ _ _ c.loop-k.invariant (omega arith) _ _ (omega arith) (omega arith) w.if-not-marks-k.true w.put_front.ensures
      | else-not-marks-k w ↦ ap numbers w.list-is ∙ went_left _ _ _ _ _ c.loop-k.invariant (omega arith) w.if-not-marks-k.false
    ])
