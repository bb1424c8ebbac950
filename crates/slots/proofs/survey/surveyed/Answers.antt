use Rattle.std.proofs.Common.{refl, arith}
use Rattle.slots.proofs.Surveying.{seen_none, same_again, too_high, twice, seen_free, seen_used}
use Rattle.slots.proofs.survey.surveyed.Goals as goal
use Rattle.slots.proofs.survey.surveyed.Goals.{then-k-pages-via-then-k-pages, then-k-pages-via-else-k-pages+then-home-k-ne0, then-k-ne0, else-k-ne0}

pub loop-i-init : goal.loop-i-init
loop-i-init c = seen_none _ _ _ _ refl refl (λ q. same_again 1025 q 0) (λ s. same_again 1026 s _)

pub returns-then-k-pages : goal.returns-then-k-pages
returns-then-k-pages c =
    elim c.then-k-pages.branch [
      | then-k-pages-via-then-k-pages w ↦ too_high _ _ _ _ _ _ c.loop-i.invariant c.loop-i-test.true c.number_of-k.ensures.number c.number_of-k.ensures.long w.if-k-pages.true
      | then-k-pages-via-else-k-pages+then-home-k-ne0 w ↦ twice _ _ _ _ _ _ c.loop-i.invariant c.loop-i-test.true c.number_of-k.ensures.number c.number_of-k.ensures.long w.if-home-k-ne0.true
    ]

pub loop-i-preserved : goal.loop-i-preserved
loop-i-preserved c =
    elim c.if-k-ne0.branch [
      | then-k-ne0 w ↦ seen_used _ _ _ _ _ _ c.loop-i.invariant c.loop-i-test.true c.number_of-k.ensures.number c.number_of-k.ensures.long _ _
          (omega arith) (omega arith) w.if-k-ne0.true c.if-home-k-ne0.false w.home-is w.used-is
      | else-k-ne0 w ↦ seen_free _ _ _ _ _ _ c.loop-i.invariant c.loop-i-test.true c.number_of-k.ensures.number c.number_of-k.ensures.long _ _
          w.if-k-ne0.false w.home-is w.used-is
    ]
