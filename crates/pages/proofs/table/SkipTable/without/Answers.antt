use Rattle.std.proofs.Common.{refl, inl, inr, arith, rules}
use Rattle.pages.proofs.Fills.{gone_none, gone_few, refused, gone_more, gone_places, gone_allowed, entered_few, entered_within, entered_rising}
use Rattle.pages.proofs.table.SkipTable.without.Goals as goal
use Rattle.pages.proofs.table.SkipTable.without.Goals.{then-b-last-via-then-b-last, then-b-last-via-else-b-last+then-b-size}

pub loop-b-init : goal.loop-b-init
loop-b-init c = gone_none _ _ _ c.new-places.ensures

pub returns-then-b-last : goal.returns-then-b-last
returns-then-b-last c =
    refused _ _ _ _ _ c.loop-b.invariant _ (omega arith) refl
    (elim c.then-b-last.branch [ then-b-last-via-then-b-last w ↦ inl w.if-b-last.true | then-b-last-via-else-b-last+then-b-size w ↦ inr w.if-b-size.true ])

pub fill-requires-clause-few : goal.fill-requires-clause-few
fill-requires-clause-few c = gone_few _ _ _ _ _ c.loop-b.invariant

pub loop-b-preserved : goal.loop-b-preserved
loop-b-preserved c = gone_more _ _ _ _ _ c.loop-b.invariant _ (omega arith) refl _ (omega arith) (omega arith) c.fill.ensures

pub fill-requires-2-clause-few : goal.fill-requires-2-clause-few
fill-requires-2-clause-few c = gone_few _ _ _ _ _ c.loop-b.invariant

pub invariant_of-result : goal.invariant_of-result
invariant_of-result c =
    let e = gone_places _ _ _ _ _ c.loop-b.invariant (omega arith) _ c.fill-2.ensures in
    record { few = entered_few _ _ _ e; rising = entered_rising _ _ _ e; within = entered_within _ _ _ e }

pub returns : goal.returns
returns c =
    let e = gone_places _ _ _ _ _ c.loop-b.invariant (omega arith) _ c.fill-2.ensures in
    (gone_allowed _ _ _ _ _ c.loop-b.invariant (omega arith) _ c.fill-2.ensures (search rules) c.if-bad-gt-MOST_BAD.false, e, refl)
