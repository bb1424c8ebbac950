use Rattle.std.proofs.Common.{◌≡◌, ◌+◌, ◌-◌, ◌++◌, drop, refl, ◌∙◌, ap, arith}
use Rattle.tree.specs.Scan.{child_visits}
use Rattle.walks.specs.Pending.{to_come}
use Rattle.walks.proofs.ChildVisits.{put_none, put_more, length_children}
use Rattle.walks.proofs.children.put_children.Goals as goal

pub loop-i-init : goal.loop-i-init
loop-i-init c = (refl, refl, put_none _ _ _ (length_children _ c.args.v.hi c.args.entries.now c.args.v.lo))

pub loop-i-preserved : goal.loop-i-preserved
loop-i-preserved c =
    let pos = c.loop-i-test.true in
    let le = c.loop-i.auto.i in
    let sum = c.loop-i.invariant.0 in
    let same = c.loop-i.invariant.1 in
    let room = c.requires.room in
    let vs = child_visits (c.args.v.at.level - 1) c.args.v.lo c.args.v.hi c.args.entries.now in
    let few = length_children (c.args.v.at.level - 1) c.args.v.hi c.args.entries.now c.args.v.lo in
    let one : c.loop-i.i ≡ c.loop-i.i - 1 + 1 = omega arith in
    let m = put_more c.loop-i.pending c.put.new.self (c.loop-i.i - 1) vs (to_come c.args.pending.now) c.child_visit.result c.put.result (omega arith) (omega arith)
    c.child_visit.ensures c.put.ensures.put (c.loop-i.invariant.2 ∙ ap (λ n. drop n vs ++ to_come c.args.pending.now) one) in
    (omega (arith, m.0), m.1 ∙ same, m.2)
