use Rattle.std.proofs.Common.{◌+◌, refl, ◌∙◌, subst, sym}
use Rattle.records.specs.declared.tray.Tray.{Tray}
use Rattle.searches.specs.declared.find.Find.{Find}
use Rattle.searches.specs.Sought.{sought}
use Rattle.searches.proofs.LeafFinds.{Searched, searched_all, passed_by, found_one, no_room}
use Rattle.searches.proofs.finding.put_finds.Goals as goal
use Rattle.searches.proofs.finding.put_finds.Goals.{in-Some+else-is_err, in_default}

pub returns-then-is_err : goal.returns-then-is_err
returns-then-is_err g c =
    no_room (sought g.O.PointOrder.meaning c.args.request.now) c.args.entries.now c.args.finds.now c.loop-e.e-index c.loop-e.finds c.loop-e-test.true c.loop-e.invariant
    _ c.in-Some.point c.in-Some.ensures refl c.put.new.self c.put.result (sym c.is_err.ensures.value ∙ c.if-is_err.true) c.put.ensures.put c.put.ensures.lent

pub loop-e-preserved : goal.loop-e-preserved
loop-e-preserved g c =
    let q = sought g.O.PointOrder.meaning c.args.request.now in
    let es = c.args.entries.now in
    let t = c.args.finds.now in
    elim c.match-point.branch [
      | in-Some+else-is_err w ↦
          subst (λ (x : Tray Find). Searched q es (c.loop-e.e-index + 1) t x) (sym w.finds-is)
          (found_one q es t c.loop-e.e-index c.loop-e.finds c.loop-e-test.true c.loop-e.invariant _ w.in-Some.point w.in-Some.ensures refl
          w.put.new.self w.put.result (sym w.is_err.ensures.value ∙ w.if-is_err.false) c.loop-e.finds.within w.put.ensures.put w.put.ensures.lent)
      | in_default w ↦
          subst (λ (x : Tray Find). Searched q es (c.loop-e.e-index + 1) t x) (sym w.finds-is)
          (passed_by q es t c.loop-e.e-index c.loop-e.finds c.loop-e-test.true c.loop-e.invariant w.in_default.ensures)
    ]

pub returns : goal.returns
returns g c = searched_all (sought g.O.PointOrder.meaning c.args.request.now) c.args.entries.now c.args.finds.now _ c.loop-e.finds c.loop-e-test.false c.loop-e.invariant
