use Rattle.std.proofs.Common.{◌≡◌, ◌-◌, length, Ok, Err, refl, ap, ◌∙◌, arith}
use Rattle.std.proofs.lemmas.Result.{err_from_is_err_and}
use Rattle.records.specs.Chain.{unmarked}
use Rattle.records.specs.Free.{numbers}
use Rattle.index.specs.Model.{limit}
use Rattle.index.specs.Opening.Opening.{few_records}
use Rattle.index.proofs.Openings.{opening_steps}
use Rattle.index.proofs.Opened.{no_head, scan_refused, scan_accepted, reads_ours, last_limit, scans_at}
use Rattle.index.proofs.index.Index.open.Goals as goal

pub returns-then-work-lt64 : goal.returns-then-work-lt64
returns-then-work-lt64 g c =
    let w = few_records c.if-work-lt64.true refl refl in
    record { step = opening_steps _ (g.met.O.PointOrder.lawful c.args.self.now.order) _ _ _ _ _ w; image = w; order = refl }

pub returns-in_err-header : goal.returns-in_err-header
returns-in_err-header g c =
    let w = no_head _ _ _ _ _ _ c.if-work-lt64.false c.in_err-header.ensures in
    let p = err_from_is_err_and c.from_residual.result c.from_residual.ensures.1 in
    rw (p.1, p.2) (record { step = opening_steps _ (g.met.O.PointOrder.lawful c.args.self.now.order) _ _ _ _ _ w; image = w; order = refl })

pub returns-in_err-scan : goal.returns-in_err-scan
returns-in_err-scan g c =
    let read = c.in_ok-header.ensures in
    let scans = scans_at read (length c.args.work.now) (Err c.in_err-scan.field-0.0) (g.S.PageStore.meaning c.scan.new.store) c.scan.new.marks c.size.ensures c.last_usable-last.ensures c.top_of-top.ensures c.in_err-scan.ensures in
    let w = scan_refused _ _ _ _ _ _ _ c.scan.new.marks (reads_ours read c.if-work-lt64.false) scans in
    let p = err_from_is_err_and c.from_residual-in_err-scan.result c.from_residual-in_err-scan.ensures.1 in
    rw (p.1, p.2) (record { step = opening_steps _ (g.met.O.PointOrder.lawful c.args.self.now.order) _ _ _ _ _ w; image = w; order = refl })

pub returns : goal.returns
returns g c =
    let read = c.in_ok-header.ensures in
    let scans = scans_at read (length c.args.work.now) (Ok tt) (g.S.PageStore.meaning c.scan.new.store) c.scan.new.marks c.size.ensures c.last_usable-last.ensures c.top_of-top.ensures c.in_ok-scan.ensures in
    let free : numbers c.rising.result ≡ unmarked c.scan.new.marks 2 (limit (g.S.PageStore.meaning c.args.self.now.store) - 1) =
    c.rising.ensures ∙ ap (unmarked c.scan.new.marks 2) (omega (arith, last_limit read c.size.ensures c.last_usable-last.ensures)) in
    let w = scan_accepted _ _ _ _ _ _ _ _ (reads_ours read c.if-work-lt64.false) scans free in
    record { step = opening_steps _ (g.met.O.PointOrder.lawful c.args.self.now.order) _ _ _ _ _ w; image = w; order = refl }
