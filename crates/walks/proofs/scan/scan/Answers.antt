use Rattle.std.proofs.Common.{◌≤◌, min, length, refl, ap, ◌∙◌, arith}
use Rattle.std.proofs.lemmas.Result.{err_from_is_err_and}
use Rattle.tree.specs.Tree.{limit_of}
use Rattle.walks.proofs.ScanEnd.{scans_refused, scans_unsummed, scans_summed}
use Rattle.walks.proofs.scan.scan.Goals as goal

pub returns-in_err-seen : goal.returns-in_err-seen
returns-in_err-seen g c =
    let p = err_from_is_err_and c.from_residual.result c.from_residual.ensures.1 in
    let ready : 64 ≤ length c.args.work.now = omega arith in
    let low : c.args.header.height ≤ 6 = omega arith in
    rw (p.1, p.2) (scans_refused (g.S.PageStore.meaning c.args.store.now) c.args.limit c.args.header c.args.top c.min-last.result (length c.args.work.now)
    (c.min-last.ensures ∙ ap (min c.args.limit) (c.last_usable.ensures ∙ ap limit_of c.size.ensures)) ready low _ _ _ c.in_err-seen.ensures)

pub returns-then-not-sums_hold : goal.returns-then-not-sums_hold
returns-then-not-sums_hold g c =
    let ready : 64 ≤ length c.args.work.now = omega arith in
    let low : c.args.header.height ≤ 6 = omega arith in
    scans_unsummed (g.S.PageStore.meaning c.args.store.now) c.args.limit c.args.header c.args.top c.min-last.result (length c.args.work.now)
    (c.min-last.ensures ∙ ap (min c.args.limit) (c.last_usable.ensures ∙ ap limit_of c.size.ensures)) ready low c.in_ok-seen.seen _ _ c.in_ok-seen.ensures _ c.if-not-sums_hold.ensures refl

pub returns : goal.returns
returns g c =
    let ready : 64 ≤ length c.args.work.now = omega arith in
    let low : c.args.header.height ≤ 6 = omega arith in
    scans_summed (g.S.PageStore.meaning c.args.store.now) c.args.limit c.args.header c.args.top c.min-last.result (length c.args.work.now)
    (c.min-last.ensures ∙ ap (min c.args.limit) (c.last_usable.ensures ∙ ap limit_of c.size.ensures)) ready low c.in_ok-seen.seen _ _ c.in_ok-seen.ensures tt _ c.if-not-sums_hold.ensures refl
