use Rattle.std.proofs.Common.{◌≤◌, arith}
use Rattle.std.proofs.lemmas.Result.{err_from_is_err_and}
use Rattle.paths.proofs.PathsReading.{misread_here, goes}
use Rattle.paths.proofs.TallyReading.{tally_empty, tally_leaf, tally_below}
use Rattle.paths.proofs.TallyKept.{tally_is}
use Rattle.paths.proofs.tally.+tally.Goals as goal

pub returns-then-root-eq0 : goal.returns-then-root-eq0
returns-then-root-eq0 g t c = tally_is _ _ _ _ _ _ (tally_empty _ _ c.args.root.page c.args.address c.if-root-eq0.true)

pub returns-in_err-read_page : goal.returns-in_err-read_page
returns-in_err-read_page g t c =
    let p = err_from_is_err_and c.from_residual.result c.from_residual.ensures.1 in
    rw (p.1, p.2) (tally_is _ _ _ _ _ _ (misread_here _ _ _ _ _ _ (omega arith) c.in_err-read_page.ensures))

pub returns-then-root-eq1 : goal.returns-then-root-eq1
returns-then-root-eq1 g t c = tally_is _ _ _ _ _ _ (tally_leaf _ _ _ _ _ _ _ c.if-root-eq1.true c.in_ok-read_page.ensures c.count_at.ensures)

pub returns : goal.returns
returns g t c =
    let two : 2 ≤ c.args.root.level = omega arith in
    tally_is _ _ _ _ _ c.tally.result (tally_below _ _ _ _ _ _ _ _ _ c.tally.result (goes _ _ _ _ _ _ _ _ two c.in_ok-read_page.ensures c.child_at.ensures.page c.child_at.ensures.level) c.tally.ensures.always)
