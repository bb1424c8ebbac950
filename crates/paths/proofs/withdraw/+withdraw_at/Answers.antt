use Rattle.std.proofs.Common.{◌≤◌, ◌∙◌, arith}
use Rattle.std.proofs.lemmas.Result.{err_from_is_err_and}
use Rattle.paths.specs.OldPages.{old_pages}
use Rattle.paths.specs.declared.left.Left.{Left}
use Rattle.paths.proofs.PathsReading.{goes}
use Rattle.paths.proofs.PathsBack.{leaf_path, inner_path, same_path, path_length}
use Rattle.paths.proofs.WithdrawClimbs.{unread_here, leaf_none, leaf_left, inner_fails, inner_climbs, used_below}
use Rattle.paths.proofs.withdraw.+withdraw_at.Goals as goal

pub returns-in_err-read_page-clause-withdraws : goal.returns-in_err-read_page-clause-withdraws
returns-in_err-read_page-clause-withdraws g t c =
    let p = err_from_is_err_and c.from_residual.result c.from_residual.ensures.1 in
    rw (p.1, p.2) (unread_here _ _ _ _ _ _ c.in_err-read_page.field-0.0 c.args.step.one c.in_err-read_page.ensures)

pub returns-in_err-take_one-clause-withdraws : goal.returns-in_err-take_one-clause-withdraws
returns-in_err-take_one-clause-withdraws g t c =
    let p = err_from_is_err_and c.from_residual-in_err-take_one.result c.from_residual-in_err-take_one.ensures.1 in
    rw (p.1, p.2) (rw c.in_err-take_one.ensures.takes.0 (leaf_none _ _ _ _ _ _ _ c.if-step-eq1.true c.in_ok-read_page.ensures c.in_err-take_one.ensures.takes.1))

pub returns-then-step-eq1-clause-withdraws : goal.returns-then-step-eq1-clause-withdraws
returns-then-step-eq1-clause-withdraws g t c =
    let u = c.with_old-trade.ensures.used ∙ c.default.ensures.0 in
    let mean = g.S.PageStore.meaning in
    leaf_left (mean c.args.store.now) (mean c.read_page.new.store) (mean c.place_left.new.store) _ _ _ _ _ _ c.place_left.result c.if-step-eq1.true c.in_ok-read_page.ensures c.in_ok-take_one.ensures.takes (rw u at c.place_left.ensures.places)

pub returns-then-step-eq1-clause-path : goal.returns-then-step-eq1-clause-path
returns-then-step-eq1-clause-path g t c =
    let path : _ = leaf_path (g.S.PageStore.meaning c.args.store.now) _ c.args.step.at.page c.args.address _ _ c.if-step-eq1.true c.default.ensures.1 c.with_old-trade.ensures.path in
    same_path (λ (x : Left). x.trade.path) (g.S.PageStore.meaning c.args.store.now) _ _ _ _ c.place_left.result path c.place_left.ensures.path

pub returns-in_err-below-clause-withdraws : goal.returns-in_err-below-clause-withdraws
returns-in_err-below-clause-withdraws g t c =
    let p = err_from_is_err_and c.from_residual-in_err-below.result c.from_residual-in_err-below.ensures.1 in
    let two : 2 ≤ c.args.step.at.level = omega arith in
    let w = goes _ _ c.args.step.at.level _ c.args.step.at.page c.args.address _ _ two c.in_ok-read_page.ensures c.child_at.ensures.page c.child_at.ensures.level in
    rw (p.1, p.2) (inner_fails _ _ _ _ _ _ _ _ _ _ c.in_err-below.field-0.0 w c.in_err-below.ensures.withdraws)

pub with_old-trade-requires-2 : goal.with_old-trade-requires-2
with_old-trade-requires-2 g t c =
    let n = path_length (g.S.PageStore.meaning c.read_page.new.store) c.child_at.result.level c.child_at.result.page c.args.address (old_pages c.in_ok-below.below.trade.path) c.in_ok-below.ensures.path in
    omega (arith, n, c.child_at.ensures.level, c.args.step.six, c.args.step.one)

pub place_left-requires-2 : goal.place_left-requires-2
place_left-requires-2 g t c =
    let u = used_below (g.S.PageStore.meaning c.read_page.new.store) _ c.child_at.result.level _ _ _ c.in_ok-below.below c.in_ok-below.ensures.withdraws in
    rw c.with_old-trade-2.ensures.used (omega (arith, u, c.child_at.ensures.level, c.requires, c.args.step.one))

pub returns-clause-withdraws : goal.returns-clause-withdraws
returns-clause-withdraws g t c =
    let two : 2 ≤ c.args.step.at.level = omega arith in
    let w = goes _ _ c.args.step.at.level _ c.args.step.at.page c.args.address _ _ two c.in_ok-read_page.ensures c.child_at.ensures.page c.child_at.ensures.level in
    let mean = g.S.PageStore.meaning in
    inner_climbs _ _ (mean c.args.store.now) (mean c.read_page.new.store) (mean c.withdraw_at.new.store) (mean c.place_left-2.new.store) _ _ _ _ _ _ c.in_ok-below.below c.place_left-2.result w c.in_ok-below.ensures.withdraws c.restore_child.ensures.clears
    (rw c.with_old-trade-2.ensures.used at c.place_left-2.ensures.places)

pub returns-clause-path : goal.returns-clause-path
returns-clause-path g t c =
    let mean = g.S.PageStore.meaning in
    let two : 2 ≤ c.args.step.at.level = omega arith in
    let w = goes _ _ c.args.step.at.level _ c.args.step.at.page c.args.address _ _ two c.in_ok-read_page.ensures c.child_at.ensures.page c.child_at.ensures.level in
    let path : _ = inner_path _ _ (mean c.args.store.now) (mean c.read_page.new.store) _ _ _ _ (old_pages c.in_ok-below.below.trade.path) _ w c.in_ok-below.ensures.path c.with_old-trade-2.ensures.path in
    same_path (λ (x : Left). x.trade.path) (mean c.args.store.now) _ _ _ _ c.place_left-2.result path c.place_left-2.ensures.path
