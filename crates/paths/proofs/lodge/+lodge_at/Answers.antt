use Rattle.std.proofs.Common.{◌≤◌, ap, ◌∙◌, arith}
use Rattle.std.proofs.lemmas.Result.{err_from_is_err_and}
use Rattle.paths.specs.OldPages.{old_pages}
use Rattle.paths.specs.declared.place.Placed.{Placed}
use Rattle.paths.proofs.PathsReading.{goes}
use Rattle.paths.proofs.PathsBack.{leaf_path, inner_path, same_path, path_length}
use Rattle.tree.specs.CopyPages.{fit_inner}
use Rattle.paths.proofs.LodgeEdits.{inner_split}
use Rattle.paths.proofs.LodgeClimbing.{lodge_unread, lodge_leafed, lodge_fails, lodge_climbs, lodge_room, plan_at, same_base}
use Rattle.paths.proofs.lodge.+lodge_at.Goals as goal

pub returns-in_err-read_page-clause-lodges : goal.returns-in_err-read_page-clause-lodges
returns-in_err-read_page-clause-lodges g t c =
    let p = err_from_is_err_and c.from_residual.result c.from_residual.ensures.1 in
    rw (p.1, p.2) (lodge_unread _ _ _ _ _ _ c.args.plan _ c.args.step.one c.in_err-read_page.ensures)

pub returns-then-step-eq1-clause-lodges : goal.returns-then-step-eq1-clause-lodges
returns-then-step-eq1-clause-lodges g t c =
    let mean = g.S.PageStore.meaning in
    lodge_leafed (mean c.args.store.now) (mean c.read_page.new.store) (mean c.lodge_leaf.new.store) _ _ _ _ _ _ c.lodge_leaf.result c.if-step-eq1.true c.in_ok-read_page.ensures c.lodge_leaf.ensures.leafs

pub returns-then-step-eq1-clause-path : goal.returns-then-step-eq1-clause-path
returns-then-step-eq1-clause-path g t c =
    let path : _ = leaf_path (g.S.PageStore.meaning c.args.store.now) _ c.args.step.at.page c.args.address _ _ c.if-step-eq1.true c.default.ensures.1 c.with_old-trade.ensures.path in
    same_path (λ (x : Placed). x.trade.path) (g.S.PageStore.meaning c.args.store.now) _ _ _ _ c.lodge_leaf.result path c.lodge_leaf.ensures.path

pub returns-in_err-pages-clause-lodges : goal.returns-in_err-pages-clause-lodges
returns-in_err-pages-clause-lodges g t c =
    let p = err_from_is_err_and c.from_residual-in_err-pages.result c.from_residual-in_err-pages.ensures.1 in
    let two : 2 ≤ c.args.step.at.level = omega arith in
    let w = goes _ _ _ _ _ _ _ _ two c.in_ok-read_page.ensures c.child_at.ensures.page c.child_at.ensures.level in
    rw (p.1, p.2) (lodge_fails _ _ _ _ _ _ _ _ _ _ _ _ _ w (plan_at _ _ _ _ c.below-deep.ensures c.len.ensures.is) c.in_err-pages.ensures.lodges)

pub with_old-trade-requires-2 : goal.with_old-trade-requires-2
with_old-trade-requires-2 g t c =
    let n = path_length (g.S.PageStore.meaning c.read_page.new.store) c.child_at.result.level c.child_at.result.page c.args.address (old_pages c.in_ok-pages.field-0.trade.path) c.in_ok-pages.ensures.path in
    omega (arith, n, c.child_at.ensures.level, c.args.step.six, c.args.step.one)

pub place-requires : goal.place-requires
place-requires g t c =
    let mean = g.S.PageStore.meaning in
    let n = lodge_room (mean c.read_page.new.store) _ c.child_at.result.level _ _ _ _ c.in_ok-pages.field-0
    (omega (arith, c.requires.low, c.child_at.ensures.level, same_base _ c.args.plan _ c.below-deep.ensures)) c.in_ok-pages.ensures.lodges in
    record { room = rw c.with_old-trade-2.ensures.used n; few = c.split_inner-right.ensures.few }

pub returns-clause-lodges : goal.returns-clause-lodges
returns-clause-lodges g t c =
    let two : 2 ≤ c.args.step.at.level = omega arith in
    let w = goes _ _ _ _ _ _ _ _ two c.in_ok-read_page.ensures c.child_at.ensures.page c.child_at.ensures.level in
    lodge_climbs _ _ _ _ _ _ _ _ _ _ _ _ _ c.in_ok-pages.field-0 _ c.place.result w
    (plan_at _ _ _ _ c.below-deep.ensures c.len.ensures.is) c.in_ok-pages.ensures.lodges
    (inner_split _ _ c.split_inner-right.result c.split_inner-right.ensures.fits ∙ ap fit_inner c.renew_child.ensures) (rw c.with_old-trade-2.ensures.used at c.place.ensures.places)

pub returns-clause-path : goal.returns-clause-path
returns-clause-path g t c =
    let mean = g.S.PageStore.meaning in
    let two : 2 ≤ c.args.step.at.level = omega arith in
    let w = goes _ _ _ _ _ _ _ _ two c.in_ok-read_page.ensures c.child_at.ensures.page c.child_at.ensures.level in
    let path : _ = inner_path _ _ (mean c.args.store.now) (mean c.read_page.new.store) _ _ _ _ (old_pages c.in_ok-pages.field-0.trade.path) _ w c.in_ok-pages.ensures.path c.with_old-trade-2.ensures.path in
    same_path (λ (x : Placed). x.trade.path) (mean c.args.store.now) _ _ _ _ c.place.result path c.place.ensures.path
