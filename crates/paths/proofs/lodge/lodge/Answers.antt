use Rattle.std.proofs.Common.{arith}
use Rattle.std.proofs.lemmas.Result.{err_from_is_err_and}
use Rattle.paths.proofs.LodgeClimbing.{lodge_room}
use Rattle.paths.proofs.LodgeRooting.{tree_empty, tree_fails, tree_roots}
use Rattle.paths.proofs.LodgeKeeping.{lodge_is}
use Rattle.paths.proofs.lodge.lodge.Goals as goal

pub returns-then-root-eq0 : goal.returns-then-root-eq0
returns-then-root-eq0 g c = lodge_is _ _ _ _ _ _ _ (omega arith) (tree_empty _ _ _ _ _ _ c.first_leaf.result c.if-root-eq0.true c.first_leaf.ensures)

pub returns-in_err-pages : goal.returns-in_err-pages
returns-in_err-pages g c =
    let p = err_from_is_err_and c.from_residual.result c.from_residual.ensures.1 in
    rw (p.1, p.2) (lodge_is _ _ _ _ _ _ _ (omega arith) (tree_fails _ _ _ _ _ _ _ (omega arith) (omega arith) c.in_err-pages.ensures.lodges))

pub new_root-requires : goal.new_root-requires
new_root-requires g c =
    let n = lodge_room (g.S.PageStore.meaning c.args.store.now) _ c.args.root.level _ _ _ _ c.in_ok-pages.field-0 (omega arith) c.in_ok-pages.ensures.lodges in
    omega (arith, n)

pub returns : goal.returns
returns g c =
    lodge_is _ _ _ _ _ _ _ (omega arith) (tree_roots _ _ _ _ _ _ _ c.in_ok-pages.field-0 c.in_ok-pages.field-0.trade.path c.new_root.result (omega arith) (omega arith)
    c.in_ok-pages.ensures.lodges c.in_ok-pages.ensures.path c.new_root.ensures.path c.new_root.ensures.roots)
