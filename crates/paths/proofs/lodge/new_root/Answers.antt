use Rattle.std.proofs.Common.{refl}
use Rattle.std.proofs.lemmas.Result.{err_from_is_err_and}
use Rattle.paths.proofs.LodgeRooting.{root_refused, root_made}
use Rattle.paths.proofs.lodge.new_root.Goals as goal

pub returns-in_err-write_items-in-Two-clause-roots : goal.returns-in_err-write_items-in-Two-clause-roots
returns-in_err-write_items-in-Two-clause-roots g c =
    let p = err_from_is_err_and c.from_residual.result c.from_residual.ensures.1 in
    rw (p.1, p.2) (root_refused c.args.old.at.level _ _ _ _ _ _ _ _ _ _ c.requires c.next_page.ensures.page c.in-Two.is c.in_err-write_items-in-Two.ensures)

pub returns-in_ok-write_items-in-Two-clause-roots : goal.returns-in_ok-write_items-in-Two-clause-roots
returns-in_ok-write_items-in-Two-clause-roots g c =
    root_made c.args.old.at.level _ _ _ _ _ _ _ _ _ _ c.requires c.next_page.ensures.page c.in-Two.is c.in_ok-write_items-in-Two.ensures refl c.next_page.ensures.used
