use Rattle.std.proofs.lemmas.Result.{err_from_is_err_and}
use Rattle.paths.proofs.LodgePlacing.{first_refused, second_refused}
use Rattle.paths.proofs.place.place.Goals as goal

pub returns-in_err-write_items-clause-places : goal.returns-in_err-write_items-clause-places
returns-in_err-write_items-clause-places g c =
    let p = err_from_is_err_and c.from_residual.result c.from_residual.ensures.1 in
    rw (p.1, p.2) (first_refused _ _ _ c.args.right.now _ _ _ _ _ c.requires.room c.next_page-first.ensures.page (rw c.as_slice.ensures at c.in_err-write_items.ensures))

pub returns-in_err-write_items-in-Some-clause-places : goal.returns-in_err-write_items-in-Some-clause-places
returns-in_err-write_items-in-Some-clause-places g c =
    let p = err_from_is_err_and c.from_residual-in_err-write_items-in-Some.result c.from_residual-in_err-write_items-in-Some.ensures.1 in
    let q = rw c.next_page-first.ensures.used at c.next_page-second.ensures.page in
    rw (p.1, p.2) (second_refused _ _ _ _ _ c.in-Some.half _ _ _ _ _ _ c.requires.room c.next_page-first.ensures.page q c.in-Some.is
    (rw c.as_slice.ensures at c.in_ok-write_items.ensures) (rw c.as_slice-in-Some.ensures at c.in_err-write_items-in-Some.ensures))
