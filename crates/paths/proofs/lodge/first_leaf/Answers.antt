use Rattle.std.proofs.Common.{ap, ◌∙◌, arith}
use Rattle.paths.specs.OldPages.{old_pages}
use Rattle.records.specs.Free.{numbers}
use Rattle.std.proofs.lemmas.Result.{err_from_is_err_and}
use Rattle.paths.proofs.LodgeRooting.{first_few, first_refused, first_made}
use Rattle.paths.proofs.lodge.first_leaf.Goals as goal

pub returns-then-len-lt7 : goal.returns-then-len-lt7
returns-then-len-lt7 g c = first_few _ 0 c.args.address c.len.result (numbers c.args.free.now) c.len.ensures (omega arith)

pub returns-in_err-write_items : goal.returns-in_err-write_items
returns-in_err-write_items g c =
    let p = err_from_is_err_and c.from_residual.result c.from_residual.ensures.1 in
    let q = rw c.default-trade.ensures.0 at c.next_page.ensures.page in
    rw (p.1, p.2) (first_refused _ _ 0 _ _ c.len.result _ _ c.len.ensures (omega arith) q c.in_err-write_items.ensures)

pub returns : goal.returns
returns g c =
    let q = rw c.default-trade.ensures.0 at c.next_page.ensures.page in
    first_made _ _ 0 _ _ c.len.result _ _ _ (rw c.default-trade.ensures.0 at c.next_page.ensures.used) (ap old_pages c.next_page.ensures.path ∙ c.default-trade.ensures.1) c.len.ensures (omega arith) q c.in_ok-write_items.ensures
