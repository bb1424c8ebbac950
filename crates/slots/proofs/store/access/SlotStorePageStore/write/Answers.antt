use Rattle.std.proofs.lemmas.Result.{err_from_is_err_and}
use Rattle.slots.proofs.Accesses.{writes_yes, writes_no}
use Rattle.slots.proofs.store.access.SlotStorePageStore.write.Goals as goal

pub returns-in_err-access-clause-write : goal.returns-in_err-access-clause-write
returns-in_err-access-clause-write c =
    let p = err_from_is_err_and c.from_residual.result c.from_residual.ensures.1 in
    rw (p.1, p.2) (writes_no c.args.self.now.row.slots.now c.args.self.now.pages c.args.self.now.charge.left c.args.page _ c.args.from.now _ c.in_err-access.ensures)

pub returns-clause-write : goal.returns-clause-write
returns-clause-write c =
    writes_yes c.args.self.now.row.slots.now c.args.self.now.pages c.args.self.now.charge.left c.args.page c.access.new.self.left _ _ c.args.from.now _
    c.in_ok-access.ensures c.put_page.ensures.charge c.put_page.ensures.pages
