use Rattle.std.proofs.lemmas.Result.{err_from_is_err_and}
use Rattle.slots.proofs.Accesses.{reads_yes, reads_no}
use Rattle.slots.proofs.store.access.SlotStorePageStore.read.Goals as goal

pub returns-in_err-access-clause-read : goal.returns-in_err-access-clause-read
returns-in_err-access-clause-read c =
    let p = err_from_is_err_and c.from_residual.result c.from_residual.ensures.1 in
    rw (p.1, p.2) (reads_no c.args.self.now.row.slots.now c.args.self.now.pages c.args.self.now.charge.left c.args.page _ c.args.into.now _ c.in_err-access.ensures)

pub returns-clause-read : goal.returns-clause-read
returns-clause-read c =
    reads_yes c.args.self.now.row.slots.now c.args.self.now.pages c.args.self.now.charge.left c.args.page _ c.args.into.now _ c.in_ok-access.ensures c.copy_page.ensures
