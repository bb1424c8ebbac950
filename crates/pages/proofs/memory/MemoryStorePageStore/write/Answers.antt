use Rattle.std.proofs.Common.{arith}
use Rattle.std.proofs.lemmas.Result.{err_from_is_err_and}
use Rattle.pages.proofs.Cuts.{writes_yes, writes_no, overwritten_is}
use Rattle.pages.proofs.memory.MemoryStorePageStore.write.Goals as goal

pub returns-in_err-access-clause-write : goal.returns-in_err-access-clause-write
returns-in_err-access-clause-write c =
    let p = err_from_is_err_and c.from_residual.result c.from_residual.ensures.1 in
    rw (p.1, p.2) (writes_no _ _ _ _ c.number_in-pages.ensures _ c.args.from.now _ c.in_err-access.ensures)

pub returns-clause-write : goal.returns-clause-write
returns-clause-write c =
    let b = overwritten_is c.args.self.now.bytes.now c.copy_from_slice.new.self c.args.from.now c.args.page _ (omega arith) c.copy_from_slice.ensures.after in
    writes_yes _ _ _ _ c.number_in-pages.ensures _ _ _ c.in_ok-access.ensures c.told-from b
