use Rattle.std.proofs.Common.{sym}
use Rattle.slots.proofs.Accesses.{size_is}
use Rattle.slots.proofs.store.access.SlotStorePageStore.size.Goals as goal

pub returns : goal.returns
returns c = sym (size_is c.args.self.now.row.slots.now c.args.self.now.pages 0 0)
