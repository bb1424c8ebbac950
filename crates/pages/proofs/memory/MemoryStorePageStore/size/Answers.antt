use Rattle.std.proofs.Common.{rules}
use Rattle.pages.specs.Sizes.{cut_length}
use Rattle.pages.proofs.memory.MemoryStorePageStore.size.Goals as goal

pub returns : goal.returns
returns c = search (rules, cut_length)
