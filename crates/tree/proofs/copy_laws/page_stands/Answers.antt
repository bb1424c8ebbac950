use Rattle.tree.proofs.CopyInner.{page_law}
use Rattle.tree.proofs.copy_laws.page_stands.Goals as goal

pub returns : goal.returns
returns c = page_law
