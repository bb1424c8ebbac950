use Rattle.tree.proofs.ScanEndings.{stack_suffices}
use Rattle.tree.proofs.scan_laws.stack_suffices_stands.Goals as goal

pub returns : goal.returns
returns c = stack_suffices
