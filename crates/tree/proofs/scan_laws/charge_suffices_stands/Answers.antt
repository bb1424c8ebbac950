use Rattle.tree.proofs.ScanEndings.{charge_suffices}
use Rattle.tree.proofs.scan_laws.charge_suffices_stands.Goals as goal

pub returns : goal.returns
returns c = charge_suffices
