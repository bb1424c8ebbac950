use Rattle.tree.proofs.ScanEndings.{scan_ends}
use Rattle.tree.proofs.scan_laws.scan_ends_stands.Goals as goal

pub returns : goal.returns
returns c = scan_ends
