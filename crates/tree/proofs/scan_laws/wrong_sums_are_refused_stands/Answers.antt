use Rattle.tree.proofs.ScanEndings.{wrong_sums_are_refused}
use Rattle.tree.proofs.scan_laws.wrong_sums_are_refused_stands.Goals as goal

pub returns : goal.returns
returns c = wrong_sums_are_refused
