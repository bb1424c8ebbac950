use Rattle.tree.proofs.ScanEndings.{first_unsound_is_refused}
use Rattle.tree.proofs.scan_laws.first_unsound_is_refused_stands.Goals as goal

pub returns : goal.returns
returns c = first_unsound_is_refused
