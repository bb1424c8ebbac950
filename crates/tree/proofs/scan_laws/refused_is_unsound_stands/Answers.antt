use Rattle.tree.proofs.ScanEndings.{refused_is_unsound}
use Rattle.tree.proofs.scan_laws.refused_is_unsound_stands.Goals as goal

pub returns : goal.returns
returns c = refused_is_unsound
