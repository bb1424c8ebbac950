use Rattle.tree.proofs.ScanEndings.{refused_at_first_unsound}
use Rattle.tree.proofs.scan_laws.refused_at_first_unsound_stands.Goals as goal

pub returns : goal.returns
returns c = refused_at_first_unsound
