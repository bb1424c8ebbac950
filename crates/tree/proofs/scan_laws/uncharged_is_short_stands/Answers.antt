use Rattle.tree.proofs.ScanEndings.{uncharged_is_short}
use Rattle.tree.proofs.scan_laws.uncharged_is_short_stands.Goals as goal

pub returns : goal.returns
returns c = uncharged_is_short
