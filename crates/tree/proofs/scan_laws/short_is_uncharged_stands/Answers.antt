use Rattle.tree.proofs.ScanEndings.{short_is_uncharged}
use Rattle.tree.proofs.scan_laws.short_is_uncharged_stands.Goals as goal

pub returns : goal.returns
returns c = short_is_uncharged
