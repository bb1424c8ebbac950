use Rattle.tree.proofs.ScanEndings.{uncharged_at_page}
use Rattle.tree.proofs.scan_laws.uncharged_at_page_stands.Goals as goal

pub returns : goal.returns
returns c = uncharged_at_page
