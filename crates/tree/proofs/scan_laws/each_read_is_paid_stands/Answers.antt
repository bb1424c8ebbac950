use Rattle.tree.proofs.ScanWays.{each_read_is_paid}
use Rattle.tree.proofs.scan_laws.each_read_is_paid_stands.Goals as goal

pub returns : goal.returns
returns c = each_read_is_paid
