use Rattle.std.proofs.Common.{refl}
use Rattle.tree.specs.Scan.{admits, own, filled, expand, judged, turn, scan, concluded, opened}
use Rattle.tree.proofs.scan_laws.scan_example_stands.Goals as goal

-- all by computation
pub returns : goal.returns
unfolding opened concluded scan turn judged expand filled own admits
returns c = record { opens = refl; count = refl; total = refl; room = refl; twice = refl; region = refl; charge = refl; empty = refl }
