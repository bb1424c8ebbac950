use Rattle.tree.proofs.ScanWhole.{one_sound_tree}
use Rattle.tree.proofs.scan_laws.one_sound_tree_stands.Goals as goal

pub returns : goal.returns
returns c = one_sound_tree
