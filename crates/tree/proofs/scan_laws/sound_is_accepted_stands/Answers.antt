use Rattle.tree.proofs.ScanWhole.{sound_is_accepted}
use Rattle.tree.proofs.scan_laws.sound_is_accepted_stands.Goals as goal

pub returns : goal.returns
returns c = sound_is_accepted
