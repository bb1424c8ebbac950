use Rattle.tree.proofs.ScanWhole.{accepted_is_sound}
use Rattle.tree.proofs.scan_laws.accepted_is_sound_stands.Goals as goal

pub returns : goal.returns
returns c = accepted_is_sound
