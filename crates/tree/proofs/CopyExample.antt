-- The worked example computes.
use Rattle.std.proofs.Common.{refl, arith}
use Rattle.tree.specs.CopyExample.{ElevenLaw}

pub eleven_law : ElevenLaw
eleven_law = ((omega arith, (omega arith, (omega arith, (omega arith, (omega arith, (omega arith, (omega arith, (omega arith, (omega arith, (omega arith, (omega arith, tt))))))))))), refl)
