use Rattle.std.proofs.Common.{[], refl}
use Rattle.records.proofs.Links.{kept_none}
use Rattle.records.proofs.Frees.{ghosts, numbers_is}
use Rattle.records.proofs.free.FreeList.none.Goals as goal

pub invariant_of-result : goal.invariant_of-result
invariant_of-result c = let z = ghosts _ _ _ [] (kept_none _ refl refl) in record { long = z.0; low = z.1.0; linked = z.1.1.0; counted = z.1.1.1.0; loose = z.1.1.1.1.0 }

pub returns : goal.returns
returns c = numbers_is _ [] (refl, (tt, tt))
