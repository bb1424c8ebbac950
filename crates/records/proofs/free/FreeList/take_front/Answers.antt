use Rattle.std.proofs.Common.{refl}
use Rattle.records.proofs.Frees.{some, take_ghosts, takes}
use Rattle.records.proofs.free.FreeList.take_front.Goals as goal

pub overflow_sub-self : goal.overflow_sub-self
overflow_sub-self c = some c.args.self.now _ _ c.in_ok-k.ensures.2.1

pub invariant_of-self : goal.invariant_of-self
invariant_of-self c =
    let z = take_ghosts c.args.self.now _ _ c.in_ok-k.ensures.2.1 in
    record { long = z.0; low = z.1.0; linked = z.1.1.0; counted = z.1.1.1.0; loose = z.1.1.1.1.0 }

pub returns : goal.returns
returns c = takes c.args.self.now _ _ c.in_ok-k.ensures.2.1 _ refl refl
