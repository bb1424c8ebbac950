use Rattle.std.proofs.Common.{refl, arith}
use Rattle.records.proofs.Links.{kept_few}
use Rattle.records.proofs.Frees.{kept, put_ghosts, puts, has}
use Rattle.records.proofs.free.FreeList.put_front.Goals as goal
use Rattle.records.proofs.free.FreeList.put_front.Goals.{then-k-eq0-via-then-k-eq0, then-k-eq0-via-else-k-eq0+then-k-gt-GREATEST, then-k-eq0-via-else-k-eq0+else-k-gt-GREATEST+then-self-k}

pub returns-then-k-eq0 : goal.returns-then-k-eq0
returns-then-k-eq0 c = (
  refl,
  λ p h a. elim c.then-k-eq0.branch [
    | then-k-eq0-via-then-k-eq0 w ↦ omega arith
    | then-k-eq0-via-else-k-eq0+then-k-gt-GREATEST w ↦ omega arith
    | then-k-eq0-via-else-k-eq0+else-k-gt-GREATEST+then-self-k w ↦ has c.args.self.now c.args.k h w.if-self-k.true a
  ],
  refl,
)

pub overflow_add-self : goal.overflow_add-self
overflow_add-self c = omega (arith, kept_few _ _ _ _ (kept c.args.self.now))

pub invariant_of-self : goal.invariant_of-self
invariant_of-self c =
    let z = put_ghosts c.args.self.now c.args.k c.if-k-eq0.false c.if-k-gt-GREATEST.false c.if-self-k.false in
    record { long = z.0; low = z.1.0; linked = z.1.1.0; counted = z.1.1.1.0; loose = z.1.1.1.1.0 }

pub returns : goal.returns
returns c = puts c.args.self.now c.args.k c.if-k-eq0.false c.if-k-gt-GREATEST.false c.if-self-k.false _ refl refl
