use Rattle.std.proofs.Common.{◌≡◌, ℕ, Some, sym, subst, arith}
use Rattle.std.specs.List.{slice_get}
use Rattle.records.specs.Free.{numbers}
use Rattle.records.proofs.Frees.{kept, numbers_within}
use Rattle.records.proofs.Peeks.{from_front, from_next}
use Rattle.std.proofs.lemmas.Option.{slice_get_past}
use Rattle.records.proofs.free.FreeList.peek.Goals as goal

pub returns-then-place-self : goal.returns-then-place-self
returns-then-place-self c =
    let f = c.args.self.now in
    sym (slice_get_past (numbers f) c.args.place (omega (arith, (kept f).counted)))

pub loop-init : goal.loop-init
loop-init c =
    let f = c.args.self.now in
    from_front f.next (numbers f) f.front (numbers_within f) (kept f).chained.0

pub loop-preserved : goal.loop-preserved
loop-preserved c =
    let f = c.args.self.now in
    from_next f.next (numbers f) c.loop.counter c.loop.k (numbers_within f) c.loop.invariant (omega (arith, (kept f).counted))

pub returns : goal.returns
returns c =
    let f = c.args.self.now in
    let e : c.loop.counter ≡ c.args.place = omega arith in
    sym (subst (λ (j : ℕ). slice_get (numbers f) j ≡ Some c.loop.k) e (c.loop.invariant.here (omega (arith, (kept f).counted))).0)
