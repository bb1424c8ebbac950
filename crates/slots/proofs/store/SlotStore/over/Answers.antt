use Rattle.std.proofs.Common.{replicate, refl}
use Rattle.slots.proofs.Surveying.{same_again}
use Rattle.slots.proofs.Stores.{ghosts, ghosts_none, made, makes_yes}
use Rattle.slots.proofs.store.SlotStore.over.Goals as goal

pub invariant_of-result : goal.invariant_of-result
invariant_of-result c = ghosts_none c.args.slots.now (replicate 1025 0) _ refl (λ q. same_again 1025 q 0) c.none.ensures

pub invariant_of-result-2 : goal.invariant_of-result-2
invariant_of-result-2 c =
    let a = c.in-Some.ensures in
    ghosts _ _ _ _ (made c.args.slots.now c.args.pages c.in-Some.survey.home c.in-Some.survey.used _ a.0 a.1 c.rising-free.ensures)

pub returns-clause-made : goal.returns-clause-made
returns-clause-made c =
    let a = c.in-Some.ensures in
    makes_yes c.args.slots.now c.args.pages c.in-Some.survey.home c.in-Some.survey.used _ a.0 a.1 c.rising-free.ensures
