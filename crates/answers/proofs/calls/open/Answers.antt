use Rattle.std.proofs.Common.{◌≡◌, min, length, rules}
use Rattle.answers.proofs.Enough.{step_opens, opening}
use Rattle.answers.proofs.calls.open.Goals as goal

pub returns-clause-done : goal.returns-clause-done
returns-clause-done g c =
    let lent : length c.as_mut_slice.result.now ≡ min c.args.records 64 = search rules in
    (step_opens _ _ _ _ _ _ lent c.open.ensures.step, opening _ _ _ _ _ _ lent c.open.ensures.image)
