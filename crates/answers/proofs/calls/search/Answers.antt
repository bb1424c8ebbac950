use Rattle.std.proofs.Common.{◌≡◌, min, length, drop, refl, arith, rules}
use Rattle.std.proofs.lemmas.List.{take_at}
use Rattle.answers.proofs.Enough.{step_searches}
use Rattle.answers.proofs.calls.search.Goals as goal

pub returns-in-Ok-clause-done : goal.returns-in-Ok-clause-done
returns-in-Ok-clause-done g c =
    let lent : length c.as_mut_slice.result.now ≡ min c.args.asked.room 10240 = search rules in
    let memory = c.search.new.memory in
    let vec = c.in_ok-finds.finds in
    let whole = take_at memory (drop (length memory) vec.items) vec.len (omega arith) in
    (_, (refl, search rules, refl), (step_searches _ _ _ _ _ _ _ _ _ lent (rw (c.truncate.ensures.items, whole) c.in-Ok.ensures.step), tt))

pub returns-in-Err-clause-done : goal.returns-in-Err-clause-done
returns-in-Err-clause-done g c =
    let lent : length c.as_mut_slice.result.now ≡ min c.args.asked.room 10240 = search rules in
    (_, refl, (step_searches _ _ _ _ _ _ _ _ _ lent (search rules), tt))
