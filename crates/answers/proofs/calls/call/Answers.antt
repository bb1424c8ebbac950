use Rattle.std.proofs.Common.{refl}
use Rattle.answers.proofs.Carrying.{carried_done, carried_count}
use Rattle.answers.proofs.calls.call.Goals as goal
use Rattle.answers.proofs.calls.call.Goals.{in-Grant, in-Format, in-Open+in_ok-open-in-Open, in-Shut, in-Lodge, in-Withdraw, in-Tally, in-Search+in_ok-search-in-Search}

pub returns-clause-done : goal.returns-clause-done
returns-clause-done g c = elim c.match-call.branch [
  | in-Grant w ↦ rw (w.index-is, w.result-is, w.in-Grant.is) (_, refl, (w.grant.ensures.step, tt))
  | in-Format w ↦ rw (w.index-is, w.result-is, w.in-Format.is) (carried_done _ _ _ _ _ _ _ w.done.ensures (w.format.ensures.step, tt))
  | in-Open+in_ok-open-in-Open w ↦ rw (w.index-is, w.result-is, w.in-Open.is) (carried_done _ _ _ _ _ _ _ w.done-in-Open.ensures w.in_ok-open-in-Open.ensures.done)
  | in-Shut w ↦ rw (w.index-is, w.result-is, w.in-Shut.is) (_, refl, (w.shut.ensures.step, tt))
  | in-Lodge w ↦ rw (w.index-is, w.result-is, w.in-Lodge.is) (carried_done _ _ _ _ _ _ _ w.done-in-Lodge.ensures (w.lodge.ensures.step, tt))
  | in-Withdraw w ↦ rw (w.index-is, w.result-is, w.in-Withdraw.is) (carried_done _ _ _ _ _ _ _ w.done-in-Withdraw.ensures (w.withdraw.ensures.step, tt))
  | in-Tally w ↦ rw (w.index-is, w.result-is, w.in-Tally.is) (carried_count _ _ _ _ _ _ _ w.map_or_else.ensures (w.tally.ensures.step, tt))
  | in-Search+in_ok-search-in-Search w ↦ rw (w.index-is, w.result-is, w.in-Search.is) w.in_ok-search-in-Search.ensures.done
]
