use Rattle.std.proofs.Common.{sym, ◌∙◌}
use Rattle.index.proofs.Resets.{shuts_down, stays_shut}
use Rattle.index.proofs.index.Index.shut.Goals as goal

pub returns-then-is_some-clause-step : goal.returns-then-is_some-clause-step
returns-then-is_some-clause-step g c = shuts_down _ _ _

pub returns-else-is_some-clause-step : goal.returns-else-is_some-clause-step
returns-else-is_some-clause-step g c = stays_shut _ _ _ (sym c.is_some.ensures ∙ c.if-is_some.false)
