use Rattle.index.proofs.Resets.{grants_charge}
use Rattle.index.proofs.index.Index.grant.Goals as goal

pub returns-clause-step : goal.returns-clause-step
returns-clause-step g c = grants_charge _ _ _ _ _ c.grant.ensures
