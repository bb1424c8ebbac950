use Rattle.orders.specs.Schedules.{z_places}
use Rattle.orders.proofs.rules.z_places_stand.Goals as goal

pub returns : goal.returns
returns c = z_places
