use Rattle.orders.proofs.Quadrants.{z_quadrants}
use Rattle.orders.proofs.rules.z_quadrants_stand.Goals as goal

pub returns : goal.returns
returns c = z_quadrants
