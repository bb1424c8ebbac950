use Rattle.layout.proofs.Trips.{round_trip}
use Rattle.layout.proofs.Cleans.{clean_law, filled_law}
use Rattle.layout.proofs.laws.pages_stand.Goals as goal

pub returns : goal.returns
returns c = record { trip = round_trip; clean = clean_law; filled = filled_law }
