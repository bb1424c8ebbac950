use Rattle.std.proofs.Common.{rules, inr, refl}
use Rattle.session.proofs.stores.choose.Goals as goal

-- src/stores.rt:18:1
pub returns-in-Ok : goal.returns-in-Ok
returns-in-Ok c = inr (inr (search rules, refl, refl, refl, (_, refl, search rules, search rules, search rules)))
