-- Tally where a state is kept.
use Rattle.std.proofs.Common.{ℕ, Ok, Err, Result, sym, ◌∙◌, subst}
use Rattle.pages.specs.Image.{Image}
use Rattle.tree.specs.CopyMoves.{State}
use Rattle.faults.specs.declared.fault.Fault.{Fault}
use Rattle.paths.specs.PathsReading.{KeptAt}
use Rattle.paths.specs.TallyRules.{Tallied, Tallies, TallyIs}
use Rattle.paths.proofs.PathsKept.{misread_kept, at_kept, leaf_count}

tallies : (m m' : Image) (root height a limit total top : ℕ) (s : State) (r : Result ℕ Fault) → Tallied m height root a r m' → KeptAt m root height limit total top s → Tallies m s a r m'
tallies m m' root height a limit total top s (Ok n) t k =
    let u = at_kept (λ h p. Tallied m h p a (Ok n) m') m root height limit total top s k t in
    (u.0, u.1 ∙ leaf_count m limit total top s a k.kept, u.2)
tallies m m' root height a limit total top s (Err f) t k =
    let o = misread_kept m m' root height limit total top s a f k t in
    subst (λ (x : Fault). Tallies m s a (Err x) m') (sym o.told) o.runs

pub tally_is : (m m' : Image) (root height a : ℕ) (r : Result ℕ Fault) → Tallied m height root a r m' → TallyIs m root height a r m'
tally_is m m' root height a r t = record { always = t; kept = λ limit total top s k. tallies m m' root height a limit total top s r t k }
