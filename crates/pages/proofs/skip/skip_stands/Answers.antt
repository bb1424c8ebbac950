use Rattle.std.proofs.Common.{refl}
use Rattle.pages.specs.Skip.{good}
use Rattle.pages.proofs.skip.skip_stands.Goals as goal

pub returns : goal.returns
unfolding good
returns c = refl
