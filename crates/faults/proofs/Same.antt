-- The same pages say the same.
use Rattle.std.proofs.Common.{◌≡◌, ◌-◌, [], get_or}
use Rattle.pages.specs.Image.{Image}
use Rattle.layout.specs.Bytes.{content_of}
use Rattle.faults.specs.Accesses.{contents}

pub same_contents : (m₀ m : Image) → m.pages ≡ m₀.pages → contents m ≡ contents m₀
same_contents m₀ m e = λ i p. content_of (get_or (e i) (p - 1) [])
