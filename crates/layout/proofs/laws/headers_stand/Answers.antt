use Rattle.layout.proofs.Headings.{header_back}
use Rattle.layout.proofs.laws.headers_stand.Goals as goal

pub returns : goal.returns
returns c = header_back
