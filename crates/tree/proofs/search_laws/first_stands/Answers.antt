use Rattle.tree.proofs.SearchFirst.{first_least, meets_decides}
use Rattle.tree.proofs.search_laws.first_stands.Goals as goal

pub returns : goal.returns
returns c = record { first = first_least; test = meets_decides }
