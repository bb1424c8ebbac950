use Rattle.tree.proofs.SearchReads.{regions_law, reads_law, reads_from_law, count_law, once_law}
use Rattle.tree.proofs.search_laws.reads_stands.Goals as goal

pub returns : goal.returns
returns c = record { regions = regions_law; reads = reads_law; reads_from = reads_from_law; count = count_law; once = once_law }
