use Rattle.paths.proofs.PathsAccesses.{page_written}
use Rattle.paths.proofs.page.write_items.Goals as goal

pub returns : goal.returns
returns g c = page_written _ _ _ _ _ _ _ c.write_page.result c.put.result c.requires c.write_page.ensures c.put.ensures
