use Rattle.paths.proofs.WithdrawWriting.{left_written}
use Rattle.paths.proofs.withdraw.place_left.Goals as goal

pub returns-clause-places : goal.returns-clause-places
returns-clause-places g c = left_written _ _ _ _ _ _ _ _ _ _ c.next_page.ensures.used c.len.ensures.is c.if-len-eq0.false c.requires.room c.next_page.ensures.page (rw c.as_slice.ensures at c.in_ok-write_items.ensures)
