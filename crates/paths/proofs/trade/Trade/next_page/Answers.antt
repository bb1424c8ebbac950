use Rattle.std.proofs.Common.{arith}
use Rattle.records.proofs.Frees.{numbers_few}
use Rattle.paths.proofs.trade.Trade.next_page.Goals as goal

pub overflow_add-self : goal.overflow_add-self
overflow_add-self c = omega (arith, c.requires, numbers_few c.args.free.now)
