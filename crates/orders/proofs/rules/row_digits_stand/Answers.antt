use Rattle.orders.proofs.Digits.{row_is}
use Rattle.orders.proofs.rules.row_digits_stand.Goals as goal

pub returns : goal.returns
returns c = row_is
