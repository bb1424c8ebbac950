use Rattle.paths.proofs.WithdrawKept.{withdraw_keeps, withdraw_frees, withdraw_keeps_old}
use Rattle.paths.proofs.withdraw.withdraw_stands.Goals as goal

pub returns : goal.returns
returns c = record { next = withdraw_keeps; free = withdraw_frees; refused = withdraw_keeps_old }
