use Rattle.std.proofs.Common.{refl, arith}
use Rattle.std.proofs.lemmas.Result.{err_from_is_err_and}
use Rattle.paths.specs.WithdrawRules.NotWithdrawn.{no_room, refusal}
use Rattle.paths.proofs.PathsAccesses.{differ}
use Rattle.paths.proofs.WithdrawKept.{empty_refused, root_copied, withdraw_is}
use Rattle.paths.proofs.withdraw.withdraw.Goals as goal

pub returns-then-root-eq0 : goal.returns-then-root-eq0
returns-then-root-eq0 g c = withdraw_is _ _ _ _ _ _ _ (empty_refused _ _ _ _ _ c.if-root-eq0.true)

pub returns-then-not-has_room : goal.returns-then-not-has_room
returns-then-not-has_room g c = withdraw_is _ _ _ _ _ _ _ (no_room refl (λ r. differ (c.if-not-has_room.ensures.1 r)) refl)

pub returns-in_err-left : goal.returns-in_err-left
returns-in_err-left g c =
    let p = err_from_is_err_and c.from_residual.result c.from_residual.ensures.1 in
    rw (p.1, p.2) (withdraw_is _ _ _ _ _ _ _ (refusal (c.if-not-has_room.ensures.0 refl) c.in_err-left.ensures.withdraws))

pub returns : goal.returns
returns g c =
    withdraw_is _ _ _ _ _ _ _ (root_copied _ _ _ _ _ _ c.in_ok-left.left _ (c.if-not-has_room.ensures.0 refl) (omega arith) c.in_ok-left.ensures.withdraws c.in_ok-left.ensures.path
    c.copied.ensures)
