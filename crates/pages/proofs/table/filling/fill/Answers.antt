use Rattle.std.proofs.Common.{ap}
use Rattle.std.proofs.lemmas.Result.{on_err_weaker}
use Rattle.pages.proofs.Rooms.{fill_start, fill_more}
use Rattle.pages.proofs.table.filling.fill.Goals as goal

pub loop-k-init : goal.loop-k-init
loop-k-init c = fill_start _ _ c.requires.few

pub loop-k-preserved : goal.loop-k-preserved
loop-k-preserved c =
    fill_more c.try_push.result _ _ _ _ _ c.loop-k.auto.k c.loop-k.invariant
    c.try_push.ensures.variant c.try_push.ensures.ok (on_err_weaker c.try_push.result (ap (λ v. v.items)) c.try_push.ensures.err) c.try_push.ensures.full
