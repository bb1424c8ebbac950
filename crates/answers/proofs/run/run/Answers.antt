use Rattle.std.proofs.Common.{rules, ◌∙◌, refl, subst, ap, arith}
use Rattle.orders.specs.Orders.{Order}
use Rattle.index.specs.View.{view}
use Rattle.answers.specs.Calls.{Carried, call_of}
use Rattle.answers.proofs.Running.{runs_law, chain_begun, chain_further, chain_whole}
use Rattle.answers.proofs.run.run.Goals as goal

pub loop-asked-init : goal.loop-asked-init
loop-asked-init g c = (chain_begun _ _ _ c.args.calls.now _ search rules, refl)

pub loop-asked-preserved : goal.loop-asked-preserved
loop-asked-preserved g c = (chain_further _ _ _ _ _ c.args.calls.now _ _ _ c.asked-item.result _ _ (omega arith) c.loop-asked.invariant.0 c.asked-item.is (subst (λ (o : Order). Carried o c.args.n (view g.S.PageStore.meaning c.loop-asked.index) c.in_ok-call.field-0 (view g.S.PageStore.meaning c.call.new.index) (call_of c.asked-item.result)) (ap (g.O.PointOrder.meaning) c.loop-asked.invariant.1) c.in_ok-call.ensures.done) c.in_ok-push.ensures.items, c.call.ensures.order ∙ c.loop-asked.invariant.1)

pub returns-clause-chain : goal.returns-clause-chain
returns-clause-chain g c = chain_whole _ _ _ _ _ _ _ (omega arith) c.loop-asked.invariant.0

pub returns-clause-law : goal.returns-clause-law
returns-clause-law g c = runs_law _ (g.met.O.PointOrder.lawful c.args.index.now.order) _ _ _ _ _ (chain_whole _ _ _ _ _ _ _ (omega arith) c.loop-asked.invariant.0)

pub returns-clause-order : goal.returns-clause-order
returns-clause-order g c = c.loop-asked.invariant.1
