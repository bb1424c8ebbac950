use Rattle.std.proofs.Common.{◌≡◌, ℕ, Some, None, Option, MatchOption, IsSomeAnd}
use Rattle.orders.specs.Orders.{Order, FirstIs}
use Rattle.orders.specs.declared.space.QueryBox.{QueryBox}
use Rattle.script.specs.Questions.{Answered}
use Rattle.script.specs.declared.question.Question.TheVariants.{FirstOf}
use Rattle.script.specs.declared.question.Answer.{Answer}
use Rattle.script.specs.declared.question.Answer.TheVariants.{Address}
use Rattle.script.proofs.question.ask.Goals as goal

found : (o : Order) (b : QueryBox) (from : ℕ) (r : Option ℕ) (a : Option Answer) → FirstIs o b.low.coords b.high.coords from r
    → MatchOption r (a ≡ None) (λ x. IsSomeAnd a (λ y. y ≡ Address x)) → Answered o (FirstOf b from) a
found o b from None a first none = rw none first
found o b from (Some x) None first some = absurd some
found o b from (Some x) (Some y) first some = rw some first

pub returns-in-FirstOf : goal.returns-in-FirstOf
returns-in-FirstOf g c =
    rw c.in-FirstOf.is (found (g.O.PointOrder.meaning c.args.order.now) c.in-FirstOf.b c.in-FirstOf.from c.first.result c.map-in-FirstOf.result c.first.ensures c.map-in-FirstOf.ensures.cases)
