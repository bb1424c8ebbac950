-- Which answers are right.
use Rattle.orders.specs.Orders.{Order, AddressIs, PointIs, FirstIs}
use Rattle.std.specs.Prelude.{Some, None, Option}
use Rattle.script.specs.declared.question.Question.{Question}
use Rattle.script.specs.declared.question.Question.TheVariants.{AddressOf, PointOf, FirstOf}
use Rattle.script.specs.declared.question.Answer.{Answer}
use Rattle.script.specs.declared.question.Answer.TheVariants.{Address, At}

abbrev pub Answered : Order → Question → Option Answer → Type 0
Answered o (AddressOf x) None = AddressIs o x.coords None
Answered o (AddressOf x) (Some (Address a)) = AddressIs o x.coords (Some a)
Answered o (AddressOf x) (Some (At y)) = ⊥
Answered o (PointOf a) None = PointIs o a None
Answered o (PointOf a) (Some (Address b)) = ⊥
Answered o (PointOf a) (Some (At x)) = PointIs o a (Some x)
Answered o (FirstOf b from) None = FirstIs o b.low.coords b.high.coords from None
Answered o (FirstOf b from) (Some (Address a)) = FirstIs o b.low.coords b.high.coords from (Some a)
Answered o (FirstOf b from) (Some (At x)) = ⊥
