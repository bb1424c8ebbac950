-- What was done is told.
use Rattle.std.proofs.Common.{◌≡◌, ℕ, Result, Ok as is_ok, Err as is_err, refl}
use Rattle.std.specs.Result.{MatchResult}
use Rattle.orders.specs.Orders.{Order}
use Rattle.faults.specs.declared.fault.Fault.{Fault}
use Rattle.index.specs.Model.{Call, State, told, told_count}
use Rattle.answers.specs.declared.answer.Answer.{Answer}
use Rattle.answers.specs.declared.answer.Answer.TheVariants.{Ok, Count, Refused}
use Rattle.answers.specs.Calls.{Steps, Carried}

pub carried_done : (o : Order) (n : ℕ) (s u : State) (call : Call) (r : Result (Unit {0}) Fault) (answer : Answer) → MatchResult r (λ _. answer ≡ Ok) (λ f. answer ≡ Refused f)
    → Steps o s (told r) u call → Carried o n s answer u call
carried_done o n s u call (is_ok x) answer e does = rw e (_, refl, does)
carried_done o n s u call (is_err f) answer e does = rw e (_, refl, does)

pub carried_count : (o : Order) (n : ℕ) (s u : State) (call : Call) (r : Result ℕ Fault) (answer : Answer) → MatchResult r (λ k. answer ≡ Count k) (λ f. answer ≡ Refused f)
    → Steps o s (told_count r) u call → Carried o n s answer u call
carried_count o n s u call (is_ok k) answer e does = rw e (_, refl, does)
carried_count o n s u call (is_err f) answer e does = rw e (_, refl, does)
