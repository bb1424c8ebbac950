-- 6: is the point in the space?
use Rattle.std.specs.Prelude.{◌≡◌, ℕ, List, Ok, Err, Result}
use Rattle.orders.specs.Orders.{Order, InSpaceOf}
use Rattle.faults.specs.declared.fault.Fault.{Fault}
use Rattle.faults.specs.declared.fault.Fault.TheVariants.{Outside}

-- it is, and has this address
pub record Inside (o : Order) (x : List ℕ) (a : ℕ) : Type 0 where
  pub inside : InSpaceOf o x
  pub address : a ≡ o.address x

-- it is not, and the refusal says so
pub record LiesOutside (o : Order) (x : List ℕ) (f : Fault) : Type 0 where
  pub away : InSpaceOf o x → ⊥
  pub told : f ≡ Outside

abbrev pub Located : Order → List ℕ → Result ℕ Fault → Type 0
Located o x (Ok a) = Inside o x a
Located o x (Err f) = LiesOutside o x f
