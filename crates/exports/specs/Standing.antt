-- Where an index stands that is made over a store and an order: the history that led to it.
use Rattle.std.specs.Prelude.{◌≡◌, ℕ, ◌⊎◌, List, ◌∷◌, length, take, Ok, Err, Result}
use Rattle.pages.specs.Image.{Image}
use Rattle.orders.specs.Orders.{Order}
use Rattle.index.specs.declared.index.Index.{Index}
use Rattle.orders.specs.Spaces.{Ordered}
use Rattle.faults.specs.declared.fault.Fault.{Fault}
use Rattle.faults.specs.Refusals.{number_of}
use Rattle.searches.specs.declared.find.Find.{Find}
use Rattle.searches.specs.declared.find.Found.{Found}
use Rattle.searches.specs.Finds.{ending_of}
use Rattle.exports.specs.declared.batch.Corners.{Corners}
use Rattle.index.specs.Steps.{Step}
use Rattle.index.specs.Model.{State, refusal}
use Rattle.index.specs.Model.Call.{opens}
use Rattle.index.specs.Model.Answer.{found, refused}
use Rattle.index.specs.View.{view}
use Rattle.index.specs.Searched.{LentBack}
use Rattle.orders.specs.Refusals.{number_of as number_of_space}
use Rattle.orders.specs.declared.refusal.Refusal.TheVariants.{BoxEnds}
use Rattle.index.specs.Histories.{History, Led, event}
use Rattle.exports.specs.Batches.{granted, seeking}

pub record StandsAt {S O : Type 0} (meaning : S → Image) (order_of : O → Order) (store : S) (order : O) (h : History) (x : Index S O) : Type 0 where
  pub led : Led (order_of order) (meaning store) h (view meaning x)
  pub same : x.order ≡ order

-- the opening was refused with this number
pub record Unopened (o : Order) (m : Image) (charge refusal : ℕ) : Type 0 where
  pub values : List ℕ
  pub left : State
  pub led : Led o m (event (opens 64) (refused refusal values) ∷ granted charge) left

-- one search: by a step, answered or refused; or there is no such box
abbrev pub Seeks : {S O : Type 0} → (S → Image) → (O → Order) → Index S O → Corners → List Find → Result Found ℕ → Index S O → List Find → Type 0
Seeks meaning order_of x c before (Ok r) y after =
    Step (order_of x.order) (view meaning x) (found (take r.count after) r.reads (ending_of r.ending)) (view meaning y) (seeking (length before) c)
    × (length (take r.count after) ≡ r.count)
    × LentBack r before after
Seeks meaning order_of x c before (Err k) y after =
    (after ≡ before)
    × (((f : Fault) × (k ≡ number_of f) × Step (order_of x.order) (view meaning x) (refusal f) (view meaning y) (seeking (length before) c))
    ⊎ ((k ≡ number_of_space BoxEnds) × (Ordered c.low c.high → ⊥) × (y ≡ x)))
