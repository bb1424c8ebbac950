-- What a search of a tree on file comes to.
use Rattle.std.specs.Prelude.{◌≡◌, ℕ, ◌≤◌, List, [], ◌++◌, length, take, drop, Ok, Err, Result}
use Rattle.orders.specs.Orders.{Order}
use Rattle.faults.specs.declared.fault.Fault.{Fault}
use Rattle.tree.specs.Tree.{Node, Held}
use Rattle.tree.specs.Tree.Held.{none, held}
use Rattle.tree.specs.SearchRuns.{Outcome, outcome, search_run}
use Rattle.tree.specs.SearchRuns.Ending.{done}
use Rattle.searches.specs.declared.find.Find.{Find}
use Rattle.searches.specs.declared.find.Found.{Found}
use Rattle.searches.specs.Inside.{inside}
use Rattle.searches.specs.Searching.{finds_of}
use Rattle.index.specs.Model.{Answer}
use Rattle.index.specs.Model.Answer.{found}
use Rattle.index.specs.Keeping.{top}

-- the search of the box from lo to hi, from the address start on, with this charge and room for so many finds; an empty tree has nothing
abbrev pub search_of : Order → List ℕ → List ℕ → ℕ → Held Node → ℕ → ℕ → Outcome
search_of o lo hi start none charge room = outcome [] done 0
search_of o lo hi start (held n) charge room = search_run (inside o lo hi) start n 0 (top o) charge room

-- as an answer
abbrev pub answer_of : Order → Outcome → Answer
answer_of o out = found (finds_of o out) out.reads out.ending

-- the memory lent for finds: they fit in it, and past them it is as it was
pub record LentBack (r : Found) (before after : List Find) : Type 0 where
  pub fits : r.count ≤ length before
  pub rest : after ≡ take r.count after ++ drop r.count before

-- a refused search leaves all of it
abbrev pub Lends : Result Found Fault → List Find → List Find → Type 0
Lends (Ok r) before after = LentBack r before after
Lends (Err f) before after = after ≡ before
