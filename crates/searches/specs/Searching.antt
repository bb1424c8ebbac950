-- What the search of a tree answers, and what it leaves.
use Rattle.std.specs.Prelude.{◌≡◌, ℕ, ◌+◌, ◌-◌, ◌≤◌, List, ◌++◌, map, length, take, drop}
use Rattle.layout.specs.declared.page_ref.PageRef.{PageRef}
use Rattle.orders.specs.Orders.{Order, InSpaceOf, size}
use Rattle.pages.specs.Image.{Image}
use Rattle.tree.specs.Tree.{Node, Ordered}
use Rattle.tree.specs.SearchRuns.{Outcome, search_run}
use Rattle.searches.specs.declared.find.Find.{Find}
use Rattle.searches.specs.declared.find.Found.{Found}
use Rattle.searches.specs.declared.find.Ending.TheVariants.{Done}
use Rattle.searches.specs.Inside.{inside}
use Rattle.searches.specs.Sought.{Sought}
use Rattle.searches.specs.Finds.{find_of, ending_of}
use Rattle.searches.specs.Walking.{StandsAs}

-- the events of an outcome as finds
abbrev pub finds_of : Order → Outcome → List Find
finds_of o out = map (find_of o) out.found

-- nothing was read and nothing found
abbrev pub nothing : Found
nothing = record { count = 0; reads = 0; ending = Done }

-- An answer tells an outcome: how it ended, its reads, and its finds, which stand first in the lent memory.
pub record Tells (o : Order) (out : Outcome) (r : Found) (memory' : List Find) : Type 0 where
  pub ending : ending_of r.ending ≡ out.ending
  pub reads : r.reads ≡ out.reads
  pub finds : take r.count memory' ≡ finds_of o out

-- A search of the box, from the start on. No page is changed, and each read takes one charge; the memory past the finds is as it was. An empty
-- tree, with its root at level 0, has nothing. Where a tree in order stands, and both ends of the box are in the space, the answer tells what the
-- theory's run of the search comes to, with the charge and the room that there are.
pub record Searches (q : Sought) (m : Image) (root : PageRef) (top : ℕ) (memory : List Find) (r : Found) (m' : Image) (memory' : List Find) : Type 0 where
  pub same : m'.pages ≡ m.pages
  pub paid : m'.charge + r.reads ≡ m.charge
  pub fits : r.count ≤ length memory
  pub lent : memory' ≡ take r.count memory' ++ drop r.count memory
  pub empty : root.level ≡ 0 → r ≡ nothing
  pub tree : (n : Node) → StandsAs m root.page root.level n → Ordered n 0 top → top ≡ size q.order - 1 → InSpaceOf q.order q.low → InSpaceOf q.order q.high →
      Tells q.order (search_run (inside q.order q.low q.high) q.start n 0 top m.charge (length memory)) r memory'
