-- What the walk of a search does, in code: under one page, or under the children of a page.
use Rattle.std.specs.Prelude.{◌≡◌, ℕ, ◌+◌, ◌<◌, ◌≤◌, Bool, List, map, length, Some, None, Option}
use Rattle.std.specs.List.{AllByRecursion}
use Rattle.layout.specs.declared.entry.Entry.{Entry}
use Rattle.layout.specs.declared.page_ref.PageRef.{PageRef}
use Rattle.pages.specs.Image.{Image}
use Rattle.records.specs.declared.tray.Tray.{Tray}
use Rattle.tree.specs.Tree.{Node, Forest, number, pages, pages_in, child_entries, Level, LevelIn, Stands, StandsIn}
use Rattle.tree.specs.SearchRuns.{outcome}
use Rattle.tree.specs.SearchWalks.{Walked, walk, walk_in}
use Rattle.tree.specs.SearchLimits.{Agrees}
use Rattle.faults.specs.Accesses.{contents}
use Rattle.searches.specs.declared.find.Find.{Find}
use Rattle.searches.specs.declared.part.Part.{Part}
use Rattle.searches.specs.Sought.{Sought, Tests, Asks}
use Rattle.searches.specs.Finds.{find_of, ending_of, room, Puts, Laid}

-- the next address is in reach of a region with this end, or it is not
abbrev pub Reached : Option ℕ → ℕ → Option ℕ → Type 0
Reached next end (Some a) = (next ≡ Some a) × (a ≤ end)
Reached next end None = (a : ℕ) → next ≡ Some a → end < a

-- the store has these pages, and none of them is the header's
abbrev pub InStore : Image → List ℕ → Type 0
InStore m ps = AllByRecursion (λ p. (2 ≤ p) × (p ≤ length m.pages)) ps

-- a tree stands at this page and level of the memory, and the store has its pages
abbrev pub StandsAs : Image → ℕ → ℕ → Node → Type 0
StandsAs m page level n = (number n ≡ page) × Level n level × Stands n (contents m) × InStore m (pages n)

-- trees stand at this level as the children that these entries name
abbrev pub StandBelow : Image → ℕ → List Entry → Forest → Type 0
StandBelow m level es f = LevelIn f level × StandsIn f (contents m) × InStore m (pages_in f) × (child_entries f ≡ es)

-- what came of it is what the theory's walk comes to, with the charge and the room that there are, and the events found are in the tray
abbrev pub ComesOf : Sought → Image → Tray Find → Walked → Part → Tray Find → Type 0
ComesOf q m t w r t' =
    (found : List Entry) × Agrees (outcome found (ending_of r.ending) r.reads) r.next w m.charge (room t) × Puts (map (find_of q.order) found) t t'

-- No page is changed, each read takes one charge, and the tray is changed by finds alone. Where a tree (or trees) of the type A stands, by every test
-- of what is wanted and every way to ask: it comes of the theory's walk of it.
pub record WalksOver (A : Type 0) (stands : A → Type 0) (walk_of : (ℕ → Option ℕ) → (ℕ → Bool) → A → Walked)
    (q : Sought) (m : Image) (t : Tray Find) (r : Part) (m' : Image) (t' : Tray Find) : Type 0 where
  pub same : m'.pages ≡ m.pages
  pub paid : m'.charge + r.reads ≡ m.charge
  pub laid : Laid t t'
  pub walks : (n : A) → stands n → (P : ℕ → Bool) → Tests q P → (ask : ℕ → Option ℕ) → Asks q ask → ComesOf q m t (walk_of ask P n) r t'

-- the walk under a page, of which the region ends at `end`
abbrev pub Walks : Sought → Image → PageRef → ℕ → Option ℕ → Tray Find → Part → Image → Tray Find → Type 0
Walks q m at end next = WalksOver Node (StandsAs m at.page at.level) (λ ask P n. walk ask P n end next) q m

-- the walk under the children of a page
abbrev pub WalksBelow : Sought → Image → ℕ → List Entry → ℕ → Option ℕ → Tray Find → Part → Image → Tray Find → Type 0
WalksBelow q m level es end next = WalksOver Forest (StandBelow m level es) (λ ask P f. walk_in ask P f end next) q m
