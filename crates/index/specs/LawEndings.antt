-- How a search from any address ends, and what it has then found and read.
use Rattle.std.specs.Prelude.{◌≡◌, ℕ, ◌+◌, ◌<◌, ◌≤◌, List, ◌∷◌, ◌++◌, map, length, filter}
use Rattle.std.specs.List.{ContainsAt as Has}
use Rattle.orders.specs.Orders.{Order, InBox}
use Rattle.tree.specs.CopyLaws.{events_of}
use Rattle.tree.specs.SearchSteps.{Region, from, passes}
use Rattle.tree.specs.SearchRuns.{Ending}
use Rattle.tree.specs.SearchRuns.Ending.{done, more, cut}
use Rattle.searches.specs.declared.find.Find.{Find}
use Rattle.searches.specs.Inside.{inside}
use Rattle.searches.specs.Finds.{find_of}
use Rattle.index.specs.Model.{Answer, State}
use Rattle.index.specs.Model.Answer.{found}
use Rattle.index.specs.Keeping.{Content, Filed, Kept}
use Rattle.index.specs.Law.{UnderPage1, NumberOf, regions_of}

-- the events in the leaves that lie in the box, at or above the address start
abbrev pub in_leaves_from : Order → List ℕ → List ℕ → ℕ → Filed → List Find
in_leaves_from o lo hi start f = map (find_of o) (filter (passes (from (inside o lo hi) start)) (events_of f.tree))

-- a is an address of the box in the region, at or above start
abbrev pub WantedIn : Order → List ℕ → List ℕ → ℕ → Region → ℕ → Type 0
WantedIn o lo hi start r a = (r.lo ≤ a) × (a ≤ r.hi) × (start ≤ a) × InBox o lo hi a

-- Done: all is found, and the reads are the pages whose region holds an address of the box at or above start. More: the room is used up, and the address is that
-- of the next event. Cut: the charge is used up; the page is one of the tree's, and the address is the first of the box in its region at or above start; with a
-- charge of at least the height, that is above start. More and cut leave a beginning.
abbrev pub Ends : Order → State → List ℕ → List ℕ → ℕ → ℕ → Filed → List Find → ℕ → Ending → Type 0
Ends o s lo hi start room f got reads done =
    (got ≡ in_leaves_from o lo hi start f) × NumberOf (λ r. (a : ℕ) × WantedIn o lo hi start r a) (regions_of o f.tree) reads
Ends o s lo hi start room f got reads (more a) =
    (length got ≡ room) × ((x : Find) × (rest : List Find) × (in_leaves_from o lo hi start f ≡ got ++ x ∷ rest) × (x.address ≡ a))
Ends o s lo hi start room f got reads (cut page a) =
    (reads ≡ s.image.charge)
    × ((rest : List Find) × (in_leaves_from o lo hi start f ≡ got ++ rest))
    × ((r : Region) × Has (regions_of o f.tree) r × (r.page ≡ page) × WantedIn o lo hi start r a × ((b : ℕ) → b < a → WantedIn o lo hi start r b → ⊥))
    × (f.height ≤ s.image.charge → start < a)

-- of a search that was answered so: the tree under page 1, and its ending; each read took one charge
pub record Ended (o : Order) (s u : State) (lo hi : List ℕ) (start room : ℕ) (got : List Find) (reads : ℕ) (ending : Ending) : Type 0 where
  pub file : Filed
  pub under : UnderPage1 o s.image file
  pub spent : s.image.charge ≡ u.image.charge + reads
  pub ends : Ends o s lo hi start room file got reads ending

-- in every state in which something is kept
abbrev pub EndingLaw : Order → State → Answer → State → List ℕ → List ℕ → ℕ → ℕ → Type 0
EndingLaw o s a u lo hi start room = (c : Content) → Kept o s c → (got : List Find) (reads : ℕ) (ending : Ending) → a ≡ found got reads ending → Ended o s u lo hi start room got reads ending
