-- What a search does, as a list of steps: which pages it reads, in what order, and which events it finds.
-- The steps depend on the tree, the box and the start, not on the charge or the room for finds.
use Rattle.std.specs.Prelude.{◌≡◌, ℕ, zero, suc, ◌-◌, ◌<◌, ◌≤◌, Bool, true, false, cond, ◌&&◌, List, [], ◌∷◌, ◌++◌, length, Some, None, filter, Option, nat_le}
use Rattle.layout.specs.declared.entry.Entry.{Entry}
use Rattle.tree.specs.Tree.{Node, Forest, events}
use Rattle.tree.specs.Tree.Node.{leaf, inner}
use Rattle.tree.specs.Tree.Forest.{last, more}

-- a page with its region, the addresses from lo to hi
pub record Region : Type 0 where
  pub page : ℕ
  pub lo : ℕ
  pub hi : ℕ

abbrev pub region : ℕ → ℕ → ℕ → Region
region page lo hi = record { page = page; lo = lo; hi = hi }

-- every page of the tree with its region, in visiting order: a page before its children, lower regions first
abbrev mutual
  pub regions : Node → ℕ → ℕ → List Region
  regions (leaf page es) lo hi = region page lo hi ∷ []
  regions (inner page ks) lo hi = region page lo hi ∷ regions_in ks lo hi

  pub regions_in : Forest → ℕ → ℕ → List Region
  regions_in (last n) lo hi = regions n lo hi
  regions_in (more n key ks) lo hi = regions n lo key ++ regions_in ks (suc key) hi

-- the leaves alone, with their regions
abbrev mutual
  pub leaves : Node → ℕ → ℕ → List Region
  leaves (leaf page es) lo hi = region page lo hi ∷ []
  leaves (inner page ks) lo hi = leaves_in ks lo hi

  pub leaves_in : Forest → ℕ → ℕ → List Region
  leaves_in (last n) lo hi = leaves n lo hi
  leaves_in (more n key ks) lo hi = leaves n lo key ++ leaves_in ks (suc key) hi

-- P is a test of addresses: a passes, and is in the region from lo to hi
abbrev pub Hit : (ℕ → Bool) → ℕ → ℕ → ℕ → Type 0
Hit P lo hi a = (lo ≤ a) × (a ≤ hi) × (P a ≡ true)

-- the region holds an address that passes
abbrev pub Meets : (ℕ → Bool) → ℕ → ℕ → Type 0
Meets P lo hi = (a : ℕ) × (lo ≤ a) × (a ≤ hi) × (P a ≡ true)

-- r is the least number of which Q holds, or None where there is none
abbrev pub Least : Option ℕ → (ℕ → Type 0) → Type 0
Least None Q = (b : ℕ) → Q b → ⊥
Least (Some a) Q = Q a × ((b : ℕ) → b < a → Q b → ⊥)

-- the least of the k addresses from lo on that passes
abbrev pub first_of : (ℕ → Bool) → ℕ → ℕ → Option ℕ
first_of P lo zero = None
first_of P lo (suc k) = let r = first_of P (suc lo) k in cond (P lo) (Some lo) r

-- the least address of the region that passes
unfoldable pub first : (ℕ → Bool) → ℕ → ℕ → Option ℕ
first P lo hi = first_of P lo (suc hi - lo)

abbrev pub is_some : Option ℕ → Bool
is_some None = false
is_some (Some a) = true

-- whether the region holds an address that passes
abbrev pub meets : (ℕ → Bool) → ℕ → ℕ → Bool
meets P lo hi = is_some (first P lo hi)

abbrev pub met : (ℕ → Bool) → Region → Bool
met P r = meets P r.lo r.hi

-- A box is a test of addresses too. A search of a box from a start on is the search for what passes this test:
-- the address is in the box, at or above start
abbrev pub from : (ℕ → Bool) → ℕ → ℕ → Bool
from inside start a = inside a && nat_le start a

abbrev pub passes : (ℕ → Bool) → Entry → Bool
passes P e = P e.key

-- the box's events at or above start, in order
abbrev pub box_events : (ℕ → Bool) → ℕ → Node → List Entry
box_events inside start n = filter (passes (from inside start)) (events n)

-- how many pages have a region that holds an address of the box at or above start
abbrev pub pages_met : (ℕ → Bool) → ℕ → Node → ℕ → ℕ → ℕ
pages_met inside start n lo hi = length (filter (met (from inside start)) (regions n lo hi))

-- a step: a page is read, for the sake of an address; an event is found
pub data Step : Type 0 where
  reads : ℕ → ℕ → Step
  finds : Entry → Step

abbrev pub find_steps : (ℕ → Bool) → List Entry → List Step
find_steps P [] = []
find_steps P (e ∷ es) = cond (P e.key) (finds e ∷ find_steps P es) (find_steps P es)

-- a page is read just where an address of its region passes, and for the least one
abbrev pub visit : ℕ → Option ℕ → List Step → List Step
visit page None ss = []
visit page (Some a) ss = reads page a ∷ ss

abbrev mutual
  pub steps : (ℕ → Bool) → Node → ℕ → ℕ → List Step
  steps P (leaf page es) lo hi = visit page (first P lo hi) (find_steps P es)
  steps P (inner page ks) lo hi = visit page (first P lo hi) (steps_in P ks lo hi)

  pub steps_in : (ℕ → Bool) → Forest → ℕ → ℕ → List Step
  steps_in P (last n) lo hi = steps P n lo hi
  steps_in P (more n key ks) lo hi = steps P n lo key ++ steps_in P ks (suc key) hi

-- the steps of a search of a box from start on, in a tree whose region is lo to hi
abbrev pub search_steps : (ℕ → Bool) → ℕ → Node → ℕ → ℕ → List Step
search_steps inside start n lo hi = steps (from inside start) n lo hi

-- the pages that steps read, and the events that they find
abbrev pub pages_read : List Step → List ℕ
pages_read [] = []
pages_read (reads page a ∷ ss) = page ∷ pages_read ss
pages_read (finds e ∷ ss) = pages_read ss

abbrev pub found_of : List Step → List Entry
found_of [] = []
found_of (reads page a ∷ ss) = found_of ss
found_of (finds e ∷ ss) = e ∷ found_of ss
