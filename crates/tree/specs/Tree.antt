-- The abstract tree: pages with their numbers and what stands under them, and what makes a tree sound.
use Rattle.std.specs.Prelude.{◌≡◌, ℕ, zero, suc, ◌+◌, ◌<◌, ◌≤◌, min, cond, List, [], ◌∷◌, ◌++◌, length, ◌==◌, ◌≢◌}
use Rattle.std.specs.List.{AllByRecursion}
use Rattle.layout.specs.declared.entry.Entry.{Entry}
use Rattle.layout.specs.Content.{Content, page, Sized, LeafKeys}

-- A page with its number. A leaf has events: entries of an address (key) and its count (value).
-- An inner page has a forest of children; each child but the last has a key, the end of its region.
mutual
  pub data Node : Type 0 where
    leaf : ℕ → List Entry → Node
    inner : ℕ → Forest → Node

  pub data Forest : Type 0 where
    last : Node → Forest
    more : Node → ℕ → Forest → Forest

-- a tree that may be empty; also what a withdrawal leaves of a part
pub data Held (A : Type 0) : Type 0 where
  none : Held A
  held : A → Held A

-- a page's own number
abbrev pub number : Node → ℕ
number (leaf p es) = p
number (inner p f) = p

-- the numbers of all pages in visiting order: a page before its children, lower regions first
abbrev mutual
  pub pages : Node → List ℕ
  pages (leaf p es) = p ∷ []
  pages (inner p f) = p ∷ pages_in f

  pub pages_in : Forest → List ℕ
  pages_in (last n) = pages n
  pages_in (more n k f) = pages n ++ pages_in f

-- all events, in order
abbrev mutual
  pub events : Node → List Entry
  events (leaf p es) = es
  events (inner p f) = events_in f

  pub events_in : Forest → List Entry
  events_in (last n) = events n
  events_in (more n k f) = events n ++ events_in f

-- the sum of the counts
abbrev pub counts : List Entry → ℕ
counts [] = 0
counts (e ∷ es) = e.value + counts es

-- the count that the events have for an address
abbrev pub count_at : List Entry → ℕ → ℕ
count_at [] a = 0
count_at (e ∷ es) a = cond (e.key == a) e.value 0 + count_at es a

-- how many children
abbrev pub size : Forest → ℕ
size (last n) = 1
size (more n k f) = suc (size f)

-- the entries of an inner page: the last child is written with the key 0
abbrev pub child_entries : Forest → List Entry
child_entries (last n) = record { key = 0; value = number n } ∷ []
child_entries (more n k f) = record { key = k; value = number n } ∷ child_entries f

-- every leaf is at level 1, and each page one above its children
abbrev mutual
  pub Level : Node → ℕ → Type 0
  Level (leaf p es) h = h ≡ 1
  Level (inner p f) zero = ⊥
  Level (inner p f) (suc h) = LevelIn f h

  pub LevelIn : Forest → ℕ → Type 0
  LevelIn (last n) h = Level n h
  LevelIn (more n k f) h = Level n h × LevelIn f h

-- a page's level, read off the first path down
abbrev mutual
  pub level : Node → ℕ
  level (leaf p es) = 1
  level (inner p f) = suc (level_in f)

  pub level_in : Forest → ℕ
  level_in (last n) = level n
  level_in (more n k f) = level n

-- what a node's page says
abbrev pub content : Node → Content
content (leaf p es) = page 1 p es
content (inner p f) = page (suc (level_in f)) p (child_entries f)

-- rules D and E: the region from lo to hi is divided by the keys, and a leaf's events rise strictly inside theirs
abbrev mutual
  pub Ordered : Node → ℕ → ℕ → Type 0
  Ordered (leaf p es) lo hi = LeafKeys lo hi es
  Ordered (inner p f) lo hi = OrderedIn f lo hi

  pub OrderedIn : Forest → ℕ → ℕ → Type 0
  OrderedIn (last n) lo hi = Ordered n lo hi
  OrderedIn (more n k f) lo hi = (lo ≤ k) × (k < hi) × Ordered n lo k × OrderedIn f (suc k) hi

-- rule C: 1 to 10 entries on each page (a forest has at least one child)
abbrev mutual
  pub Filled : Node → Type 0
  Filled (leaf p es) = Sized es
  Filled (inner p f) = (size f ≤ 10) × FilledIn f

  pub FilledIn : Forest → Type 0
  FilledIn (last n) = Filled n
  FilledIn (more n k f) = Filled n × FilledIn f

-- what each page of a memory says
abbrev pub Contents : Type 0
Contents = ℕ → Content

-- a tree stands in a memory: each of its pages says what the tree has there (so B holds: own number and level)
abbrev mutual
  pub Stands : Node → Contents → Type 0
  Stands (leaf p es) m = m p ≡ content (leaf p es)
  Stands (inner p f) m = (m p ≡ content (inner p f)) × StandsIn f m

  pub StandsIn : Forest → Contents → Type 0
  StandsIn (last n) m = Stands n m
  StandsIn (more n k f) m = Stands n m × StandsIn f m

-- k does not stand in xs; no number stands twice in xs
abbrev pub Absent : ℕ → List ℕ → Type 0
Absent k xs = AllByRecursion (λ x. x ≢ k) xs

abbrev pub Apart : List ℕ → Type 0
Apart [] = Unit {0}
Apart (x ∷ xs) = Absent x xs × Apart xs

-- L, the last page that a tree may use: the lesser of the number of pages and 1,024
abbrev pub limit_of : ℕ → ℕ
limit_of n = min n 1024

-- A sound tree in a memory whose last usable page is `limit`, for a header with this height, root and total:
-- A each page number is 2 to limit and is reached once; B to E as the pages show them; F counts sum to the total, and 6 pages are free.
pub record Sound (m : Contents) (limit height root total top : ℕ) (t : Node) : Type 0 where
  pub root_is : number t ≡ root
  pub range : AllByRecursion (λ p. (2 ≤ p) × (p ≤ limit)) (pages t)
  pub once : Apart (pages t)
  pub levels : Level t height
  pub stands : Stands t m
  pub filled : Filled t
  pub ordered : Ordered t 0 top
  pub sum : counts (events t) ≡ total
  pub room : length (pages t) + 7 ≤ limit
