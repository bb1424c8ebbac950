-- What is claimed of lodge and withdraw on a whole tree with its free list.
use Rattle.std.specs.Prelude.{◌≡◌, ℕ, zero, suc, ◌+◌, ◌-◌, ◌<◌, ◌≤◌, cond, List, [], ◌∷◌, ◌++◌, length, take, drop, ◌==◌, nat_le}
use Rattle.std.specs.List.{AllByRecursion}
use Rattle.layout.specs.declared.entry.Entry.{Entry}
use Rattle.layout.specs.Content.{LeafKeys}
use Rattle.tree.specs.Tree.{Node, Forest, Held, Contents, Sound, Level, Stands, Apart, number, pages, events, counts, count_at, size}
use Rattle.tree.specs.Tree.Node.{leaf, inner}
use Rattle.tree.specs.Tree.Forest.{last, more}
use Rattle.tree.specs.Tree.Held.{none, held}
use Rattle.tree.specs.CopyWrites.{Write, after, written, times}
use Rattle.tree.specs.CopyMoves.{State, Step, lodge_step, withdraw_step, enter, remove, path}

-- a tree that may be empty
abbrev pub events_of : Held Node → List Entry
events_of none = []
events_of (held n) = events n

abbrev pub pages_of : Held Node → List ℕ
pages_of none = []
pages_of (held n) = pages n

abbrev pub path_of : Held Node → ℕ → List ℕ
path_of none a = []
path_of (held n) a = path n a

-- an empty tree has the root 0
abbrev pub root_of : Held Node → ℕ
root_of none = 0
root_of (held n) = number n

abbrev pub StandsOf : Held Node → Contents → Type 0
StandsOf none m = Unit {0}
StandsOf (held n) m = Stands n m

-- an empty tree has the height 0 and the total 0
abbrev pub SoundOf : Contents → ℕ → ℕ → ℕ → ℕ → Held Node → Type 0
SoundOf m limit height total top none = (height ≡ 0) × (total ≡ 0)
SoundOf m limit height total top (held n) = Sound m limit height (number n) total top n

-- the pages that a tree may use, 2 to limit
abbrev pub upward : ℕ → ℕ → List ℕ
upward k zero = []
upward k (suc n) = k ∷ upward (suc k) n

abbrev pub usable : ℕ → List ℕ
usable limit = upward 2 (limit - 1)

-- A state is kept over a memory: its tree is sound there, with `total` events in all,
-- and its pages and the free list are together the pages 2 to limit, each once.
pub record Kept (m : Contents) (limit total top : ℕ) (s : State) : Type 0 where
  pub sound : SoundOf m limit s.height total top s.tree
  pub shared : (p : ℕ) → times p (pages_of s.tree) + times p s.free ≡ times p (usable limit)

-- How many pages lodge takes. `page_splits` is 1 where the page splits, `path_splits` counts the pages of the path that do.
abbrev pub over_ten : ℕ → ℕ
over_ten n = cond (nat_le n 10) 0 1

abbrev mutual
  pub page_splits : Node → ℕ → ℕ
  page_splits (leaf p es) a = over_ten (length (enter a es))
  page_splits (inner p f) a = over_ten (size f + page_splits_in f a)

  pub page_splits_in : Forest → ℕ → ℕ
  page_splits_in (last n) a = page_splits n a
  page_splits_in (more n k f) a = cond (nat_le a k) (page_splits n a) (page_splits_in f a)

abbrev mutual
  pub path_splits : Node → ℕ → ℕ
  path_splits (leaf p es) a = over_ten (length (enter a es))
  path_splits (inner p f) a = over_ten (size f + page_splits_in f a) + path_splits_in f a

  pub path_splits_in : Forest → ℕ → ℕ
  path_splits_in (last n) a = path_splits n a
  path_splits_in (more n k f) a = cond (nat_le a k) (path_splits n a) (path_splits_in f a)

-- k: 1 for the empty tree, otherwise the height, the pages split, and 1 if the root splits
abbrev pub lodge_takes : Held Node → ℕ → ℕ → ℕ
lodge_takes none h a = 1
lodge_takes (held n) h a = h + path_splits n a + page_splits n a

-- How many pages withdraw takes: the path without the pages that drop out. `page_drops` is 1 where the page is left empty.
abbrev pub empty : List Entry → ℕ
empty [] = 1
empty (e ∷ es) = 0

abbrev mutual
  pub page_drops : Node → ℕ → ℕ
  page_drops (leaf p es) a = empty (remove a es)
  page_drops (inner p f) a = page_drops_in f a

  pub page_drops_in : Forest → ℕ → ℕ
  page_drops_in (last n) a = page_drops n a
  page_drops_in (more n k f) a = 0

abbrev mutual
  pub path_drops : Node → ℕ → ℕ
  path_drops (leaf p es) a = empty (remove a es)
  path_drops (inner p f) a = page_drops_in f a + path_drops_in f a

  pub path_drops_in : Forest → ℕ → ℕ
  path_drops_in (last n) a = path_drops n a
  path_drops_in (more n k f) a = cond (nat_le a k) (path_drops n a) (path_drops_in f a)

abbrev pub withdraw_takes : Held Node → ℕ → ℕ → ℕ
withdraw_takes none h a = 0
withdraw_takes (held n) h a = h - path_drops n a

-- pages put at the front of the free list, one at a time
abbrev pub push_each : List ℕ → List ℕ → List ℕ
push_each [] free = free
push_each (p ∷ ps) free = push_each ps (p ∷ free)

-- a path that begins with the root, turned round
abbrev pub leaf_first : List ℕ → List ℕ
leaf_first [] = []
leaf_first (p ∷ ps) = leaf_first ps ++ (p ∷ [])

-- What a step to `total` events does besides them; it takes `takes` pages from the free list.
pub record Copies (m : Contents) (limit before total top : ℕ) (s : State) (a takes : ℕ) (t : Step) : Type 0 where
  -- after the writes the next state is kept
  pub kept : Kept (after t.writes m) limit total top t.next
  -- after any beginning of the writes the old tree is sound still, and its state kept
  pub old : (done rest : List Write) → t.writes ≡ done ++ rest → Kept (after done m) limit before top s
  -- and after all of them it stands beside the new one
  pub both : StandsOf s.tree (after t.writes m) × StandsOf t.next.tree (after t.writes m)
  -- the pages written are the first of the free list, in order
  pub wrote : written t.writes ≡ take takes s.free
  pub took : length t.writes ≡ takes
  -- the old path's pages are then put at the front of the rest one at a time, leaf first, so that the old root is the very first
  pub freed : t.next.free ≡ path_of s.tree a ++ drop takes s.free
  pub pushed : t.next.free ≡ push_each (leaf_first (path_of s.tree a)) (drop takes s.free)
  -- no page is lost and none comes twice
  pub pages_kept : (p : ℕ) → times p (pages_of t.next.tree) + times p t.next.free ≡ times p (pages_of s.tree) + times p s.free

-- lodge where k + 6 pages are free: one event more
abbrev pub LodgeLaw : Type 0
LodgeLaw = (m : Contents) (limit total top : ℕ) (s : State) (a : ℕ) → Kept m limit total top s → a ≤ top → lodge_takes s.tree s.height a + 6 ≤ length s.free →
    (events_of (lodge_step s a).next.tree ≡ enter a (events_of s.tree))
    × Copies m limit total (suc total) top s a (lodge_takes s.tree s.height a) (lodge_step s a)

-- withdraw where the address has an event: one event less. It always finds pages enough.
abbrev pub WithdrawLaw : Type 0
WithdrawLaw = (m : Contents) (limit total top : ℕ) (s : State) (a : ℕ) → Kept m limit total top s → s.height ≤ 6 → 1 ≤ count_at (events_of s.tree) a →
    (withdraw_takes s.tree s.height a ≤ length s.free)
    × (events_of (withdraw_step s a).next.tree ≡ remove a (events_of s.tree))
    × Copies m limit total (total - 1) top s a (withdraw_takes s.tree s.height a) (withdraw_step s a)

-- the counts: one more or one less at the address, the same elsewhere
abbrev pub CountLaw : Type 0
CountLaw = (m : Contents) (limit total top : ℕ) (s : State) (a b : ℕ) → Kept m limit total top s →
    (count_at (events_of (lodge_step s a).next.tree) b ≡ count_at (events_of s.tree) b + cond (a == b) 1 0)
    × (count_at (events_of (withdraw_step s a).next.tree) b ≡ count_at (events_of s.tree) b - cond (a == b) 1 0)

-- their sum: one more, and one less where there is one
abbrev pub SumLaw : Type 0
SumLaw = (m : Contents) (limit total top : ℕ) (s : State) (a : ℕ) → Kept m limit total top s →
    (counts (events_of (lodge_step s a).next.tree) ≡ suc (counts (events_of s.tree)))
    × (1 ≤ count_at (events_of s.tree) a → suc (counts (events_of (withdraw_step s a).next.tree)) ≡ counts (events_of s.tree))

-- the events of a kept state have addresses that rise strictly from 0 to top, and counts of at least 1
abbrev pub SortedLaw : Type 0
SortedLaw = (m : Contents) (limit total top : ℕ) (s : State) → Kept m limit total top s → LeafKeys 0 top (events_of s.tree)

-- no count above the greatest
abbrev pub Within : ℕ → List Entry → Type 0
Within greatest es = AllByRecursion (λ e. e.value ≤ greatest) es

-- a lodge where the count is below the greatest keeps all counts within it, and so does every withdrawal
abbrev pub GreatestLaw : Type 0
GreatestLaw = (m : Contents) (limit total top : ℕ) (s : State) (a greatest : ℕ) → Kept m limit total top s → Within greatest (events_of s.tree) →
    (count_at (events_of s.tree) a < greatest → Within greatest (events_of (lodge_step s a).next.tree))
    × Within greatest (events_of (withdraw_step s a).next.tree)

-- the heights afterwards
abbrev pub height_lodged : Held Node → ℕ → ℕ → ℕ
height_lodged none h a = 1
height_lodged (held n) h a = h + page_splits n a

abbrev pub height_withdrawn : Held Node → ℕ → ℕ → ℕ
height_withdrawn none h a = h
height_withdrawn (held n) h a = cond (page_drops n a == 1) 0 h

abbrev pub HeightLaw : Type 0
HeightLaw = (s : State) (a : ℕ) →
    ((lodge_step s a).next.height ≡ height_lodged s.tree s.height a)
    × ((withdraw_step s a).next.height ≡ height_withdrawn s.tree s.height a)

-- tree pages and free pages together number limit - 1, and a tree with pages leaves 6 free
abbrev pub NumberLaw : Type 0
NumberLaw = (m : Contents) (limit total top : ℕ) (s : State) → Kept m limit total top s →
    (length (pages_of s.tree) + length s.free ≡ limit - 1) × (1 ≤ length (pages_of s.tree) → 6 ≤ length s.free)

-- a tree stands in every memory that agrees with one where it stands on the tree's pages
abbrev pub FrameLaw : Type 0
FrameLaw = (n : Node) (m m' : Contents) → AllByRecursion (λ p. m' p ≡ m p) (pages n) → Stands n m → Stands n m'

-- so what is kept over a memory is kept over every other that agrees with it on the pages 2 to limit
abbrev pub AgreeLaw : Type 0
AgreeLaw = (m m' : Contents) (limit total top : ℕ) (s : State) → ((p : ℕ) → 2 ≤ p → p ≤ limit → m' p ≡ m p) → Kept m limit total top s → Kept m' limit total top s

-- a memory, a root's number and a height determine the tree
abbrev pub UniqueLaw : Type 0
UniqueLaw = (n n' : Node) (m : Contents) (h : ℕ) → Level n h → Level n' h → number n ≡ number n' → Stands n m → Stands n' m → n ≡ n'

-- so at most one tree is kept under a root and a height
abbrev pub SameLaw : Type 0
SameLaw = (m : Contents) (limit limit' total total' top top' : ℕ) (s s' : State) → Kept m limit total top s → Kept m limit' total' top' s' →
    s.height ≡ s'.height → root_of s.tree ≡ root_of s'.tree → s.tree ≡ s'.tree

-- with counts of at most 65,535 the total of a sound tree fits 32 bits
abbrev pub TotalLaw : Type 0
TotalLaw = (m : Contents) (limit height root total top : ℕ) (n : Node) → Sound m limit height root total top n → limit ≤ 1024 → Within 65535 (events n) → total < 4294967296

-- the empty tree with all usable pages free is kept over every memory
abbrev pub EmptyLaw : Type 0
EmptyLaw = (m : Contents) (limit top : ℕ) → Kept m limit 0 top (record { tree = none; height = 0; free = usable limit })

-- tree pages and free pages are all in 2 to limit, and no free page stands twice
abbrev pub RangeLaw : Type 0
RangeLaw = (m : Contents) (limit total top : ℕ) (s : State) → Kept m limit total top s →
    AllByRecursion (λ p. (2 ≤ p) × (p ≤ limit)) (pages_of s.tree) × AllByRecursion (λ p. (2 ≤ p) × (p ≤ limit)) s.free × Apart s.free

-- those of a list that are not among the pages ps, in their order
abbrev pub unused : List ℕ → List ℕ → List ℕ
unused ps [] = []
unused ps (x ∷ xs) = cond (times x ps == 0) (x ∷ unused ps xs) (unused ps xs)

-- a sound tree is kept with all other usable pages free, rising
abbrev pub OpenedLaw : Type 0
OpenedLaw = (m : Contents) (limit height root total top : ℕ) (n : Node) → Sound m limit height root total top n →
    Kept m limit total top (record { tree = held n; height = height; free = unused (pages n) (usable limit) })
