-- The theorems of the search, each a statement that a function's contract names.
-- n is a tree in order whose region is lo to hi; `inside` is the box; `start` is the address from which it is searched.
use Rattle.std.specs.Prelude.{◌≡◌, ℕ, ◌+◌, ◌-◌, ◌<◌, ◌≤◌, Bool, true, List, ◌∷◌, ◌++◌, map, length, drop, Some, Decides, filter, Option}
use Rattle.std.specs.List.{ContainsAt as Has, AllByRecursion}
use Rattle.layout.specs.declared.entry.Entry.{Entry}
use Rattle.layout.specs.Content.{LeafKeys}
use Rattle.tree.specs.Tree.{Node, pages, Ordered, Level, Apart}
use Rattle.tree.specs.SearchSteps.{Region, regions, leaves, Hit, Meets, Least, first, meets, met, from, box_events, pages_met, Step, search_steps, pages_read, found_of}
use Rattle.tree.specs.SearchRuns.{stopped_at, unpaid, run, search_run, read_count, whole, and_then}
use Rattle.tree.specs.SearchRuns.Ending.{done, more, cut}
use Rattle.tree.specs.SearchWalks.{walk}
use Rattle.tree.specs.SearchLimits.{limited, passing_reads}
use Rattle.tree.specs.SearchRounds.{rounds}

-- `first` gives the least address of the region that passes, and None only where none does; `meets` tests that there is one
abbrev pub FirstLaw : Type 0
FirstLaw = (P : ℕ → Bool) (lo hi : ℕ) → Least (first P lo hi) (Hit P lo hi)

abbrev pub TestLaw : Type 0
TestLaw = (P : ℕ → Bool) (lo hi : ℕ) → Decides (meets P lo hi) (Meets P lo hi)

-- the steps find exactly the box's events at or above start, and these rise
abbrev pub FindsLaw : Type 0
FindsLaw = (inside : ℕ → Bool) (start : ℕ) (n : Node) (lo hi : ℕ) → Ordered n lo hi →
    (found_of (search_steps inside start n lo hi) ≡ box_events inside start n) × LeafKeys lo hi (found_of (search_steps inside start n lo hi))

-- `regions` has just the tree's pages, in visiting order
abbrev pub RegionsLaw : Type 0
RegionsLaw = (n : Node) (lo hi : ℕ) → map (λ r. r.page) (regions n lo hi) ≡ pages n

-- from 0, the pages read are those whose region holds an address of the box, in visiting order, however that is tested
abbrev pub ReadsLaw : Type 0
ReadsLaw = (inside : ℕ → Bool) (n : Node) (lo hi : ℕ) → Ordered n lo hi →
    (test : Region → Bool) → ((r : Region) → Decides (test r) (Meets inside r.lo r.hi)) →
    pages_read (search_steps inside 0 n lo hi) ≡ map (λ r. r.page) (filter test (regions n lo hi))

-- from any start, those whose region holds an address of the box at or above start
abbrev pub ReadsFromLaw : Type 0
ReadsFromLaw = (inside : ℕ → Bool) (start : ℕ) (n : Node) (lo hi : ℕ) → Ordered n lo hi →
    (test : Region → Bool) → ((r : Region) → Decides (test r) (Meets (from inside start) r.lo r.hi)) →
    pages_read (search_steps inside start n lo hi) ≡ map (λ r. r.page) (filter test (regions n lo hi))

-- so they are as many as the pages met
abbrev pub CountLaw : Type 0
CountLaw = (inside : ℕ → Bool) (start : ℕ) (n : Node) (lo hi : ℕ) → Ordered n lo hi → read_count (search_steps inside start n lo hi) ≡ pages_met inside start n lo hi

-- where no page number stands twice in the tree, no page is read twice
abbrev pub OnceLaw : Type 0
OnceLaw = (inside : ℕ → Bool) (start : ℕ) (n : Node) (lo hi : ℕ) → Ordered n lo hi → Apart (pages n) → Apart (pages_read (search_steps inside start n lo hi))

-- enough charge and room end it done, with all; and it ends done only so
abbrev pub DoneLaw : Type 0
DoneLaw = (ss : List Step) (charge room : ℕ) → read_count ss ≤ charge → length (found_of ss) ≤ room → run ss charge room ≡ whole ss

abbrev pub OnlyLaw : Type 0
OnlyLaw = (ss : List Step) (charge room : ℕ) → (run ss charge room).ending ≡ done →
    (run ss charge room ≡ whole ss) × (read_count ss ≤ charge) × (length (found_of ss) ≤ room)

-- xs is a beginning of ys
abbrev pub Begins : List Entry → List Entry → Type 0
Begins xs ys = (zs : List Entry) × (ys ≡ xs ++ zs)

-- with less charge and as much room it is cut, after as many reads as there was charge, with a beginning of the finds
abbrev pub CutLaw : Type 0
CutLaw = (ss : List Step) (charge room : ℕ) → charge < read_count ss → length (found_of ss) ≤ room →
    ((page : ℕ) × (a : ℕ) × ((run ss charge room).ending ≡ cut page a)) × ((run ss charge room).reads ≡ charge) × Begins (run ss charge room).found (found_of ss)

-- where it ends more, the finds fill the room and are a beginning, and the address is the next event's
abbrev pub MoreLaw : Type 0
MoreLaw = (ss : List Step) (charge room a : ℕ) → (run ss charge room).ending ≡ more a →
    (length (run ss charge room).found ≡ room) ×
    ((e : Entry) × (rest : List Entry) × (found_of ss ≡ (run ss charge room).found ++ e ∷ rest) × (e.key ≡ a))

-- the page of a cut is the first of the pages to read that was not paid for, and the address is the first of the box at or above start in its region
abbrev pub CutPageLaw : Type 0
CutPageLaw = (inside : ℕ → Bool) (start : ℕ) (n : Node) (lo hi charge room page a : ℕ) → (search_run inside start n lo hi charge room).ending ≡ cut page a →
    ((search_run inside start n lo hi charge room).reads ≡ charge) ×
    ((rest : List ℕ) × (drop charge (pages_read (search_steps inside start n lo hi)) ≡ page ∷ rest)) ×
    ((r : Region) × Has (regions n lo hi) r × (r.page ≡ page) × Least (Some a) (Hit (from inside start) r.lo r.hi))

-- so a search ends done just where the charge is enough for the pages met and the room for the box's events, and then these are its reads and finds
abbrev pub ExactLaw : Type 0
ExactLaw = (inside : ℕ → Bool) (start : ℕ) (n : Node) (lo hi : ℕ) → Ordered n lo hi → (charge room : ℕ) →
    (pages_met inside start n lo hi ≤ charge → length (box_events inside start n) ≤ room → (search_run inside start n lo hi charge room).ending ≡ done) ×
    ((search_run inside start n lo hi charge room).ending ≡ done →
    (pages_met inside start n lo hi ≤ charge) × (length (box_events inside start n) ≤ room) ×
    ((search_run inside start n lo hi charge room).found ≡ box_events inside start n) ×
    ((search_run inside start n lo hi charge room).reads ≡ pages_met inside start n lo hi))

-- steps and others behind them: what a loop that runs them in turn comes to
abbrev pub AppendLaw : Type 0
AppendLaw = (xs ys : List Step) (charge room : ℕ) →
    run (xs ++ ys) charge room ≡ and_then (run xs charge room).ending (run xs charge room) (run ys (charge - (run xs charge room).reads) (room - length (run xs charge room).found))

-- a search that was cut, or ended more, is resumed at its address a: what was found and what is then found is all,
-- so it is exactly the rest, and no more pages are read than for all
pub record Resumes (inside : ℕ → Bool) (start : ℕ) (n : Node) (lo hi : ℕ) (a : ℕ) (found : List Entry) : Type 0 where
  pub not_back : start ≤ a
  pub all : found ++ found_of (search_steps inside a n lo hi) ≡ found_of (search_steps inside start n lo hi)
  pub rest : found_of (search_steps inside a n lo hi) ≡ drop (length found) (found_of (search_steps inside start n lo hi))
  pub no_dearer : read_count (search_steps inside a n lo hi) ≤ read_count (search_steps inside start n lo hi)

abbrev pub ResumeLaw : Type 0
ResumeLaw = (inside : ℕ → Bool) (start : ℕ) (n : Node) (lo hi : ℕ) → Ordered n lo hi → (charge room a : ℕ) →
    stopped_at (search_run inside start n lo hi charge room).ending ≡ Some a →
    Resumes inside start n lo hi a (search_run inside start n lo hi charge room).found

-- so with the charge and the room for all, the resumed search ends done with exactly the rest, and no more reads than for all
abbrev pub FinishLaw : Type 0
FinishLaw = (inside : ℕ → Bool) (start : ℕ) (n : Node) (lo hi : ℕ) → Ordered n lo hi → (charge room a : ℕ) →
    stopped_at (search_run inside start n lo hi charge room).ending ≡ Some a → (charge' room' : ℕ) →
    read_count (search_steps inside start n lo hi) ≤ charge' → length (found_of (search_steps inside start n lo hi)) ≤ room' →
    ((search_run inside a n lo hi charge' room').ending ≡ done) ×
    ((search_run inside start n lo hi charge room).found ++ (search_run inside a n lo hi charge' room').found ≡ found_of (search_steps inside start n lo hi)) ×
    ((search_run inside a n lo hi charge' room').reads ≤ read_count (search_steps inside start n lo hi))

-- with charge of at least the height, a cut names an address above its start; and so does more, with room for one find
abbrev pub ProgressLaw : Type 0
ProgressLaw = (inside : ℕ → Bool) (start : ℕ) (n : Node) (lo hi height : ℕ) → Ordered n lo hi → Level n height → (charge room page a : ℕ) →
    height ≤ charge → (search_run inside start n lo hi charge room).ending ≡ cut page a → start < a

abbrev pub ProgressMoreLaw : Type 0
ProgressMoreLaw = (inside : ℕ → Bool) (start : ℕ) (n : Node) (lo hi : ℕ) → Ordered n lo hi → (charge room a : ℕ) →
    0 < room → (search_run inside start n lo hi charge room).ending ≡ more a → start < a

-- what a resumed search reads again is one way down at most: its reads, those made before and the one not paid are no more than all reads and the height
abbrev pub AgainLaw : Type 0
AgainLaw = (inside : ℕ → Bool) (start : ℕ) (n : Node) (lo hi height : ℕ) → Ordered n lo hi → Level n height → (charge room a : ℕ) →
    stopped_at (search_run inside start n lo hi charge room).ending ≡ Some a →
    read_count (search_steps inside a n lo hi) + (search_run inside start n lo hi charge room).reads + unpaid (search_run inside start n lo hi charge room).ending
    ≤ read_count (search_steps inside start n lo hi) + height

-- so with charge of at least the height and room for one find, search after search ends, with just the finds of one search
abbrev pub RoundsLaw : Type 0
RoundsLaw = (inside : ℕ → Bool) (n : Node) (lo hi height : ℕ) → Ordered n lo hi → Level n height → (charge room : ℕ) → height ≤ charge → 0 < room → (k start : ℕ) →
    read_count (search_steps inside start n lo hi) + length (found_of (search_steps inside start n lo hi)) < k →
    rounds (λ s. search_run inside s n lo hi charge room) k start ≡ record { found = found_of (search_steps inside start n lo hi); ended = true }

-- the walk that carries one number makes the same steps, and asks for a first address once, and once for each leaf that it reads
abbrev pub WalkLaw : Type 0
WalkLaw = (inside : ℕ → Bool) (start : ℕ) (ask : ℕ → Option ℕ) (n : Node) (top : ℕ) → Ordered n 0 top →
    ((b : ℕ) → Least (ask b) (Hit inside b top)) →
    ((walk ask (from inside start) n top (ask start)).steps ≡ search_steps inside start n 0 top) ×
    ((walk ask (from inside start) n top (ask start)).asks ≡ length (filter (met (from inside start)) (leaves n 0 top)))

-- with a charge and room, what comes of it is the run of the search; and besides the first, it asks no more often than leaves were read:
-- of the pages read, at least so many pass each test that the leaves pass
abbrev pub LimitedLaw : Type 0
LimitedLaw = (inside : ℕ → Bool) (start : ℕ) (ask : ℕ → Option ℕ) (n : Node) (top : ℕ) → Ordered n 0 top →
    ((b : ℕ) → Least (ask b) (Hit inside b top)) → (charge room : ℕ) →
    ((limited ask (from inside start) n top (ask start) charge room).out ≡ search_run inside start n 0 top charge room) ×
    ((is_leaf : ℕ → Bool) → AllByRecursion (λ r. is_leaf r.page ≡ true) (leaves n 0 top) →
    (limited ask (from inside start) n top (ask start) charge room).asks
    ≤ passing_reads is_leaf (search_run inside start n 0 top charge room).reads (search_steps inside start n 0 top))
