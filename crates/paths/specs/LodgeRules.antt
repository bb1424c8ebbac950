-- Lodge at a page of a path: down by reads, up by writes. Over every memory, whatever it holds.
use Rattle.std.specs.Prelude.{◌≡◌, ℕ, ◌+◌, ◌<◌, ◌≤◌, cond, ◌⊎◌, List, [], length, Ok, Err, Result, nat_le}
use Rattle.pages.specs.Image.{Image}
use Rattle.layout.specs.declared.entry.Entry.{Entry}
use Rattle.layout.specs.Edits.{found}
use Rattle.tree.specs.Tree.{Contents}
use Rattle.tree.specs.CopyWrites.{Write}
use Rattle.tree.specs.CopyMoves.{enter}
use Rattle.tree.specs.CopyLaws.{over_ten}
use Rattle.tree.specs.CopyPages.{fit_leaf}
use Rattle.tree.specs.CopyMemory.{place_at, lodge_at, leaf_at, page_splits_at}
use Rattle.tree.specs.CopyDescent.{takes, deeper, if_splits}
use Rattle.faults.specs.declared.fault.Fault.{Fault}
use Rattle.faults.specs.declared.fault.Fault.TheVariants.{CountFull, HeightFull, Room}
use Rattle.faults.specs.Accesses.{contents}
use Rattle.paths.specs.declared.place.Placed.{Placed}
use Rattle.paths.specs.declared.plan.Plan.{Plan}
use Rattle.paths.specs.PathsWrites.{Wrote, Unwrites, after_reads}
use Rattle.paths.specs.PathsReading.{Misread, counted}
use Rattle.paths.specs.LodgePlaces.{Gives}

-- The questions of a lodge before its first write, of four numbers: the count at the address, the tree's height afterwards
-- (any number up to 6 where it stays), the pages needed, and the free pages. All are answered yes:
pub record Allowed (count height takes free : ℕ) : Type 0 where
  pub count_low : count < 65535
  pub height_low : height ≤ 6
  pub room : takes + 6 ≤ free

-- the first that is answered no refuses: 14, 15, 16
pub data Denied (count height takes free : ℕ) (f : Fault) : Type 0 where
  full : f ≡ CountFull → 65535 ≤ count → Denied count height takes free f
  high : f ≡ HeightFull → count < 65535 → 6 < height → Denied count height takes free f
  few : f ≡ Room → count < 65535 → height ≤ 6 → free < takes + 6 → Denied count height takes free f

-- the last two questions
abbrev pub Asks : ℕ → ℕ → ℕ → Result (Unit {0}) Fault → Type 0
Asks height takes free (Ok u) = (height ≤ 6) × (takes + 6 ≤ free)
Asks height takes free (Err f) = ((f ≡ HeightFull) × (6 < height)) ⊎ ((f ≡ Room) × (height ≤ 6) × (free < takes + 6))

-- no page is written, or the writes break off
pub data Unlodged (m : Image) (count height takes free : ℕ) (ws : List Write) (f : Fault) (m' : Image) : Type 0 where
  denied : Denied count height takes free f → m' ≡ m → Unlodged m count height takes free ws f m'
  cut : Allowed count height takes free → Unwrites ws m f m' → Unlodged m count height takes free ws f m'

-- the plan for a child of a page with n entries: with at most nine it does not split, whatever its child does
abbrev pub plan_below : ℕ → Plan → Plan
plan_below n x = record { base = x.base; extra = deeper n x.extra; height = cond (nat_le n 9) 0 x.height }

-- of a leaf that has n entries with the new one: the pages needed, and the height where it splits
abbrev pub leaf_takes : ℕ → Plan → ℕ
leaf_takes n x = x.base + over_ten n + if_splits (over_ten n) x.extra

abbrev pub leaf_height : ℕ → Plan → ℕ
leaf_height n x = if_splits (over_ten n) x.height

-- at a leaf that was read: the questions are answered yes, and its new pages are written
pub record LeafDone (m : Image) (es : List Entry) (a : ℕ) (free : List ℕ) (x : Plan) (g : Placed) (m' : Image) : Type 0 where
  pub allowed : Allowed (counted (found a es)) (leaf_height (length (enter a es)) x) (leaf_takes (length (enter a es)) x) (length free)
  pub gives : Gives (place_at 1 (fit_leaf (enter a es)) [] free) free 0 g
  pub wrote : Wrote (place_at 1 (fit_leaf (enter a es)) [] free).writes m m'

abbrev pub Leafed : Image → List Entry → ℕ → List ℕ → Plan → Result Placed Fault → Image → Type 0
Leafed m es a free x (Ok g) m' = LeafDone m es a free x g m'
Leafed m es a free x (Err f) m' =
    Unlodged m (counted (found a es)) (leaf_height (length (enter a es)) x) (leaf_takes (length (enter a es)) x) (length free)
    (place_at 1 (fit_leaf (enter a es)) [] free).writes f m'

-- the same numbers at a page p of level l
abbrev pub count_under : ℕ → Contents → ℕ → ℕ → ℕ
count_under l m p a = counted (found a (leaf_at l m p a))

abbrev pub height_under : ℕ → Contents → ℕ → ℕ → Plan → ℕ
height_under l m p a x = if_splits (page_splits_at l m p a) x.height

abbrev pub takes_under : ℕ → Contents → ℕ → ℕ → Plan → ℕ
takes_under l m p a x = takes l m p a x.base x.extra

-- lodge at that page: after l reads, its path's new pages
pub record PageDone (m : Image) (l p a : ℕ) (free : List ℕ) (x : Plan) (g : Placed) (m' : Image) : Type 0 where
  pub charged : l ≤ m.charge
  pub allowed : Allowed (count_under l (contents m) p a) (height_under l (contents m) p a x) (takes_under l (contents m) p a x) (length free)
  pub gives : Gives (lodge_at l (contents m) p a free) free 0 g
  pub wrote : Wrote (lodge_at l (contents m) p a free).writes (after_reads m l) m'

abbrev pub Lodged : Image → ℕ → ℕ → ℕ → List ℕ → Plan → Result Placed Fault → Image → Type 0
Lodged m l p a free x (Ok g) m' = PageDone m l p a free x g m'
Lodged m l p a free x (Err f) m' =
    Misread m l p a f m'
    ⊎ ((l ≤ m.charge) × Unlodged (after_reads m l) (count_under l (contents m) p a) (height_under l (contents m) p a x) (takes_under l (contents m) p a x) (length free)
    (lodge_at l (contents m) p a free).writes f m')
