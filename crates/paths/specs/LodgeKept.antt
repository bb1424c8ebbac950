-- Lodge where a state is kept: what is answered, and what the store holds then.
use Rattle.std.specs.Prelude.{◌≡◌, ℕ, suc, ◌+◌, ◌<◌, ◌≤◌, List, ◌++◌, reverse, length, drop, Ok, Err, Result}
use Rattle.pages.specs.Image.{Image}
use Rattle.tree.specs.Tree.{count_at}
use Rattle.tree.specs.CopyMoves.{State, lodge_step}
use Rattle.tree.specs.CopyLaws.{Kept, events_of, path_of, root_of, lodge_takes}
use Rattle.faults.specs.declared.fault.Fault.{Fault}
use Rattle.faults.specs.declared.fault.Fault.TheVariants.{Shut, Outside, Work, Absent, Unread, NoHeader, OtherOrder, Unsound, NoEvent, CountFull, HeightFull, Room, Unwritten}
use Rattle.faults.specs.Accesses.{contents}
use Rattle.paths.specs.OldPages.{old_pages}
use Rattle.paths.specs.declared.copied.Copied.{Copied}
use Rattle.paths.specs.PathsWrites.{Wrote, WritesRunOut, after_reads}
use Rattle.paths.specs.PathsReading.{RunsOut, KeptAt}
use Rattle.paths.specs.PathsCopies.{LeavesAlone}
use Rattle.paths.specs.LodgeRules.{Allowed}
use Rattle.paths.specs.LodgeTree.{LodgedBy}

-- how many events the address has
abbrev pub events_at : State → ℕ → ℕ
events_at s a = count_at (events_of s.tree) a

-- k, the pages that a lodge takes
abbrev pub lodge_needs : State → ℕ → ℕ
lodge_needs s a = lodge_takes s.tree s.height a

abbrev pub LodgeAllowed : State → ℕ → Type 0
LodgeAllowed s a = Allowed (events_at s a) (lodge_step s a).next.height (lodge_needs s a) (length s.free)

-- the tree's step is done, up to the header
pub record LodgeDone (m : Image) (s : State) (a : ℕ) (g : Copied) (m' : Image) : Type 0 where
  pub allowed : LodgeAllowed s a
  pub carried : s.height + lodge_needs s a ≤ m.charge
  pub root : g.root.page ≡ root_of (lodge_step s a).next.tree
  pub height : g.root.level ≡ (lodge_step s a).next.height
  pub used : g.trade.used ≡ length (lodge_step s a).writes
  pub path : reverse (old_pages g.trade.path) ≡ path_of s.tree a
  pub wrote : Wrote (lodge_step s a).writes (after_reads m s.height) m'

-- The answers in the order of the questions: the path is read (9), the count is below 65,535 (14), the height stays at most 6 (15),
-- k + 6 pages are free (16), the pages are written (17). No other refusal occurs.
abbrev pub Lodges : Image → State → ℕ → Result Copied Fault → Image → Type 0
Lodges m s a (Ok g) m' = LodgeDone m s a g m'
Lodges m s a (Err (Unread x)) m' = RunsOut m s.height (path_of s.tree a) x m'
Lodges m s a (Err CountFull) m' = (s.height ≤ m.charge) × (65535 ≤ events_at s a) × (m' ≡ after_reads m s.height)
Lodges m s a (Err HeightFull) m' = (s.height ≤ m.charge) × (events_at s a < 65535) × (6 < (lodge_step s a).next.height) × (m' ≡ after_reads m s.height)
Lodges m s a (Err Room) m' =
    (s.height ≤ m.charge) × (events_at s a < 65535) × ((lodge_step s a).next.height ≤ 6) × (length s.free < lodge_needs s a + 6) × (m' ≡ after_reads m s.height)
Lodges m s a (Err (Unwritten x)) m' = (s.height ≤ m.charge) × LodgeAllowed s a × WritesRunOut (lodge_step s a).writes (after_reads m s.height) x m'
Lodges m s a (Err Shut) m' = ⊥
Lodges m s a (Err Outside) m' = ⊥
Lodges m s a (Err Work) m' = ⊥
Lodges m s a (Err (Absent x)) m' = ⊥
Lodges m s a (Err NoHeader) m' = ⊥
Lodges m s a (Err OtherOrder) m' = ⊥
Lodges m s a (Err (Unsound p r)) m' = ⊥
Lodges m s a (Err NoEvent) m' = ⊥

-- for every memory; for heights above 6, which no tree has; what is left alone; and for every kept state
pub record LodgeIs (m : Image) (root height a : ℕ) (free : List ℕ) (r : Result Copied Fault) (m' : Image) : Type 0 where
  pub always : height ≤ 6 → LodgedBy m height root a free r m'
  pub above : 6 < height → (r ≡ Err HeightFull) × (m' ≡ m)
  pub alone : LeavesAlone m free m'
  pub kept : (limit total top : ℕ) (s : State) → KeptAt m root height limit total top s → free ≡ s.free → a ≤ top → height ≤ 6 → Lodges m s a r m'

-- where it is accepted, the step's state is kept in the store, with one event more
abbrev pub LodgeNextLaw : Type 0
LodgeNextLaw = (m m' : Image) (limit total top : ℕ) (s : State) (a : ℕ) (g : Copied) → Kept (contents m) limit total top s → a ≤ top → Lodges m s a (Ok g) m'
    → Kept (contents m') limit (suc total) top (lodge_step s a).next

-- its free list is the old path, the root first, before what is left of the old free list
abbrev pub LodgeFreeLaw : Type 0
LodgeFreeLaw = (m m' : Image) (limit total top : ℕ) (s : State) (a : ℕ) (g : Copied) → Kept (contents m) limit total top s → a ≤ top → Lodges m s a (Ok g) m'
    → (lodge_step s a).next.free ≡ reverse (old_pages g.trade.path) ++ drop g.trade.used s.free

-- where it is refused, the state is kept as it was
abbrev pub LodgeRefusedLaw : Type 0
LodgeRefusedLaw = (m m' : Image) (limit total top : ℕ) (s : State) (a : ℕ) (f : Fault) → Kept (contents m) limit total top s → a ≤ top → Lodges m s a (Err f) m'
    → Kept (contents m') limit total top s
