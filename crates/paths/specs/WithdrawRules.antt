-- Withdraw: one event less at an address.
use Rattle.std.specs.Prelude.{◌≡◌, ℕ, ◌+◌, ◌-◌, ◌≤◌, List, ◌++◌, reverse, length, drop, None, Ok, Err, Result}
use Rattle.pages.specs.Image.{Image}
use Rattle.layout.specs.Edits.{found}
use Rattle.tree.specs.Tree.{count_at}
use Rattle.tree.specs.CopyMoves.{State, withdraw_step}
use Rattle.tree.specs.CopyLaws.{Kept, events_of, path_of, root_of}
use Rattle.tree.specs.CopyMemory.{leaf_at}
use Rattle.tree.specs.CopyUpdate.{withdraw_by, root_left, height_at}
use Rattle.faults.specs.declared.fault.Fault.{Fault}
use Rattle.faults.specs.declared.fault.Fault.TheVariants.{Shut, Outside, Work, Absent, Unread, NoHeader, OtherOrder, Unsound, NoEvent, CountFull, HeightFull, Room, Unwritten}
use Rattle.faults.specs.Accesses.{contents}
use Rattle.paths.specs.OldPages.{old_pages}
use Rattle.paths.specs.declared.left.Left.{Left}
use Rattle.paths.specs.declared.copied.Copied.{Copied}
use Rattle.paths.specs.WithdrawEdits.{left_of}
use Rattle.paths.specs.PathsWrites.{after_reads, Wrote, WritesRunOut}
use Rattle.paths.specs.PathsReading.{IsPath, RunsOut, KeptAt}
use Rattle.paths.specs.PathsCopies.{LeavesAlone}
use Rattle.paths.specs.Withdrawals.{Refusal}

-- what is left of the root, as an answer: where nothing is left the tree is empty
abbrev pub copied_of : Left → ℕ → Copied
copied_of g h = record { root = record { page = root_left (left_of g.page); level = height_at (left_of g.page) h }; trade = g.trade }

-- a path that can be copied: at most six pages, and as many are free
abbrev pub RoomFor : ℕ → List ℕ → Type 0
RoomFor h free = (h ≤ 6) × (h ≤ length free)

-- Over every memory: the path was read and has an event, and all its new pages are written.
pub record CopiesLeft (m : Image) (h p a : ℕ) (free : List ℕ) (g : Copied) (m' : Image) : Type 0 where
  pub room : RoomFor h free
  pub charged : h ≤ m.charge
  pub event : found a (leaf_at h (contents m) p a) ≡ None → ⊥
  pub root : g.root.page ≡ (withdraw_by h (contents m) p a free).next.root
  pub height : g.root.level ≡ (withdraw_by h (contents m) p a free).next.height
  pub used : g.trade.used ≡ length (withdraw_by h (contents m) p a free).writes
  pub path : IsPath m h p a (old_pages g.trade.path)
  pub wrote : Wrote (withdraw_by h (contents m) p a free).writes (after_reads m h) m'

-- or there is no room, and nothing is read; or the reading, the leaf or a write refuses
pub data NotWithdrawn (m : Image) (h p a : ℕ) (free : List ℕ) (f : Fault) (m' : Image) : Type 0 where
  no_room : f ≡ Room → (RoomFor h free → ⊥) → m' ≡ m → NotWithdrawn m h p a free f m'
  refusal : RoomFor h free → Refusal m h p a free f m' → NotWithdrawn m h p a free f m'

abbrev pub Withdrew : Image → ℕ → ℕ → ℕ → List ℕ → Result Copied Fault → Image → Type 0
Withdrew m h p a free (Ok g) m' = CopiesLeft m h p a free g m'
Withdrew m h p a free (Err f) m' = NotWithdrawn m h p a free f m'

-- how many events the address has
abbrev pub has_events : State → ℕ → ℕ
has_events s a = count_at (events_of s.tree) a

-- the tree's step is done, up to the header
pub record WithdrawDone (m : Image) (s : State) (a : ℕ) (g : Copied) (m' : Image) : Type 0 where
  pub event : 1 ≤ has_events s a
  pub carried : s.height + length (withdraw_step s a).writes ≤ m.charge
  pub root : g.root.page ≡ root_of (withdraw_step s a).next.tree
  pub height : g.root.level ≡ (withdraw_step s a).next.height
  pub used : g.trade.used ≡ length (withdraw_step s a).writes
  pub path : reverse (old_pages g.trade.path) ≡ path_of s.tree a
  pub wrote : Wrote (withdraw_step s a).writes (after_reads m s.height) m'

-- Where a state is kept, the answers in the order of the questions: the path is read (9), the point has an event (13), the pages are
-- written (17). No other refusal occurs.
abbrev pub Withdraws : Image → State → ℕ → Result Copied Fault → Image → Type 0
Withdraws m s a (Ok g) m' = WithdrawDone m s a g m'
Withdraws m s a (Err (Unread x)) m' = RunsOut m s.height (path_of s.tree a) x m'
Withdraws m s a (Err NoEvent) m' = (s.height ≤ m.charge) × (has_events s a ≡ 0) × (m' ≡ after_reads m s.height)
Withdraws m s a (Err (Unwritten x)) m' = (s.height ≤ m.charge) × (1 ≤ has_events s a) × WritesRunOut (withdraw_step s a).writes (after_reads m s.height) x m'
Withdraws m s a (Err Shut) m' = ⊥
Withdraws m s a (Err Outside) m' = ⊥
Withdraws m s a (Err Work) m' = ⊥
Withdraws m s a (Err (Absent x)) m' = ⊥
Withdraws m s a (Err NoHeader) m' = ⊥
Withdraws m s a (Err OtherOrder) m' = ⊥
Withdraws m s a (Err (Unsound p r)) m' = ⊥
Withdraws m s a (Err CountFull) m' = ⊥
Withdraws m s a (Err HeightFull) m' = ⊥
Withdraws m s a (Err Room) m' = ⊥

-- for every memory; and for every kept state that it holds, of at most six levels
pub record WithdrawIs (m : Image) (root height a : ℕ) (free : List ℕ) (r : Result Copied Fault) (m' : Image) : Type 0 where
  pub always : Withdrew m height root a free r m'
  pub alone : LeavesAlone m free m'
  pub kept : (limit total top : ℕ) (s : State) → KeptAt m root height limit total top s → free ≡ s.free → height ≤ 6 → Withdraws m s a r m'

-- where it is accepted, the step's state is kept in the store, with one event less
abbrev pub WithdrawNextLaw : Type 0
WithdrawNextLaw = (m m' : Image) (limit total top : ℕ) (s : State) (a : ℕ) (g : Copied) → Kept (contents m) limit total top s → s.height ≤ 6
    → Withdraws m s a (Ok g) m' → Kept (contents m') limit (total - 1) top (withdraw_step s a).next

-- its free list is the old path, the root first, before what is left of the old free list
abbrev pub WithdrawFreeLaw : Type 0
WithdrawFreeLaw = (m m' : Image) (limit total top : ℕ) (s : State) (a : ℕ) (g : Copied) → Kept (contents m) limit total top s → s.height ≤ 6
    → Withdraws m s a (Ok g) m' → (withdraw_step s a).next.free ≡ reverse (old_pages g.trade.path) ++ drop g.trade.used s.free

-- where it is refused, the state is kept as it was
abbrev pub WithdrawRefusedLaw : Type 0
WithdrawRefusedLaw = (m m' : Image) (limit total top : ℕ) (s : State) (a : ℕ) (f : Fault) → Kept (contents m) limit total top s → s.height ≤ 6
    → Withdraws m s a (Err f) m' → Kept (contents m') limit total top s
