-- Lodge in a whole tree, over every memory: the path's new pages, and a new root where the old one was split.
use Rattle.std.specs.Prelude.{◌≡◌, ℕ, ◌+◌, ◌≤◌, ◌⊎◌, List, [], reverse, length, drop, Ok, Err, Result}
use Rattle.pages.specs.Image.{Image}
use Rattle.tree.specs.CopyMoves.{Split, Made}
use Rattle.tree.specs.CopyMemory.{path_at}
use Rattle.tree.specs.CopyUpdate.{Update, new_root_at, raised_at, lodge_by, needed}
use Rattle.faults.specs.declared.fault.Fault.{Fault}
use Rattle.faults.specs.Accesses.{contents}
use Rattle.paths.specs.OldPages.{old_pages}
use Rattle.paths.specs.declared.copied.Copied.{Copied}
use Rattle.paths.specs.PathsWrites.{Wrote, Unwrites, after_reads}
use Rattle.paths.specs.PathsReading.{Misread}
use Rattle.paths.specs.LodgeRules.{Allowed, Unlodged, count_under}

-- a new root over two pages, or none over one
pub record RootIs (made : Made ℕ) (high used : ℕ) (m : Image) (g : Copied) (m' : Image) : Type 0 where
  pub root : g.root.page ≡ made.part
  pub height : g.root.level ≡ high
  pub uses : g.trade.used ≡ used + length made.writes
  pub wrote : Wrote made.writes m m'

abbrev pub Rooted : Made ℕ → ℕ → ℕ → Image → Result Copied Fault → Image → Type 0
Rooted made height used m (Ok g) m' = RootIs made height used m g m'
Rooted made height used m (Err f) m' = Unwrites made.writes m f m'

abbrev pub Roots : Image → ℕ → Split ℕ → List ℕ → ℕ → Result Copied Fault → Image → Type 0
Roots m h s free used r m' = Rooted (new_root_at h s [] (drop used free)) (raised_at s h) used m r m'

-- the code's copy of a tree's path is the theory's
pub record CopiedTo (u : Update) (old : List ℕ) (g : Copied) : Type 0 where
  pub root : g.root.page ≡ u.next.root
  pub height : g.root.level ≡ u.next.height
  pub used : g.trade.used ≡ length u.writes
  pub path : reverse (old_pages g.trade.path) ≡ old

-- and all its pages are written
pub record TreeDone (m : Image) (h p a : ℕ) (free : List ℕ) (g : Copied) (m' : Image) : Type 0 where
  pub charged : h ≤ m.charge
  pub allowed : Allowed (count_under h (contents m) p a) (lodge_by h (contents m) p a free).next.height (needed h (contents m) p a) (length free)
  pub copied : CopiedTo (lodge_by h (contents m) p a free) (path_at h (contents m) p a) g
  pub wrote : Wrote (lodge_by h (contents m) p a free).writes (after_reads m h) m'

abbrev pub LodgedBy : Image → ℕ → ℕ → ℕ → List ℕ → Result Copied Fault → Image → Type 0
LodgedBy m h p a free (Ok g) m' = TreeDone m h p a free g m'
LodgedBy m h p a free (Err f) m' =
    Misread m h p a f m'
    ⊎ ((h ≤ m.charge) × Unlodged (after_reads m h) (count_under h (contents m) p a) (lodge_by h (contents m) p a free).next.height (needed h (contents m) p a) (length free)
    (lodge_by h (contents m) p a free).writes f m')
