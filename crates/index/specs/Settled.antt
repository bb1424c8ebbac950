-- The end of a change of the tree: the header of the copied tree is written, and only then the index remembers the new tree.
use Rattle.std.specs.Prelude.{◌≡◌, ℕ, drop, Ok, Err, Result}
use Rattle.records.specs.Free.{numbers}
use Rattle.faults.specs.declared.fault.Fault.{Fault}
use Rattle.paths.specs.OldPages.{old_pages}
use Rattle.paths.specs.declared.copied.Copied.{Copied}
use Rattle.index.specs.declared.index.OpenTree.{OpenTree}
use Rattle.index.specs.Freed.{GivenBack}

-- the new tree, after the copy g of the tree t
pub record Renewed (t : OpenTree) (g : Copied) (sum : ℕ) (t' : OpenTree) : Type 0 where
  pub root : t'.root ≡ g.root
  pub total : t'.total ≡ sum
  -- the free list has lost what the copy used and has the old path at its front
  pub free : GivenBack (old_pages g.trade.path) (drop g.trade.used (numbers t.free)) (numbers t'.free)

-- where the write of page 1 is refused, nothing changes
abbrev pub Renews : OpenTree → Copied → ℕ → Result (Unit {0}) Fault → OpenTree → Type 0
Renews t g total (Ok u) t' = Renewed t g total t'
Renews t g total (Err f) t' = t' ≡ t
