-- The path from a page down to the leaf that an address belongs to, read page by page, the upper ones first.
use Rattle.std.specs.Prelude.{◌≡◌, ℕ, suc, ◌-◌, ◌<◌, ◌≤◌, List, reverse, length, Some, None, Option, slice_index}
use Rattle.pages.specs.declared.fault.StoreFault.TheVariants.{Uncharged}
use Rattle.pages.specs.Image.{Image}
use Rattle.layout.specs.declared.visit.Rule.{Rule}
use Rattle.tree.specs.CopyMoves.{State}
use Rattle.tree.specs.CopyLaws.{Kept, root_of}
use Rattle.tree.specs.CopyMemory.{path_at}
use Rattle.faults.specs.declared.fault.Access.{Access}
use Rattle.faults.specs.declared.fault.Fault.{Fault}
use Rattle.faults.specs.declared.fault.Fault.TheVariants.{Unsound}
use Rattle.faults.specs.Refusals.{unread}
use Rattle.faults.specs.Accesses.{contents}
use Rattle.paths.specs.PathsWrites.{Refuses, after_reads}
use Rattle.paths.specs.PathsPages.{Breaks}

-- the page q of level v is the one at depth d of the path to an address a from the page p of level l
pub record Stopped (m : Image) (l p a d q v : ℕ) : Type 0 where
  pub within : d < l
  pub page : q ≡ slice_index (path_at l (contents m) p a) d
  pub level : v ≡ l - d

-- the reading stops at some page: the store refuses it (8 where it does not exist, 9 where the charge does not carry the read), or it breaks a rule (12)
pub data Misread (m : Image) (l p a : ℕ) (f : Fault) (m' : Image) : Type 0 where
  refused : (d : ℕ) (x : Access) → f ≡ unread x → Stopped m l p a d x.at.page x.at.level → d ≤ m.charge → Refuses (after_reads m d) x.at.page x.fault → m' ≡ after_reads m d → Misread m l p a f m'
  broken : (d q v : ℕ) (r : Rule) → f ≡ Unsound q r → Stopped m l p a d q v → suc d ≤ m.charge → Breaks (contents m) q v r → m' ≡ after_reads m (suc d) → Misread m l p a f m'

-- these are the pages of that path, the leaf's first
abbrev pub IsPath : Image → ℕ → ℕ → ℕ → List ℕ → Type 0
IsPath m l p a path = reverse path ≡ path_at l (contents m) p a

-- what an index answers for a count: none is 0
abbrev pub counted : Option ℕ → ℕ
counted None = 0
counted (Some n) = n

-- Where a state is kept with this height and path, only the charge can stop the reading: at the page that it no longer carries.
pub record RunsOut (m : Image) (height : ℕ) (path : List ℕ) (x : Access) (m' : Image) : Type 0 where
  pub short : m.charge < height
  pub page : x.at.page ≡ slice_index path m.charge
  pub level : x.at.level ≡ height - m.charge
  pub fault : x.fault ≡ Uncharged
  pub spent : m' ≡ after_reads m m.charge

-- The tree at this root and height is a kept state's, in a store that has all its usable pages.
pub record KeptAt (m : Image) (root height limit total top : ℕ) (s : State) : Type 0 where
  pub kept : Kept (contents m) limit total top s
  pub there : limit ≤ length m.pages
  pub root_is : root ≡ root_of s.tree
  pub height_is : height ≡ s.height
