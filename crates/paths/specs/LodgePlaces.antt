-- One page or two written to the front of the free pages.
use Rattle.std.specs.Prelude.{◌≡◌, ℕ, ◌+◌, List, [], length, drop, Ok, Err, Option, Result}
use Rattle.pages.specs.Image.{Image}
use Rattle.layout.specs.declared.entry.Entry.{Entry}
use Rattle.layout.specs.declared.change.ChildPages.{ChildPages}
use Rattle.layout.specs.declared.change.ChildPages.TheVariants.{One, Two}
use Rattle.layout.specs.Edits as page
use Rattle.layout.specs.declared.list.EntryList.{EntryList}
use Rattle.layout.specs.Changes.{after_split}
use Rattle.tree.specs.CopyMoves.{Split, Made}
use Rattle.tree.specs.CopyMoves.Split.{one, two}
use Rattle.tree.specs.CopyMemory.{place_at}
use Rattle.faults.specs.declared.fault.Fault.{Fault}
use Rattle.layout.specs.declared.change.RightHalf.{RightHalf}
use Rattle.paths.specs.declared.place.Placed.{Placed}
use Rattle.paths.specs.PathsWrites.{Wrote, Unwrites}

-- the pages that stand in a child's place
abbrev pub pages_in : ChildPages → Split ℕ
pages_in (One v) = one v
pages_in (Two v k w) = two v k w

-- the same as the edits of a list have it
abbrev pub as_tree : {A : Type 0} → page.Split A → Split A
as_tree (page.one x) = one x
as_tree (page.two x k y) = two x k y

-- a page's entries, or those of its two halves
abbrev pub halves_of : List Entry → Option (RightHalf EntryList) → Split (List Entry)
halves_of es right = as_tree (after_split es right)

-- the code gives what the theory makes, from the free pages of which `used` were used before
pub record Gives (made : Made (Split ℕ)) (free : List ℕ) (used : ℕ) (g : Placed) : Type 0 where
  pub pages : pages_in g.pages ≡ made.part
  pub rest : drop g.trade.used free ≡ made.rest
  pub uses : g.trade.used ≡ used + length made.writes

abbrev pub PlacedBy : Made (Split ℕ) → List ℕ → ℕ → Image → Result Placed Fault → Image → Type 0
PlacedBy made free used m (Ok g) m' = Gives made free used g × Wrote made.writes m m'
PlacedBy made free used m (Err f) m' = Unwrites made.writes m f m'

abbrev pub Places : Image → ℕ → Split (List Entry) → List ℕ → ℕ → Result Placed Fault → Image → Type 0
Places m level s free used r m' = PlacedBy (place_at level s [] (drop used free)) free used m r m'
