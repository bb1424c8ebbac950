-- What a copy of a path leaves alone.
use Rattle.std.specs.Prelude.{◌≡◌, ℕ, ◌≤◌, List, length}
use Rattle.pages.specs.Image.{Image, at}
use Rattle.tree.specs.Tree.{Absent}

-- what never changes: the number of pages, and the bytes of every page that is not free; and no charge comes back
pub record LeavesAlone (m : Image) (free : List ℕ) (m' : Image) : Type 0 where
  pub size : length m'.pages ≡ length m.pages
  pub charge : m'.charge ≤ m.charge
  pub others : (p : ℕ) → 1 ≤ p → Absent p free → at m' p ≡ at m p
