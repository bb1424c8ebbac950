-- The children of an inner page as a list, for a loop over them: what the walk comes to after the first j.
use Rattle.std.specs.Prelude.{ℕ, Bool, List, [], ◌∷◌, Option}
use Rattle.tree.specs.Tree.{Node, Forest}
use Rattle.tree.specs.Tree.Forest.{last, more}
use Rattle.tree.specs.SearchWalks.{Walked, walk, passed, joined}

-- a child and the end of its region: its key, or for the last child the page's own end
pub record Child : Type 0 where
  pub node : Node
  pub end : ℕ

abbrev pub child : Node → ℕ → Child
child n end = record { node = n; end = end }

abbrev pub children : Forest → ℕ → List Child
children (last n) hi = child n hi ∷ []
children (more n key ks) hi = child n key ∷ children ks hi

abbrev pub walk_child : (ℕ → Option ℕ) → (ℕ → Bool) → Child → Option ℕ → Walked
walk_child ask P k next = walk ask P k.node k.end next

abbrev pub walk_children : (ℕ → Option ℕ) → (ℕ → Bool) → List Child → Option ℕ → Walked
walk_children ask P [] next = passed next
walk_children ask P (k ∷ ks) next = joined (walk_child ask P k next) (walk_children ask P ks (walk_child ask P k next).next)
