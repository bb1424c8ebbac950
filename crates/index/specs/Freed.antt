-- The free list after a path copy: the pages that it took are gone from the front, and the old path's pages stand there.
use Rattle.std.specs.Prelude.{◌≡◌, ℕ, ◌≤◌, List, ◌++◌, reverse}
use Rattle.std.specs.List.{AllByRecursion}
use Rattle.tree.specs.Tree.{Apart}

-- pages that a free list can hold
abbrev pub FitsList : List ℕ → Type 0
FitsList xs = AllByRecursion (λ p. (1 ≤ p) × (p ≤ 1025)) xs

-- the pages of a path, the leaf's first, put to the front one after another
abbrev pub GivenBack : List ℕ → List ℕ → List ℕ → Type 0
GivenBack path before after = FitsList (reverse path) → Apart (reverse path ++ before) → after ≡ reverse path ++ before
