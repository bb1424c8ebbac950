-- The search as code does it: one number is carried through the tree, the next box address not yet passed.
-- A child is read just where that address is not past its end. After each leaf that was read, the first address past the leaf's end is asked for.
-- `ask b` is the least address of the box at or above b.
use Rattle.std.specs.Prelude.{ℕ, suc, ◌+◌, Bool, cond, List, [], ◌∷◌, ◌++◌, Some, None, Option, nat_le}
use Rattle.tree.specs.Tree.{Node, Forest}
use Rattle.tree.specs.Tree.Node.{leaf, inner}
use Rattle.tree.specs.Tree.Forest.{last, more}
use Rattle.tree.specs.SearchSteps.{Step, find_steps}
use Rattle.tree.specs.SearchSteps.Step.{reads}

-- the steps made, the next address, and how often a first address was asked for
pub record Walked : Type 0 where
  pub steps : List Step
  pub next : Option ℕ
  pub asks : ℕ

abbrev pub passed : Option ℕ → Walked
passed next = record { steps = []; next = next; asks = 0 }

abbrev pub entered : ℕ → ℕ → Walked → Walked
entered page a w = record { steps = reads page a ∷ w.steps; next = w.next; asks = w.asks }

abbrev pub joined : Walked → Walked → Walked
joined w v = record { steps = w.steps ++ v.steps; next = v.next; asks = w.asks + v.asks }

-- a page whose region ends at hi is passed by, or is read and then w comes of it
abbrev pub enter : ℕ → ℕ → Option ℕ → Walked → Walked
enter page hi None w = passed None
enter page hi (Some a) w = cond (nat_le a hi) (entered page a w) (passed (Some a))

abbrev mutual
  pub walk : (ℕ → Option ℕ) → (ℕ → Bool) → Node → ℕ → Option ℕ → Walked
  walk ask P (leaf page es) hi next = enter page hi next (record { steps = find_steps P es; next = ask (suc hi); asks = 1 })
  walk ask P (inner page ks) hi next = enter page hi next (walk_in ask P ks hi next)

  pub walk_in : (ℕ → Option ℕ) → (ℕ → Bool) → Forest → ℕ → Option ℕ → Walked
  walk_in ask P (last n) hi next = walk ask P n hi next
  walk_in ask P (more n key ks) hi next = joined (walk ask P n key next) (walk_in ask P ks hi (walk ask P n key next).next)
