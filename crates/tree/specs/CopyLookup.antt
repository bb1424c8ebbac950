-- A lookup goes down one path: to the child whose region holds the address.
use Rattle.std.specs.Prelude.{◌≡◌, ℕ, cond, List, nat_le}
use Rattle.layout.specs.declared.entry.Entry.{Entry}
use Rattle.tree.specs.Tree.{Node, Forest, Held, Contents, count_at}
use Rattle.tree.specs.Tree.Node.{leaf, inner}
use Rattle.tree.specs.Tree.Forest.{last, more}
use Rattle.tree.specs.Tree.Held.{none, held}
use Rattle.tree.specs.CopyMoves.{State}
use Rattle.tree.specs.CopyLaws.{Kept, events_of}

-- the events of the leaf that an address belongs to
abbrev mutual
  pub leaf_for : Node → ℕ → List Entry
  leaf_for (leaf p es) a = es
  leaf_for (inner p f) a = leaf_for_in f a

  pub leaf_for_in : Forest → ℕ → List Entry
  leaf_for_in (last n) a = leaf_for n a
  leaf_for_in (more n k f) a = cond (nat_le a k) (leaf_for n a) (leaf_for_in f a)

-- the count that this leaf has
abbrev pub count_in : Held Node → ℕ → ℕ
count_in none a = 0
count_in (held n) a = count_at (leaf_for n a) a

-- the one leaf says what all events say
abbrev pub FindLaw : Type 0
FindLaw = (m : Contents) (limit total top : ℕ) (s : State) (a : ℕ) → Kept m limit total top s → count_in s.tree a ≡ count_at (events_of s.tree) a
