-- An index that is open on one event: kept states with events exist, for every lawful order, at every point of its space and over every
-- memory of at least eight pages, whatever they hold.
use Rattle.std.specs.Prelude.{◌≡◌, ℕ, ◌-◌, ◌≤◌, List, [], ◌∷◌, length}
use Rattle.pages.specs.Image.{Image, written}
use Rattle.layout.specs.Bytes.{page_bytes}
use Rattle.layout.specs.Heads.{header_bytes}
use Rattle.layout.specs.declared.entry.Entry.{Entry}
use Rattle.orders.specs.Orders.{Order, Lawful, InSpaceOf}
use Rattle.tree.specs.Tree.Node.{leaf}
use Rattle.tree.specs.Tree.Held.{held}
use Rattle.tree.specs.CopyMoves.{entry}
use Rattle.tree.specs.CopyLaws.{upward}
use Rattle.index.specs.Model.{State, state, limit}
use Rattle.index.specs.Model.Known.{knows}
use Rattle.index.specs.Keeping.{Filed, Kept, header_for}
use Rattle.index.specs.Keeping.Content.{filed}
use Rattle.index.specs.Histories.{held_in}

-- one event at the point x
abbrev pub one_event : Order → List ℕ → List Entry
one_event o x = entry (o.address x) 1 ∷ []

-- on one leaf, page 2
abbrev pub one_leaf : Order → List ℕ → Filed
one_leaf o x = record { tree = held (leaf 2 (one_event o x)); height = 1; total = 1 }

-- page 2 is that leaf, page 1 its header; the pages from 3 on are free
abbrev pub first_state : Order → Image → List ℕ → State
first_state o m x = state (written (written m 2 (page_bytes 1 2 (one_event o x))) 1 (header_bytes (header_for o (one_leaf o x)))) (knows 1 2 1 (upward 3 (limit m - 2)))

abbrev pub WitnessLaw : Type 0
WitnessLaw = (o : Order) → Lawful o → (m : Image) (x : List ℕ) → InSpaceOf o x → 8 ≤ length m.pages →
    Kept o (first_state o m x) (filed (one_leaf o x)) × (held_in o (filed (one_leaf o x)) x ≡ 1)
