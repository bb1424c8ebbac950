-- A worked example: the addresses 0 to 10 lodged in turn into the empty tree over the pages 2 to 16.
use Rattle.std.specs.Prelude.{◌≡◌, ℕ, ◌+◌, ◌≤◌, List, [], ◌∷◌, length}
use Rattle.layout.specs.declared.entry.Entry.{Entry}
use Rattle.tree.specs.Tree.Node.{leaf, inner}
use Rattle.tree.specs.Tree.Forest.{last, more}
use Rattle.tree.specs.Tree.Held.{none, held}
use Rattle.tree.specs.CopyMoves.{State, entry, lodge_step}
use Rattle.tree.specs.CopyLaws.{upward, usable, lodge_takes}

abbrev pub lodge_all : List ℕ → State → State
lodge_all [] s = s
lodge_all (a ∷ rest) s = lodge_all rest (lodge_step s a).next

-- each finds k + 6 pages free
abbrev pub RoomAll : List ℕ → State → Type 0
RoomAll [] s = Unit {0}
RoomAll (a ∷ rest) s = (lodge_takes s.tree s.height a + 6 ≤ length s.free) × RoomAll rest (lodge_step s a).next

-- each address once
abbrev pub once_each : List ℕ → List Entry
once_each [] = []
once_each (a ∷ rest) = entry a 1 ∷ once_each rest

-- the empty tree over 16 pages: 2 to 16 are free
abbrev pub sixteen : State
sixteen = record { tree = none; height = 0; free = usable 16 }

-- The eleventh entry splits the leaf, six and five, under a new root.
-- Before it leaves alternated between the pages 2 and 3; the last one left is 3, which is free again.
abbrev pub ElevenLaw : Type 0
ElevenLaw = RoomAll (upward 0 11) sixteen × (lodge_all (upward 0 11) sixteen ≡ record {
  tree = held (inner 5 (more (leaf 2 (once_each (upward 0 6))) 5 (last (leaf 4 (once_each (upward 6 5))))));
  height = 2;
  free = 3 ∷ upward 6 11;
})
