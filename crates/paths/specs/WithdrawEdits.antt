-- The edits of one page on the path of a withdrawal.
use Rattle.std.specs.Prelude.{◌≡◌, ℕ, List, Some, None, Ok, Err, Option, Result, ◌≢◌}
use Rattle.layout.specs.declared.entry.Entry.{Entry}
use Rattle.layout.specs.Edits.{found}
use Rattle.tree.specs.Tree.{Held}
use Rattle.tree.specs.Tree.Held.{none, held}
use Rattle.tree.specs.CopyMoves.{remove}
use Rattle.faults.specs.declared.fault.Fault.{Fault}
use Rattle.faults.specs.declared.fault.Fault.TheVariants.{NoEvent}

pub record LessOne (a : ℕ) (es after : List Entry) : Type 0 where
  pub event : found a es ≢ None
  pub less : after ≡ remove a es

-- one event less at an address that has an entry; nothing changes where it has none
abbrev pub TakesOne : ℕ → List Entry → Result (Unit {0}) Fault → List Entry → Type 0
TakesOne a es (Ok u) after = LessOne a es after
TakesOne a es (Err f) after = (f ≡ NoEvent) × (found a es ≡ None) × (after ≡ es)

-- what is left of a page: its new page, or nothing
abbrev pub left_of : Option ℕ → Held ℕ
left_of None = none
left_of (Some p) = held p
