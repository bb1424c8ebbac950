-- The visits that a scan has yet to make, in a tray: the last that was put in comes next.
use Rattle.std.specs.Prelude.{◌≡◌, ℕ, ◌+◌, ◌≤◌, List, length, reverse, take}
use Rattle.records.specs.declared.tray.Tray.{Tray}
use Rattle.layout.specs.declared.visit.Visit.{Visit}

abbrev pub to_come : Tray Visit → List Visit
to_come t = reverse (take t.used t.memory.now)

-- there is room for n more
abbrev pub HasRoom : ℕ → Tray Visit → Type 0
HasRoom n t = t.used + n ≤ length t.memory.now

-- there are as many places as before
abbrev pub SameSize : Tray Visit → Tray Visit → Type 0
SameSize t t' = length t'.memory.now ≡ length t.memory.now
