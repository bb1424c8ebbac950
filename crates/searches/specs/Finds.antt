-- What a search finds, in code, and what is put into the tray.
use Rattle.std.specs.Prelude.{◌≡◌, ℕ, ◌+◌, ◌-◌, Bool, List, [], ◌∷◌, map, length, slice_set}
use Rattle.layout.specs.declared.entry.Entry.{Entry}
use Rattle.orders.specs.Orders.{Order}
use Rattle.records.specs.declared.tray.Tray.{Tray}
use Rattle.tree.specs.SearchSteps.{find_steps}
use Rattle.tree.specs.SearchRuns.{Ending, outcome, run}
use Rattle.tree.specs.SearchRuns.Ending.{done, more, cut}
use Rattle.searches.specs.declared.find.Find.{Find}
use Rattle.searches.specs.declared.find.Ending.{Ending as EndingCode}
use Rattle.searches.specs.declared.find.Ending.TheVariants.{Done, More, Cut}
use Rattle.searches.specs.Sought.{Sought, Tests}

-- a find is an address, its point and its count
abbrev pub find_of : Order → Entry → Find
find_of o e = record { address = e.key; point = record { coords = o.point e.key }; count = e.value }

abbrev pub ending_of : EndingCode → Ending
ending_of Done = done
ending_of (More a) = more a
ending_of (Cut p a) = cut p a

-- how many finds a tray has room for
abbrev pub room : Tray Find → ℕ
room t = length t.memory.now - t.used

-- the memory with these records from the place `used` on
abbrev pub put_all : List Find → ℕ → List Find → List Find
put_all memory used [] = memory
put_all memory used (x ∷ xs) = put_all (slice_set memory used x) (used + 1) xs

-- The finds were put into the tray behind the others. The rest of the memory is as it was, and it is that of the same loan.
pub record Puts (xs : List Find) (t t' : Tray Find) : Type 0 where
  pub memory : t'.memory.now ≡ put_all t.memory.now t.used xs
  pub used : t'.used ≡ t.used + length xs
  pub lent : t'.memory.ghost_name ≡ t.memory.ghost_name

-- some finds were put, and nothing else was done to the tray
abbrev pub Laid : Tray Find → Tray Find → Type 0
Laid t t' = (xs : List Find) × Puts xs t t'

-- The search of these entries, by every test of what is wanted, with the room that the tray has: what is found, and how it ends.
abbrev pub Finds : Sought → List Entry → Tray Find → EndingCode → Tray Find → Type 0
Finds q es t r t' =
    (P : ℕ → Bool) → Tests q P → (charge : ℕ) →
    (found : List Entry) × (run (find_steps P es) charge (room t) ≡ outcome found (ending_of r) 0) × Puts (map (find_of q.order) found) t t'
