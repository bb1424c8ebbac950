-- Tally: how many events an address has.
use Rattle.std.specs.Prelude.{◌≡◌, ℕ, ◌≤◌, Ok, Err, Result}
use Rattle.pages.specs.Image.{Image}
use Rattle.layout.specs.Edits.{found}
use Rattle.tree.specs.Tree.{count_at}
use Rattle.tree.specs.CopyMoves.{State}
use Rattle.tree.specs.CopyLaws.{events_of, path_of}
use Rattle.tree.specs.CopyMemory.{leaf_at}
use Rattle.faults.specs.declared.fault.Fault.{Fault}
use Rattle.faults.specs.declared.fault.Fault.TheVariants.{Shut, Outside, Work, Absent, Unread, NoHeader, OtherOrder, Unsound, NoEvent, CountFull, HeightFull, Room, Unwritten}
use Rattle.faults.specs.Accesses.{contents}
use Rattle.paths.specs.PathsWrites.{after_reads}
use Rattle.paths.specs.PathsReading.{Misread, counted, RunsOut, KeptAt}

-- over every memory: the count in the leaf at the end of the path
abbrev pub Tallied : Image → ℕ → ℕ → ℕ → Result ℕ Fault → Image → Type 0
Tallied m l p a (Ok n) m' = (l ≤ m.charge) × (n ≡ counted (found a (leaf_at l (contents m) p a))) × (m' ≡ after_reads m l)
Tallied m l p a (Err f) m' = Misread m l p a f m'

-- where a state is kept: the count among its events, or 9 where the charge is below the height
abbrev pub Tallies : Image → State → ℕ → Result ℕ Fault → Image → Type 0
Tallies m s a (Ok n) m' = (s.height ≤ m.charge) × (n ≡ count_at (events_of s.tree) a) × (m' ≡ after_reads m s.height)
Tallies m s a (Err (Unread x)) m' = RunsOut m s.height (path_of s.tree a) x m'
Tallies m s a (Err Shut) m' = ⊥
Tallies m s a (Err Outside) m' = ⊥
Tallies m s a (Err Work) m' = ⊥
Tallies m s a (Err (Absent x)) m' = ⊥
Tallies m s a (Err NoHeader) m' = ⊥
Tallies m s a (Err OtherOrder) m' = ⊥
Tallies m s a (Err (Unsound p r)) m' = ⊥
Tallies m s a (Err NoEvent) m' = ⊥
Tallies m s a (Err CountFull) m' = ⊥
Tallies m s a (Err HeightFull) m' = ⊥
Tallies m s a (Err Room) m' = ⊥
Tallies m s a (Err (Unwritten x)) m' = ⊥

-- for every memory; and for every kept state that it holds
pub record TallyIs (m : Image) (root height a : ℕ) (r : Result ℕ Fault) (m' : Image) : Type 0 where
  pub always : Tallied m height root a r m'
  pub kept : (limit total top : ℕ) (s : State) → KeptAt m root height limit total top s → Tallies m s a r m'
