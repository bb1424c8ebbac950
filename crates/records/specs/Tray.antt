-- A tray: records put one after another into lent memory.
use Rattle.std.specs.Prelude.{◌≡◌, ℕ, ◌+◌, ◌<◌, List, [], ◌∷◌, ◌++◌, length, take, Some, None, Ok, Err, Option, Result, slice_set}

-- the records so far: those in the first places
abbrev pub first : {X : Type 0} → List X → ℕ → List X
first memory used = take used memory

-- a record x put behind the others: refused, and given back, where the tray is full
abbrev pub Lays : {X : Type 0} → List X → ℕ → X → Result (Unit {0}) X → List X → ℕ → Type 0
Lays memory used x (Ok _) memory' used' = (used < length memory) × (used' ≡ used + 1) × (memory' ≡ slice_set memory used x) × (first memory' used' ≡ first memory used ++ x ∷ [])
Lays memory used x (Err y) memory' used' = (used ≡ length memory) × (y ≡ x) × (used' ≡ used) × (memory' ≡ memory)

-- the last record taken back: it stays in the memory
abbrev pub Lifts : {X : Type 0} → List X → ℕ → Option X → List X → ℕ → Type 0
Lifts memory used (Some x) memory' used' = (used ≡ used' + 1) × (memory' ≡ memory) × (first memory used ≡ first memory' used' ++ x ∷ [])
Lifts memory used None memory' used' = (used ≡ 0) × (used' ≡ 0) × (memory' ≡ memory)
