-- Rows of two slots over which no store of one page is made.
use Rattle.std.specs.Prelude.{ℕ, List, [], ◌∷◌, replicate}
use Rattle.slots.specs.Slot.{filled, Allowed}

-- a slot that holds the page p, all zeros
abbrev pub zeros : ℕ → List ℕ
zeros p = filled p (replicate 128 0)

-- a number used twice, and a number above the pages; one free slot and one of page 1 are allowed
abbrev pub Refused : Type 0
Refused =
    (Allowed (zeros 1 ∷ zeros 1 ∷ []) 1 → ⊥) × (Allowed (zeros 0 ∷ zeros 2 ∷ []) 1 → ⊥) × (Allowed (zeros 1 ∷ []) 1 → ⊥) × Allowed (zeros 0 ∷ zeros 1 ∷ []) 1
