-- What numbers and points of a script mean.
use Rattle.std.specs.Prelude.{◌≡◌, ℕ, ◌+◌, ◌-◌, ◌*◌, ◌<◌, ◌≤◌, ◌⊎◌, List, [], ◌∷◌, length, Some, None, Option, slice_index}
use Rattle.std.specs.Int.{IsInRange}
use Rattle.orders.specs.declared.point.Point.{Point}

-- the number that digits write, behind one that is read already
abbrev pub read_on : ℕ → List ℕ → ℕ
read_on n [] = n
read_on n (c ∷ cs) = read_on (10 * n + (c - 48)) cs

-- every byte is a digit
abbrev pub Digits : List ℕ → Type 0
Digits bs = (i : ℕ) → i < length bs → IsInRange 48 57 (slice_index bs i)

-- a word writes a number up to the limit: one digit or more, and nothing else
abbrev pub Writes : List ℕ → ℕ → Type 0
Writes bs limit = (0 < length bs) × Digits bs × (read_on 0 bs ≤ limit)

-- the answer: the number just where one is written
abbrev pub NumberIs : List ℕ → ℕ → Option ℕ → Type 0
NumberIs bs limit None = Writes bs limit → ⊥
NumberIs bs limit (Some v) = Writes bs limit × (v ≡ read_on 0 bs)

-- n coordinates or all four, each of 16 bits
abbrev pub Coordinates : ℕ → List ℕ → Type 0
Coordinates n xs = (length xs ≤ 4) × ((length xs ≡ n) ⊎ (length xs ≡ 4)) × ((j : ℕ) → j < length xs → slice_index xs j ≤ 65535)

-- the answer: the point with these coordinates and zeros behind them
abbrev pub PointIs : ℕ → List ℕ → Option Point → Type 0
PointIs n xs None = Coordinates n xs → ⊥
PointIs n xs (Some x) = Coordinates n xs × ((j : ℕ) → j < 4 → slice_index x.coords j ≡ slice_index xs j)
