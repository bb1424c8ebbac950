-- Spaces, points and boxes. A point is a list of four coordinates.
use Rattle.std.specs.Prelude.{◌≡◌, ℕ, ◌^◌, ◌<◌, ◌≤◌, List, length, slice_index}

-- a space has 1 to 4 coordinates of 1 to 15 bits
abbrev pub Range : ℕ → ℕ → Type 0
Range n p = (1 ≤ n) × (n ≤ 4) × (1 ≤ p) × (p ≤ 15)

-- the point lies in the space of n coordinates of p bits: those below n are below 2 ^ p, those from n on are 0
abbrev pub InSpace : ℕ → ℕ → List ℕ → Type 0
InSpace n p xs = (length xs ≡ 4) × ((j : ℕ) → j < n → slice_index xs j < 2 ^ p) × ((j : ℕ) → n ≤ j → slice_index xs j ≡ 0)

-- lo is at most hi in each coordinate
abbrev pub Ordered : List ℕ → List ℕ → Type 0
Ordered lo hi = (j : ℕ) → j < 4 → slice_index lo j ≤ slice_index hi j

-- the point lies in the box from lo to hi
abbrev pub Within : List ℕ → List ℕ → List ℕ → Type 0
Within lo hi xs = (j : ℕ) → j < 4 → (slice_index lo j ≤ slice_index xs j) × (slice_index xs j ≤ slice_index hi j)
