-- Addresses whose bits are those of the coordinates. A rule `turn` deals them out from the top:
-- the t-th bit of the address from the top (t from 0) is the next lower bit of the coordinate `turn t`.
use Rattle.std.specs.Prelude.{◌≡◌, ℕ, zero, suc, ◌+◌, ◌-◌, ◌*◌, ◌/◌, ◌%◌, ◌^◌, ◌<◌, ◌≤◌, List, [], ◌∷◌, length, Some, None, Option, ◌≢◌, slice_index, slice_set}
use Rattle.orders.specs.Spaces.{Range, Within}

abbrev pub origin : List ℕ
origin = 0 ∷ 0 ∷ 0 ∷ 0 ∷ []

-- the coordinate j takes one more bit at its low end
abbrev pub grown : List ℕ → ℕ → ℕ → List ℕ
grown xs j b = slice_set xs j (slice_index xs j * 2 + b)

-- the coordinate j loses its lowest bit
abbrev pub halved : List ℕ → ℕ → List ℕ
halved xs j = slice_set xs j (slice_index xs j / 2)

-- the point of the t address bits a
abbrev pub point_at : (ℕ → ℕ) → ℕ → ℕ → List ℕ
point_at turn zero a = origin
point_at turn (suc t) a = grown (point_at turn t (a / 2)) (turn t) (a % 2)

-- the first t address bits of the point xs
abbrev pub address_of : (ℕ → ℕ) → ℕ → List ℕ → ℕ
address_of turn zero xs = 0
address_of turn (suc t) xs = address_of turn t (halved xs (turn t)) * 2 + slice_index xs (turn t) % 2

-- What a rule owes for a space of n coordinates of p bits. `used j t`: how many of the first t bits are the coordinate j's
pub record Schedule (n p : ℕ) (turn : ℕ → ℕ) (used : ℕ → ℕ → ℕ) : Type 0 where
  pub range : Range n p
  pub within : (t : ℕ) → t < n * p → turn t < 4
  pub none : (j : ℕ) → used j 0 ≡ 0
  pub one : (t : ℕ) → t < n * p → used (turn t) (suc t) ≡ suc (used (turn t) t)
  pub same : (t j : ℕ) → t < n * p → (j ≢ turn t) → used j (suc t) ≡ used j t
  pub full : (j : ℕ) → j < n → used j (n * p) ≡ p
  pub bare : (j : ℕ) → n ≤ j → used j (n * p) ≡ 0

-- each coordinate has at most the bits that t address bits give it
abbrev pub Fits : (ℕ → ℕ → ℕ) → ℕ → List ℕ → Type 0
Fits used t xs = (length xs ≡ 4) × ((j : ℕ) → j < 4 → slice_index xs j < 2 ^ used j t)

-- how many bits the coordinate j still lacks behind the first t
abbrev pub lacking : ℕ → (ℕ → ℕ → ℕ) → ℕ → ℕ → ℕ
lacking total used t j = used j total - used j t

-- A block of addresses is what begins with the same bits; its points are a box. The block at q, whose coordinates
-- lack the bits `lacks j`, has a point in common with the box from lo to hi
abbrev pub Touches : (ℕ → ℕ) → List ℕ → List ℕ → List ℕ → Type 0
Touches lacks lo hi q = (j : ℕ) → j < 4 → (slice_index lo j / 2 ^ lacks j ≤ slice_index q j) × (slice_index q j ≤ slice_index hi j / 2 ^ lacks j)

-- a is in the block that begins with the bits c and has `left` bits left, is at or above `from`, and its point lies in the box
abbrev pub Hit : ℕ → (ℕ → ℕ) → List ℕ → List ℕ → ℕ → ℕ → ℕ → ℕ → Type 0
Hit total turn lo hi from left c a = (a / 2 ^ left ≡ c) × (from ≤ a) × Within lo hi (point_at turn total a)

-- r is the least number with P, or None where there is none
abbrev pub Least : Option ℕ → (ℕ → Type 0) → Type 0
Least None P = (b : ℕ) → P b → ⊥
Least (Some a) P = P a × ((b : ℕ) → b < a → P b → ⊥)
