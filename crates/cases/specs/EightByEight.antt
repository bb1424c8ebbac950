-- Worked cases in the 8 x 8 space: two coordinates of three bits. They speak of the meanings of the two orders.
use Rattle.std.specs.Prelude.{◌≡◌, ℕ, ◌⊎◌, List, [], ◌∷◌, Some, None, Option}
use Rattle.std.proofs.Common.{lit≤}
use Rattle.orders.specs.declared.space.Space.{Space}
use Rattle.orders.specs.Orders.{Order, AddressIs, InBox, FirstIs, Meets}
use Rattle.orders.specs.Interleaved.{order_of}
use Rattle.orders.specs.Rules.{z_turn, row_turn}

abbrev pub eight : Space
eight = record { n = 2; p = 3; some = lit≤ tt; four = lit≤ tt; bit = lit≤ tt; fifteen = lit≤ tt }

-- what a Z order and a row order over that space mean
abbrev pub z : Order
z = order_of 1 eight (z_turn 2)

abbrev pub row : Order
row = order_of 2 eight (row_turn 3)

abbrev pub at : ℕ → ℕ → List ℕ
at x y = x ∷ y ∷ 0 ∷ 0 ∷ []

-- a statement of each member of a list
abbrev pub Each : {A : Type 0} → (A → Type 0) → List A → Type 0
Each P [] = Unit {0}
Each P (x ∷ xs) = P x × Each P xs

-- a is a member of the list
abbrev pub Among : List ℕ → ℕ → Type 0
Among [] a = ⊥
Among (x ∷ xs) a = (a ≡ x) ⊎ Among xs a

-- each point has the address beside it
abbrev pub Addresses : Order → List (List ℕ × ℕ) → Type 0
Addresses o = Each (λ c. AddressIs o c.0 (Some c.1))

abbrev pub ZAddresses : Type 0
ZAddresses = Addresses z ((at 6 2, 28) ∷ (at 3 5, 39) ∷ (at 5 3, 27) ∷ [])

abbrev pub RowAddresses : Type 0
RowAddresses = Addresses row ((at 6 2, 50) ∷ (at 3 5, 29) ∷ [])

-- the box from (3, 3) to (4, 4) has exactly these Z addresses
abbrev pub members : List ℕ
members = 15 ∷ 26 ∷ 37 ∷ 48 ∷ []

abbrev pub BoxAddresses : Type 0
BoxAddresses = (a : ℕ) → (InBox z (at 3 3) (at 4 4) a → Among members a) × (Among members a → InBox z (at 3 3) (at 4 4) a)

-- the first address of that box at or above the number is the one beside it
abbrev pub Firsts : Order → List (ℕ × Option ℕ) → Type 0
Firsts o = Each (λ c. FirstIs o (at 3 3) (at 4 4) c.0 c.1)

abbrev pub ZFirsts : Type 0
ZFirsts = Firsts z ((16, Some 26) ∷ (49, None) ∷ [])

abbrev pub RowFirsts : Type 0
RowFirsts = Firsts row ((29, Some 35) ∷ [])

-- the region 16 to 30 meets that box, the region 27 to 36 does not
abbrev pub Regions : Type 0
Regions = Meets z (at 3 3) (at 4 4) 16 30 × (Meets z (at 3 3) (at 4 4) 27 36 → ⊥)
