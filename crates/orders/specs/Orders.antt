-- What a point order means: one address for each point of its space. All contracts of orders speak of this record.
use Rattle.std.specs.Prelude.{◌≡◌, ℕ, ◌*◌, ◌^◌, ◌<◌, ◌≤◌, List, Some, None, Option}
use Rattle.orders.specs.declared.point.Point.{Point}
use Rattle.orders.specs.Spaces.{Range, InSpace, Within}

pub record Order : Type 0 where
  pub kind : ℕ
  pub n : ℕ
  pub p : ℕ
  pub address : List ℕ → ℕ
  pub point : ℕ → List ℕ

-- how many addresses there are; top is one below
abbrev pub size : Order → ℕ
size o = 2 ^ (o.n * o.p)

abbrev pub InSpaceOf : Order → List ℕ → Type 0
InSpaceOf o xs = InSpace o.n o.p xs

-- the one law: kind, n and p are in range; point to address to point and address to point to address give back what they began with
pub record Lawful (o : Order) : Type 0 where
  pub kinds : (1 ≤ o.kind) × (o.kind ≤ 255)
  pub range : Range o.n o.p
  pub there : (xs : List ℕ) → InSpaceOf o xs → (o.address xs < size o) × (o.point (o.address xs) ≡ xs)
  pub back : (a : ℕ) → a < size o → InSpaceOf o (o.point a) × (o.address (o.point a) ≡ a)

-- the answer to: which address has the point xs? None just outside the space
abbrev pub AddressIs : Order → List ℕ → Option ℕ → Type 0
AddressIs o xs None = InSpaceOf o xs → ⊥
AddressIs o xs (Some a) = InSpaceOf o xs × (a ≡ o.address xs)

-- the answer to: which point has the address a? None just above top
abbrev pub PointIs : Order → ℕ → Option Point → Type 0
PointIs o a None = size o ≤ a
PointIs o a (Some x) = (a < size o) × (x.coords ≡ o.point a)

-- a is an address of the box from lo to hi
abbrev pub InBox : Order → List ℕ → List ℕ → ℕ → Type 0
InBox o lo hi a = (a < size o) × Within lo hi (o.point a)

-- the answer to: which is the first address of the box at or above `from`?
-- None just where the box has no such address, or an end of it lies outside the space
abbrev pub FirstIs : Order → List ℕ → List ℕ → ℕ → Option ℕ → Type 0
FirstIs o lo hi from None = InSpaceOf o lo → InSpaceOf o hi → (b : ℕ) → from ≤ b → InBox o lo hi b → ⊥
FirstIs o lo hi from (Some a) =
    InSpaceOf o lo × InSpaceOf o hi × (from ≤ a) × InBox o lo hi a × ((b : ℕ) → from ≤ b → b < a → InBox o lo hi b → ⊥)

-- the region from start to end meets the box: it holds the address of a point in the box
abbrev pub Meets : Order → List ℕ → List ℕ → ℕ → ℕ → Type 0
Meets o lo hi start end = (a : ℕ) × (start ≤ a) × (a ≤ end) × InBox o lo hi a
