-- The Z order and the row order as rules, and what they are in the subject's words.
use Rattle.std.specs.Prelude.{◌≡◌, ℕ, zero, suc, ◌+◌, ◌-◌, ◌*◌, ◌/◌, ◌%◌, ◌^◌, ◌<◌, ◌≤◌, min, cond, List, nat_lt, slice_index}
use Rattle.orders.specs.Interleave.{address_of, point_at}
use Rattle.orders.specs.Spaces.{Range, InSpace}

-- the Z order takes a bit of each coordinate in turn, the last coordinate first
abbrev pub z_turn : ℕ → ℕ → ℕ
z_turn n t = n - 1 - t % n

abbrev pub z_used : ℕ → ℕ → ℕ → ℕ
z_used n j t = cond (nat_lt j n) ((t + j) / n) 0

-- the row order takes all bits of a coordinate, then those of the next
abbrev pub row_turn : ℕ → ℕ → ℕ
row_turn p t = t / p

abbrev pub row_used : ℕ → ℕ → ℕ → ℕ
row_used p j t = min p (t - j * p)

-- the Z address of a point, and the point of a Z address
abbrev pub z_address : ℕ → ℕ → List ℕ → ℕ
z_address n p xs = address_of (z_turn n) (n * p) xs

abbrev pub z_point : ℕ → ℕ → ℕ → List ℕ
z_point n p a = point_at (z_turn n) (n * p) a

-- the Z order: bit i of coordinate j (both from 0) stands at place i * n + j of the address
abbrev pub ZPlaces : ℕ → ℕ → Type 0
ZPlaces n p =
    Range n p → (xs : List ℕ) → InSpace n p xs → (i j : ℕ) → i < p → j < n →
    z_address n p xs / 2 ^ (i * n + j) % 2 ≡ slice_index xs j / 2 ^ i % 2

-- Halved k times in every coordinate, a cube of side 2 ^ p falls into cubes of side 2 ^ m, m = p - k: each is one of the
-- 2 ^ n equal parts, a hyper-quadrant, of a cube twice as wide. Two points are in the same one:
abbrev pub SameQuadrant : ℕ → ℕ → List ℕ → List ℕ → Type 0
SameQuadrant n m xs ys = (j : ℕ) → j < n → slice_index xs j / 2 ^ m ≡ slice_index ys j / 2 ^ m

-- The Z order fills each hyper-quadrant before it enters the next, at every level:
-- between two addresses of one hyper-quadrant there are only addresses of it
abbrev pub ZQuadrants : ℕ → ℕ → Type 0
ZQuadrants n p =
    Range n p → (m : ℕ) → m ≤ p → (a b c : ℕ) → a ≤ b → b ≤ c → c < 2 ^ (n * p) →
    SameQuadrant n m (z_point n p a) (z_point n p c) → SameQuadrant n m (z_point n p a) (z_point n p b)

-- the first k coordinates as digits in base 2 ^ p: start at coordinate 0, each later one is added after multiplying
abbrev pub row_digits : ℕ → ℕ → List ℕ → ℕ
row_digits zero p xs = 0
row_digits (suc k) p xs = row_digits k p xs * 2 ^ p + slice_index xs k

-- the row order's address is that number
abbrev pub RowIs : ℕ → ℕ → Type 0
RowIs n p = Range n p → (xs : List ℕ) → InSpace n p xs → address_of (row_turn p) (n * p) xs ≡ row_digits n p xs
