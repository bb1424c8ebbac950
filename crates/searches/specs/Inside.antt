-- The test of an address: is it one of the box?
use Rattle.std.specs.Prelude.{ℕ, Bool, ◌&&◌, List, nat_le, nat_lt, slice_index}
use Rattle.orders.specs.Orders.{Order, size}

-- coordinate j of a point lies between those of the two ends
abbrev pub between : List ℕ → List ℕ → List ℕ → ℕ → Bool
between lo hi xs j = nat_le (slice_index lo j) (slice_index xs j) && nat_le (slice_index xs j) (slice_index hi j)

-- the address has a point, and each of its four coordinates lies between the ends of the box
unfoldable pub inside : Order → List ℕ → List ℕ → ℕ → Bool
inside o lo hi a =
    nat_lt a (size o) && (between lo hi (o.point a) 0 && (between lo hi (o.point a) 1 && (between lo hi (o.point a) 2 && between lo hi (o.point a) 3)))
