-- The cases of the 8 x 8 space, each by a computed test.
use Rattle.std.proofs.Common.{ℕ, ◌<◌, ◌≤◌, not, T, ltb, leb, List, arith, lit<, lit≤, le→leb, lt→ltb, rules}
use Rattle.orders.specs.Orders.{Order, size, InSpaceOf, InBox}
use Rattle.cases.specs.EightByEight.{z, row, at, members, BoxAddresses, ZFirsts, RowFirsts, Regions}
use Rattle.cases.proofs.Boxes.{both, join, inside, inside_is, none, none_such, each_member, among, among_is}

-- an address of the box
in_box : (o : Order) (lo hi : List ℕ) (a : ℕ) → T (ltb a (size o)) → T (inside lo hi (o.point a)) → InBox o lo hi a
in_box o lo hi a t s = (lit< t, inside_is lo hi (o.point a) s)

-- no address of the box between two numbers
between : (o : Order) (lo hi : List ℕ) (start end : ℕ) → T (none o lo hi (λ b. both (leb start b) (ltb b end))) → (b : ℕ) → start ≤ b → b < end → InBox o lo hi b → ⊥
between o lo hi start end t b from below i =
    none_such o lo hi (λ c. both (leb start c) (ltb c end)) t b i (join (leb start b) (ltb b end) (le→leb start b from) (lt→ltb b end below))

low : InSpaceOf z (at 3 3)
low = search rules

high : InSpaceOf z (at 4 4)
high = search rules

pub box_exactly : BoxAddresses
box_exactly a = (
  λ i. among_is members a (λ t. none_such z (at 3 3) (at 4 4) (λ b. not (among members b)) tt a i t),
  λ m. each_member z (at 3 3) (at 4 4) members tt a m,
)

pub z_firsts : ZFirsts
z_firsts = (
  (low, high, lit≤ tt, in_box z (at 3 3) (at 4 4) 26 tt tt, between z (at 3 3) (at 4 4) 16 26 tt),
  ((λ _ _ b from i. between z (at 3 3) (at 4 4) 49 64 tt b from i.0 i), tt),
)

pub row_firsts : RowFirsts
row_firsts = ((low, high, lit≤ tt, in_box row (at 3 3) (at 4 4) 35 tt tt, between row (at 3 3) (at 4 4) 29 35 tt), tt)

pub regions : Regions
regions = (
  (26, lit≤ tt, lit≤ tt, in_box z (at 3 3) (at 4 4) 26 tt tt),
  λ m. between z (at 3 3) (at 4 4) 27 37 tt m.0 m.1 (omega (arith, m.2)) m.3,
)
