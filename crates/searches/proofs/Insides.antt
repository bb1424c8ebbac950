-- The test of an address decides whether it is one of the box; the first address by that test is the order's.
use Rattle.std.proofs.Common.{◌≡◌, ℕ, zero, suc, ◌-◌, ◌<◌, ◌≤◌, Bool, true, ◌&&◌, List, get_or, Some, None, Decides, Option, arith, ltb-true, lt-ltb, le-leb, leb-true}
use Rattle.std.proofs.lemmas.Bool.{and_parts}
use Rattle.orders.specs.Spaces.{Within}
use Rattle.orders.specs.Orders.{Order, InBox, InSpaceOf, size}
use Rattle.tree.specs.SearchSteps.{from, first, Hit, Least}
use Rattle.tree.proofs.SearchTests.{from_inside, from_start, from_is}
use Rattle.tree.proofs.SearchFirst.{first_least}
use Rattle.searches.specs.Inside.{between, inside}
use Rattle.searches.specs.Sought.{Sought, Tests, Asks, FirstFrom}

both : (s t : Bool) → s ≡ true → t ≡ true → (s && t) ≡ true
both s t e f = rw (e, f)

between_true : (lo hi xs : List ℕ) (j : ℕ) → between lo hi xs j ≡ true → (get_or lo j 0 ≤ get_or xs j 0) × (get_or xs j 0 ≤ get_or hi j 0)
between_true lo hi xs j e = let p = and_parts _ _ e in (leb-true _ _ p.0, leb-true _ _ p.1)

between_is : (lo hi xs : List ℕ) (j : ℕ) → (get_or lo j 0 ≤ get_or xs j 0) × (get_or xs j 0 ≤ get_or hi j 0) → between lo hi xs j ≡ true
between_is lo hi xs j h = both _ _ (le-leb _ _ h.0) (le-leb _ _ h.1)

four : (a b c d : Bool) → (a && (b && (c && d))) ≡ true → (a ≡ true) × (b ≡ true) × (c ≡ true) × (d ≡ true)
four a b c d e =
    let p = and_parts a (b && (c && d)) e in
    let q = and_parts b (c && d) p.1 in
    let r = and_parts c d q.1 in
    (p.0, q.0, r.0, r.1)

within_all : (lo hi xs : List ℕ) →
    ((between lo hi xs 0 && (between lo hi xs 1 && (between lo hi xs 2 && between lo hi xs 3))) ≡ true) → Within lo hi xs
within_all lo hi xs e = go (four (between lo hi xs 0) (between lo hi xs 1) (between lo hi xs 2) (between lo hi xs 3) e)
  where
    go : (between lo hi xs 0 ≡ true) × (between lo hi xs 1 ≡ true) × (between lo hi xs 2 ≡ true) × (between lo hi xs 3 ≡ true) → Within lo hi xs
    go f zero h = between_true lo hi xs 0 f.0
    go f (suc zero) h = between_true lo hi xs 1 f.1
    go f (suc (suc zero)) h = between_true lo hi xs 2 f.2
    go f (suc (suc (suc zero))) h = between_true lo hi xs 3 f.3
    go f (suc (suc (suc (suc j)))) h = absurd (omega arith)

pub inside_decides : (o : Order) (lo hi : List ℕ) (a : ℕ) → Decides (inside o lo hi a) (InBox o lo hi a)
unfolding inside
inside_decides o lo hi a = (
  λ e. (let p = and_parts _ _ e in (ltb-true a (size o) p.0, within_all lo hi (o.point a) p.1)),
  λ h.
      (let w = λ (j : ℕ) (l : j < 4). between_is lo hi (o.point a) j (h.1 j l) in
      both _ _ (lt-ltb a (size o) h.0) (both _ _ (w 0 (omega arith)) (both _ _ (w 1 (omega arith)) (both _ _ (w 2 (omega arith)) (w 3 (omega arith)))))),
)

module _ (q : Sought) where
  -- the test of the box
  abbrev pub in_box : ℕ → Bool
  in_box = inside q.order q.low q.high

  -- and from a start on, what the search wants
  pub wanted_tests : Tests q (from in_box q.start)
  wanted_tests a = (
    λ e. ((inside_decides q.order q.low q.high a).0 (from_inside in_box q.start a e), from_start in_box q.start a e),
    λ h. from_is in_box q.start a ((inside_decides q.order q.low q.high a).1 h.0) h.1,
  )

  -- the first address of the box up to the greatest, by the test
  abbrev pub asked : ℕ → Option ℕ
  asked b = first in_box b (size q.order - 1)

  up_to_top : (k a : ℕ) → a < k → a ≤ k - 1
  up_to_top k a h = omega arith

  least_is_first : (b : ℕ) → InSpaceOf q.order q.low → InSpaceOf q.order q.high → (r : Option ℕ) → Least r (Hit in_box b (size q.order - 1)) → FirstFrom q b r
  least_is_first b il ih None l = λ jl jh c le h. l c (le, up_to_top (size q.order) c h.0, (inside_decides q.order q.low q.high c).1 h)
  least_is_first b il ih (Some a) l = (
    il,
    ih,
    l.0.0,
    (inside_decides q.order q.low q.high a).0 l.0.2,
    λ c le lt h. l.1 c lt (le, up_to_top (size q.order) c h.0, (inside_decides q.order q.low q.high c).1 h),
  )

  pub asked_asks : InSpaceOf q.order q.low → InSpaceOf q.order q.high → Asks q asked
  asked_asks il ih b = least_is_first b il ih (asked b) (first_least in_box b (size q.order - 1))
