-- A statement of all addresses of a box, by one test that is computed at every address of the space.
use Rattle.std.proofs.Common.{ℕ, zero, suc, ◌<◌, Bool, true, false, not, T, eqb, ltb, leb, List, [], ◌∷◌, get_or, sym, subst, inl, inr, arith, le→leb, eqb→eq, ltb→lt, leb→le, T_not}
use Rattle.std.proofs.lemmas.Bool.{cases_eq}
use Rattle.orders.specs.Spaces.{Within}
use Rattle.orders.specs.Orders.{Order, size, InBox}
use Rattle.cases.specs.EightByEight.{Among}

abbrev pub both : Bool → Bool → Bool
both true b = b
both false b = false

left : (a b : Bool) → T (both a b) → T a
left true b t = tt
left false b t = t

right : (a b : Bool) → T (both a b) → T b
right true b t = t
right false b t = absurd t

pub join : (a b : Bool) → T a → T b → T (both a b)
join true b s t = t
join false b s t = s

-- the test passes at every number below the limit
abbrev pub every : (ℕ → Bool) → ℕ → Bool
every f zero = true
every f (suc n) = both (f n) (every f n)

pub at_each : (f : ℕ → Bool) (n : ℕ) → T (every f n) → (a : ℕ) → a < n → T (f a)
at_each f zero t a lt = absurd (omega arith)
at_each f (suc n) t a lt =
    elim (cases_eq a n) [
      | inl e ↦ rw e (left (f n) (every f n) t)
      | inr ne ↦ at_each f n (right (f n) (every f n) t) a (omega arith)
    ]

from_each : (f : ℕ → Bool) (n : ℕ) → ((a : ℕ) → a < n → T (f a)) → T (every f n)
from_each f zero h = tt
from_each f (suc n) h = join (f n) (every f n) (h n (omega arith)) (from_each f n (λ a lt. h a (omega arith)))

-- whether the point lies in the box
abbrev between : List ℕ → List ℕ → List ℕ → ℕ → Bool
between lo hi xs j = both (leb (get_or lo j 0) (get_or xs j 0)) (leb (get_or xs j 0) (get_or hi j 0))

abbrev pub inside : List ℕ → List ℕ → List ℕ → Bool
inside lo hi xs = every (between lo hi xs) 4

inside_yes : (lo hi xs : List ℕ) → Within lo hi xs → T (inside lo hi xs)
inside_yes lo hi xs w = from_each (between lo hi xs) 4 (λ j lt. join (leb (get_or lo j 0) (get_or xs j 0)) (leb (get_or xs j 0) (get_or hi j 0)) (le→leb (get_or lo j 0) (get_or xs j 0) (w j lt).0) (le→leb (get_or xs j 0) (get_or hi j 0) (w j lt).1))

pub inside_is : (lo hi xs : List ℕ) → T (inside lo hi xs) → Within lo hi xs
inside_is lo hi xs t j lt =
    let h = at_each (between lo hi xs) 4 t j lt in (
      leb→le (get_or lo j 0) (get_or xs j 0) (left (leb (get_or lo j 0) (get_or xs j 0)) (leb (get_or xs j 0) (get_or hi j 0)) h),
      leb→le (get_or xs j 0) (get_or hi j 0) (right (leb (get_or lo j 0) (get_or xs j 0)) (leb (get_or xs j 0) (get_or hi j 0)) h),
    )

-- no address of the box passes the test
abbrev pub none : Order → List ℕ → List ℕ → (ℕ → Bool) → Bool
none o lo hi test = every (λ a. not (both (inside lo hi (o.point a)) (test a))) (size o)

pub none_such : (o : Order) (lo hi : List ℕ) (test : ℕ → Bool) → T (none o lo hi test) → (a : ℕ) → InBox o lo hi a → T (test a) → ⊥
none_such o lo hi test t a in-box passed =
    T_not (both (inside lo hi (o.point a)) (test a)) (at_each (λ b. not (both (inside lo hi (o.point b)) (test b))) (size o) t a in-box.0)
    (join (inside lo hi (o.point a)) (test a) (inside_yes lo hi (o.point a) in-box.1) passed)

-- each member of the list is an address of the box
abbrev pub addresses : Order → List ℕ → List ℕ → List ℕ → Bool
addresses o lo hi [] = true
addresses o lo hi (x ∷ xs) = both (both (ltb x (size o)) (inside lo hi (o.point x))) (addresses o lo hi xs)

pub each_member : (o : Order) (lo hi xs : List ℕ) → T (addresses o lo hi xs) → (a : ℕ) → Among xs a → InBox o lo hi a
each_member o lo hi [] t a m = absurd m
each_member o lo hi (x ∷ xs) t a m =
    let here : T (both (ltb x (size o)) (inside lo hi (o.point x))) = left (both (ltb x (size o)) (inside lo hi (o.point x))) (addresses o lo hi xs) t in
    elim m [
      | inl e ↦
          subst (λ (b : ℕ). InBox o lo hi b) (sym e)
          (ltb→lt x (size o) (left (ltb x (size o)) (inside lo hi (o.point x)) here), inside_is lo hi (o.point x) (right (ltb x (size o)) (inside lo hi (o.point x)) here))
      | inr r ↦ each_member o lo hi xs (right (both (ltb x (size o)) (inside lo hi (o.point x))) (addresses o lo hi xs) t) a r
    ]

abbrev pub either : Bool → Bool → Bool
either true b = true
either false b = b

-- whether a is a member of the list
abbrev pub among : List ℕ → ℕ → Bool
among [] a = false
among (x ∷ xs) a = either (eqb a x) (among xs a)

other : (p q : Bool) → (T p → ⊥) → T (not q) → T (not (either p q))
other true q never t = absurd (never tt)
other false q never t = t

pub among_is : (xs : List ℕ) (a : ℕ) → (T (not (among xs a)) → ⊥) → Among xs a
among_is [] a h = h tt
among_is (x ∷ xs) a h =
    elim (cases_eq a x) [
      | inl e ↦ inl e
      | inr ne ↦ inr (among_is xs a (λ t. h (other (eqb a x) (among xs a) (λ y. ne (eqb→eq a x y)) t)))
    ]
