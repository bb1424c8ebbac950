-- What the tests of addresses tell, and what a filter keeps.
use Rattle.std.proofs.Common.{◌≡◌, ℕ, ◌≤◌, Bool, true, false, cond, ◌&&◌, leb, List, [], ◌∷◌, ◌++◌, length, Decides, filter, refl, arith, le-leb, leb-true}
use Rattle.std.specs.List.{AllByRecursion}
use Rattle.tree.specs.SearchSteps.{from}

both_true : (s t : Bool) → (s && t) ≡ true → (s ≡ true) × (t ≡ true)
both_true true true e = (refl, refl)
both_true true false e = (refl, e)
both_true false t e = let z : ◌≡◌ {A = ℕ} 0 1 = cc in absurd (omega arith)

pub from_inside : (inside : ℕ → Bool) (start a : ℕ) → from inside start a ≡ true → inside a ≡ true
from_inside inside start a e = (both_true (inside a) (leb start a) e).0

pub from_start : (inside : ℕ → Bool) (start a : ℕ) → from inside start a ≡ true → start ≤ a
from_start inside start a e = leb-true start a (both_true (inside a) (leb start a) e).1

pub from_is : (inside : ℕ → Bool) (start a : ℕ) → inside a ≡ true → start ≤ a → from inside start a ≡ true
from_is inside start a e h = rw (e, le-leb start a h)

-- a later start is a further test
pub from_later : (inside : ℕ → Bool) (start a : ℕ) → start ≤ a → (b : ℕ) → from inside a b ≡ (from inside start b && leb a b)
from_later inside start a h b = go (inside b) (leb a b) refl
  where
    go : (s t : Bool) → leb a b ≡ t → (s && leb a b) ≡ ((s && leb start b) && leb a b)
    go false t e = refl
    go true false e = rw e (after (leb start b))
      where
        after : (u : Bool) → false ≡ (u && false)
        after true = refl
        after false = refl
    go true true e = let le : start ≤ b = omega (arith, leb-true a b e) in rw (le-leb start b le)

-- a filter of a filter
pub kept_kept : {X : Type 0} (p q r : X → Bool) → ((x : X) → r x ≡ (p x && q x)) → (xs : List X) → filter q (filter p xs) ≡ filter r xs
kept_kept p q r e [] = refl
kept_kept p q r e (x ∷ xs) = go (p x) (r x) (e x) (kept_kept p q r e xs)
  where
    go : (s t : Bool) → t ≡ (s && q x) → filter q (filter p xs) ≡ filter r xs → filter q (cond s (x ∷ filter p xs) (filter p xs)) ≡ cond t (x ∷ filter r xs) (filter r xs)
    go true t h ih = rw (h, ih)
    go false t h ih = rw (h, ih)

-- a wider test keeps no fewer
pub kept_fewer : {X : Type 0} (p q : X → Bool) → ((x : X) → p x ≡ true → q x ≡ true) → (xs : List X) → length (filter p xs) ≤ length (filter q xs)
kept_fewer p q h [] = omega arith
kept_fewer p q h (x ∷ xs) = go (p x) (q x) (h x) (kept_fewer p q h xs)
  where
    go : (s t : Bool) → (s ≡ true → t ≡ true) → length (filter p xs) ≤ length (filter q xs) → length (cond s (x ∷ filter p xs) (filter p xs)) ≤ length (cond t (x ∷ filter q xs) (filter q xs))
    go true true k ih = omega arith
    go true false k ih = let f = k refl in let z : ◌≡◌ {A = ℕ} 0 1 = cc in absurd (omega arith)
    go false true k ih = omega arith
    go false false k ih = ih

pub decided_false : {P : Type 0} (t : Bool) → Decides t P → (P → ⊥) → t ≡ false
decided_false true d h = absurd (h (d.0 refl))
decided_false false d h = refl

-- what holds of each element of two lists together
pub all_split : {X : Type 0} (Q : X → Type 0) (xs ys : List X) → AllByRecursion Q (xs ++ ys) → AllByRecursion Q xs × AllByRecursion Q ys
all_split Q [] ys a = (tt, a)
all_split Q (x ∷ xs) ys a = let h = all_split Q xs ys a.1 in ((a.0, h.0), h.1)
