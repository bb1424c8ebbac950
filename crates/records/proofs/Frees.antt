-- A free list by its numbers.
use Rattle.std.proofs.Common.{◌≡◌, ℕ, ◌+◌, ◌-◌, ◌≤◌, true, false, not, eqb, List, ◌∷◌, length, get_or, set, Some, Ok, sym, refl, ap, ◌∙◌, subst, inl, inr, arith}
use Rattle.std.specs.Bool.{then_some}
use Rattle.std.proofs.lemmas.Bool.{cases_eq, eq-eqb, ne_eqb}
use mathlib.Core.Logic.{∥∥₁_elim}
use Rattle.records.specs.declared.free.FreeList.{FreeList}
use Rattle.records.specs.Chain.{Absent, Distinct, Within, Chained, walk, Fronts, Takes, Puts}
use Rattle.records.specs.Free.{numbers}
use Rattle.records.proofs.Links.{chained_prop, walk_is, Kept, kept_low, fewer, front_none, front_some, first, take, put}

pub kept : (f : FreeList) → Kept f.next f.front f.count (numbers f)
unfolding numbers
kept f = record {
  long = f.long;
  chained = ∥∥₁_elim f.linked (chained_prop f.next f.front (walk 1026 f.next f.front)) (λ c. c);
  counted = f.counted;
  loose = f.loose;
}

pub numbers_is : (f : FreeList) (xs : List ℕ) → Chained f.next f.front xs → numbers f ≡ xs
unfolding numbers
numbers_is f xs c = walk_is f.next f.front xs c

numbers_moved : (f : FreeList) (next : List ℕ) (front : ℕ) (xs : List ℕ) → f.next ≡ next → f.front ≡ front → Chained next front xs → numbers f ≡ xs
numbers_moved f next front xs a b c =
    numbers_is f xs (subst (λ (n : List ℕ). Chained n f.front xs) (sym a) (subst (λ (j : ℕ). Chained next j xs) (sym b) c))

-- what the ghost fields say
abbrev Ghosts : List ℕ → ℕ → ℕ → List ℕ → Type 0
Ghosts next front count xs =
    (length next ≡ 1026) × ((front ≤ 1025) × (∥ Chained next front xs ∥₁ × ((count ≡ length xs)
    × (((k : ℕ) → k ≤ 1025 → (get_or next k 0 ≡ 65535 → ⊥) → Absent k xs → ⊥) × Unit {0}))))

pub ghosts : (next : List ℕ) (front count : ℕ) (xs : List ℕ) → Kept next front count xs → Ghosts next front count (walk 1026 next front)
ghosts next front count xs s =
    subst (Ghosts next front count) (sym (walk_is next front xs s.chained))
    (s.long, (kept_low next front count xs s, (∣ s.chained ∣₁, (s.counted, (s.loose, tt)))))

-- For the callers: the numbers of a free list are without repetition, from 1 to 1,025, and at most 1,025 many.
pub numbers_distinct : (f : FreeList) → Distinct (numbers f)
numbers_distinct f = (kept f).chained.1.1

pub numbers_within : (f : FreeList) → Within (numbers f)
numbers_within f = (kept f).chained.1.0

pub numbers_few : (f : FreeList) → length (numbers f) ≤ 1025
numbers_few f = let h = fewer (numbers f) (numbers_within f) (numbers_distinct f) in omega arith

pub front_is : (f : FreeList) → Fronts (then_some (not (eqb f.front 0)) f.front) (numbers f)
front_is f =
    elim (cases_eq f.front 0) [
      | inl e ↦ (let t : eqb f.front 0 ≡ true = eq-eqb f.front 0 e in rw t (front_none _ _ _ _ (kept f) e))
      | inr d ↦ (let t : eqb f.front 0 ≡ false = ne_eqb f.front 0 d in rw t (front_some _ _ _ _ (kept f) d))
    ]

-- the first number k taken
module _ (f : FreeList) (k : ℕ) (ys : List ℕ) (e : numbers f ≡ k ∷ ys) where
  pub some : 1 ≤ f.count
  some = let c : f.count ≡ length (k ∷ ys) = (kept f).counted ∙ ap length e in omega arith

  after : Kept (set f.next k 65535) (get_or f.next k 0) (f.count - 1) ys
  after = take f.next f.front f.count (numbers f) (kept f) k ys e (f.count - 1) (omega (arith, some))

  pub take_ghosts : Ghosts (set f.next k 65535) (get_or f.next k 0) (f.count - 1) (walk 1026 (set f.next k 65535) (get_or f.next k 0))
  take_ghosts = ghosts (set f.next k 65535) (get_or f.next k 0) (f.count - 1) ys after

  pub takes : (f' : FreeList) → f'.next ≡ set f.next k 65535 → f'.front ≡ get_or f.next k 0 → Takes (numbers f) (Some k) (numbers f')
  takes f' a b =
      let i : numbers f' ≡ ys = numbers_moved f' (set f.next k 65535) (get_or f.next k 0) ys a b after.chained in
      let c = first f.next f.front f.count (numbers f) (kept f) k ys e in
      (c.1.0.0.0, c.1.0.0.1, rw i c.1.1.0, e ∙ ap (λ (zs : List ℕ). k ∷ zs) (sym i))

-- a number put to the front, that the list can hold and has not
module _ (f : FreeList) (k : ℕ) (p : k ≡ 0 → ⊥) (h : k ≤ 1025) (o : get_or f.next k 0 ≡ 65535) where
  fresh : Kept (set f.next k f.front) k (f.count + 1) (k ∷ numbers f) × Absent k (numbers f)
  fresh = put f.next f.front f.count (numbers f) (kept f) k (f.count + 1) (omega arith) h o refl

  pub put_ghosts : Ghosts (set f.next k f.front) k (f.count + 1) (walk 1026 (set f.next k f.front) k)
  put_ghosts = ghosts (set f.next k f.front) k (f.count + 1) (k ∷ numbers f) fresh.0

  pub puts : (f' : FreeList) → f'.next ≡ set f.next k f.front → f'.front ≡ k → Puts k (numbers f) (Ok tt) (numbers f')
  puts f' a b = (omega arith, h, fresh.1, numbers_moved f' (set f.next k f.front) k (k ∷ numbers f) a b fresh.0.chained)

-- a number that the list has
pub has : (f : FreeList) (k : ℕ) → k ≤ 1025 → (get_or f.next k 0 ≡ 65535 → ⊥) → Absent k (numbers f) → ⊥
has f k h n = (kept f).loose k h n
