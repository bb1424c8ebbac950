-- Chains in a table.
use Rattle.std.proofs.Common.{◌≡◌, ℕ, zero, suc, ◌+◌, ◌<◌, ◌≤◌, true, false, eqb, ◌≢◌, List, [], ◌∷◌, length, get_or, set, replicate, Some, sym, refl, ap, ◌∙◌, subst, inl, inr, arith, get_or-set_other, get_or-set_same}
use mathlib.Core.HLevel.{hedberg, Σ_prop, →_prop, ⊥_prop}
use native.Mathlib.Decide.{ℕ_discrete}
use native.Mathlib.Bridge.{le_prop}
use Rattle.std.specs.List.{AllByRecursion, AllByRecursion-prop}
use Rattle.std.proofs.ByRecursion.{All-weaker}
use Rattle.std.proofs.lemmas.Bool.{cases_eq, eq-eqb, ne_eqb}
use Rattle.std.proofs.lemmas.List.{get_or-replicate, length-set}
use Rattle.records.specs.Chain.{Absent, Distinct, Within, Linked, Chained, walk, Fronts}
use Rattle.records.proofs.Pigeons.{pigeons}

-- to be chained is a fact with one proof at most
linked_prop : (next : List ℕ) (f : ℕ) (xs : List ℕ) → IsProp (Linked next f xs)
linked_prop next f [] = hedberg ℕ_discrete _ _
linked_prop next f (x ∷ xs) = Σ_prop (hedberg ℕ_discrete _ _) (λ _. linked_prop next (get_or next x 0) xs)

within_prop : (xs : List ℕ) → IsProp (Within xs)
within_prop xs = AllByRecursion-prop _ (λ x. Σ_prop le_prop (λ _. le_prop)) xs

absent_prop : (k : ℕ) (xs : List ℕ) → IsProp (Absent k xs)
absent_prop k xs = AllByRecursion-prop _ (λ x. →_prop ⊥_prop) xs

distinct_prop : (xs : List ℕ) → IsProp (Distinct xs)
distinct_prop [] = λ a b. refl
distinct_prop (x ∷ xs) = Σ_prop (absent_prop x xs) (λ _. distinct_prop xs)

pub chained_prop : (next : List ℕ) (f : ℕ) (xs : List ℕ) → IsProp (Chained next f xs)
chained_prop next f xs = Σ_prop (linked_prop next f xs) (λ _. Σ_prop (within_prop xs) (λ _. distinct_prop xs))

-- the walk over a chained table gives its numbers
absent_zero : (xs : List ℕ) → Within xs → Absent 0 xs
absent_zero [] w = tt
absent_zero (x ∷ xs) w = (λ e. (let z = w.0.0 in omega arith), absent_zero xs w.1)

pub fewer : (xs : List ℕ) → Within xs → Distinct xs → length xs < 1026
fewer xs w d =
    let a : Distinct (0 ∷ xs) = (absent_zero xs w, d) in
    let b : AllByRecursion (λ x. x < 1026) (0 ∷ xs) = (omega arith, All-weaker (λ x. (1 ≤ x) × (x ≤ 1025)) (λ x. x < 1026) (λ x h. (let z = h.1 in omega arith)) xs w) in
    pigeons 1026 (0 ∷ xs) a b

walks : (n : ℕ) (next : List ℕ) (f : ℕ) (xs : List ℕ) → Linked next f xs → Within xs → length xs < n → walk n next f ≡ xs
unfolding walk
walks zero next f xs l w h = absurd (omega arith)
walks (suc n) next f [] l w h = let e : eqb f 0 ≡ true = eq-eqb f 0 l in rw e
walks (suc n) next f (x ∷ xs) l w h =
    let q : f ≡ x = l.0 in
    let p : 1 ≤ x = w.0.0 in
    let e : eqb f 0 ≡ false = ne_eqb f 0 (λ z. omega arith) in
    let r : walk n next (get_or next x 0) ≡ xs = walks n next (get_or next x 0) xs l.1 w.1 (omega arith) in
    rw (e, q, r)

pub walk_is : (next : List ℕ) (f : ℕ) (xs : List ℕ) → Chained next f xs → walk 1026 next f ≡ xs
walk_is next f xs c = walks 1026 next f xs c.0 c.1.0 (fewer xs c.1.0 c.1.1)

front_low : (next : List ℕ) (f : ℕ) (xs : List ℕ) → Linked next f xs → Within xs → f ≤ 1025
front_low next f [] l w = omega arith
front_low next f (x ∷ xs) l w = let q = l.0 in let z = w.0.1 in omega arith

-- a write at a number that is not in the chain leaves it
linked_set : (next : List ℕ) (f : ℕ) (xs : List ℕ) (k v : ℕ) → Absent k xs → Linked next f xs → Linked (set next k v) f xs
linked_set next f [] k v a l = l
linked_set next f (x ∷ xs) k v a l =
    let ne : x ≢ k = a.0 in (l.0, rw (get_or-set_other next k x v 0 ne) (linked_set next (get_or next x 0) xs k v a.1 l.1))

-- the number 65,535 does not stand at a number of the chain
absent_loose : (next : List ℕ) (f : ℕ) (xs : List ℕ) (k : ℕ) → Linked next f xs → Within xs → get_or next k 0 ≡ 65535 → Absent k xs
absent_loose next f [] k l w e = tt
absent_loose next f (x ∷ xs) k l w e = (
  λ q. (let z = front_low next (get_or next x 0) xs l.1 w.1 in let s : get_or next x 0 ≡ get_or next k 0 = ap (λ (j : ℕ). get_or next j 0) q in omega arith),
  absent_loose next (get_or next x 0) xs k l.1 w.1 e,
)

-- what a free list keeps of its table, its front and its count, by its numbers
pub record Kept (next : List ℕ) (front count : ℕ) (xs : List ℕ) : Type 0 where
  pub long : length next ≡ 1026
  pub chained : Chained next front xs
  pub counted : count ≡ length xs
  pub loose : (k : ℕ) → k ≤ 1025 → (get_or next k 0 ≡ 65535 → ⊥) → Absent k xs → ⊥

pub kept_low : (next : List ℕ) (f n : ℕ) (xs : List ℕ) → Kept next f n xs → f ≤ 1025
kept_low next f n xs s = front_low next f xs s.chained.0 s.chained.1.0

pub kept_few : (next : List ℕ) (f n : ℕ) (xs : List ℕ) → Kept next f n xs → n < 1026
kept_few next f n xs s = rw s.counted (fewer xs s.chained.1.0 s.chained.1.1)

pub kept_none : (next : List ℕ) → next ≡ replicate 1026 65535 → length next ≡ 1026 → Kept next 0 0 []
kept_none next e l = record {
  long = l;
  chained = (refl, (tt, tt));
  counted = refl;
  loose = λ k h n a. n (rw e (get_or-replicate 1026 k 65535 0 (omega arith)));
}

module _ (next : List ℕ) (f n : ℕ) (xs : List ℕ) (s : Kept next f n xs) where
  -- the front, where there is one
  pub front_none : f ≡ 0 → xs ≡ []
  front_none e = elim xs as (λ (ys : List ℕ). Chained next f ys → ys ≡ []) [ [] ↦ (λ c. refl) | y ∷ ys ↦ (λ c. absurd (let z = c.1.0.0.0 in let q = c.0.0 in omega arith)) ] s.chained

  pub front_some : (f ≡ 0 → ⊥) → Fronts (Some f) xs
  front_some z = (omega arith, kept_low next f n xs s, elim xs as (λ (zs : List ℕ). Chained next f zs → (ys : List ℕ) × (zs ≡ f ∷ ys)) [ [] ↦ (λ c. absurd (z c.0)) | y ∷ ys ↦ (λ c. (ys, ap (λ (j : ℕ). j ∷ ys) (sym c.0.0))) ] s.chained)

  -- the first number k taken
  module _ (k : ℕ) (ys : List ℕ) (e : xs ≡ k ∷ ys) where
    pub first : Chained next f (k ∷ ys)
    first = subst (Chained next f) e s.chained

    pub take : (n' : ℕ) → n ≡ n' + 1 → Kept (set next k 65535) (get_or next k 0) n' ys
    take n' o = record {
      long = length-set next k 65535 ∙ s.long;
      chained = (linked_set next (get_or next k 0) ys k 65535 first.1.1.0 first.0.1, (first.1.0.1, first.1.1.1));
      counted = (let c : n ≡ length (k ∷ ys) = s.counted ∙ ap length e in omega arith);
      loose = λ i h m a.
          elim (cases_eq i k) [
            | inl q ↦ m (ap (λ (j : ℕ). get_or (set next k 65535) j 0) q ∙ get_or-set_same next k 65535 0 (omega (arith, s.long, first.1.0.0.1)))
            | inr d ↦ s.loose i h (λ u. m (get_or-set_other next k i 65535 0 d ∙ u)) (subst (Absent i) (sym e) (λ u. d (sym u), a))
          ];
    }

  -- a number put to the front
  pub put : (k n' : ℕ) → 1 ≤ k → k ≤ 1025 → get_or next k 0 ≡ 65535 → n' ≡ n + 1 → Kept (set next k f) k n' (k ∷ xs) × Absent k xs
  put k n' p h o e =
      let a : Absent k xs = absent_loose next f xs k s.chained.0 s.chained.1.0 o in
      let lt : k < length next = omega (arith, s.long) in (
        record {
          long = length-set next k f ∙ s.long;
          chained = ((refl, rw (get_or-set_same next k f 0 lt) (linked_set next f xs k f a s.chained.0)), (((p, h), s.chained.1.0), (a, s.chained.1.1)));
          counted = (let c = s.counted in omega arith);
          loose = λ j g m b. s.loose j g (λ q. m (get_or-set_other next k j f 0 (λ z. b.0 (sym z)) ∙ q)) b.1;
        },
        a,
      )
