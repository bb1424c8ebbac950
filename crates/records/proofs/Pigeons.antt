-- Numbers below n without repetition are at most n many.
use Rattle.std.proofs.Common.{◌≡◌, ℕ, ◌<◌, ◌≤◌, true, false, eqb, ◌≢◌, List, [], ◌∷◌, length, sym, inl, inr, arith}
use Rattle.std.specs.List.{AllByRecursion, IsDistinct, list_any}
use Rattle.std.proofs.ByRecursion.{All-weaker}
use Rattle.std.proofs.lemmas.Bool.{cases_eq, ne_eqb}
use Rattle.std.proofs.lemmas.Map.Steps.{length-le_from_distinct_below}
use Rattle.records.specs.Chain.{Distinct}

distinct : (xs : List ℕ) → Distinct xs → IsDistinct eqb xs
unfolding IsDistinct
distinct [] d = tt
distinct (x ∷ xs) d = (All-weaker (λ y. y ≢ x) (λ y. eqb x y ≡ false) (λ y n. ne_eqb x y (λ e. n (sym e))) xs d.0, distinct xs d.1)

below : (n : ℕ) (xs : List ℕ) → AllByRecursion (λ x. x < n) xs → (q : ℕ) → list_any (eqb q) xs ≡ true → q < n
below n [] a q h = absurd (cc)
below n (x ∷ xs) a q h =
    elim (cases_eq q x) [
      | inl e ↦ (let b = a.0 in omega arith)
      | inr d ↦ (let e : eqb q x ≡ false = ne_eqb q x d in below n xs a.1 q (rw e at h))
    ]

pub pigeons : (n : ℕ) (xs : List ℕ) → Distinct xs → AllByRecursion (λ x. x < n) xs → length xs ≤ n
pigeons n xs d a = length-le_from_distinct_below xs n (distinct xs d) (below n xs a)
