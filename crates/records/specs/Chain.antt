-- Numbers that are chained by a table: the table has at each number the one after it, and 0 ends the chain.
use Rattle.std.specs.Prelude.{◌≡◌, ℕ, zero, suc, ◌≤◌, Bool, false, cond, not, List, [], ◌∷◌, Some, None, Ok, Err, filter, Option, Result, ◌==◌, ◌≢◌, slice_index, slice_index_or}
use Rattle.std.specs.List.{range_with_len, AllByRecursion}

-- k is none of these numbers
abbrev pub Absent : ℕ → List ℕ → Type 0
Absent k xs = AllByRecursion (λ x. x ≢ k) xs

-- numbers without repetition
abbrev pub Distinct : List ℕ → Type 0
Distinct [] = Unit {0}
Distinct (x ∷ xs) = Absent x xs × Distinct xs

-- numbers from 1 to 1,025
abbrev pub Within : List ℕ → Type 0
Within xs = AllByRecursion (λ x. (1 ≤ x) × (x ≤ 1025)) xs

-- from front on the table leads over these numbers to its end
abbrev pub Linked : List ℕ → ℕ → List ℕ → Type 0
Linked next front [] = front ≡ 0
Linked next front (x ∷ xs) = (front ≡ x) × Linked next (slice_index next x) xs

-- and they are without repetition
abbrev pub Chained : List ℕ → ℕ → List ℕ → Type 0
Chained next front xs = Linked next front xs × (Within xs × Distinct xs)

-- the numbers in their order, as they are met in at most n steps
unfoldable pub walk : ℕ → List ℕ → ℕ → List ℕ
walk zero next front = []
walk (suc n) next front = cond (front == 0) [] (front ∷ walk n next (slice_index next front))

-- the numbers from a on, n of them, that are not marked
abbrev pub unmarked : List Bool → ℕ → ℕ → List ℕ
unmarked marks a n = filter (λ k. not (slice_index_or marks k false)) (range_with_len a n)

-- the front of the numbers xs, where there is one
abbrev pub Fronts : Option ℕ → List ℕ → Type 0
Fronts (Some k) xs = (1 ≤ k) × (k ≤ 1025) × ((ys : List ℕ) × (xs ≡ k ∷ ys))
Fronts None xs = xs ≡ []

-- what is taken from the front of the numbers xs, and what is left
abbrev pub Takes : List ℕ → Option ℕ → List ℕ → Type 0
Takes xs (Some k) ys = (1 ≤ k) × (k ≤ 1025) × Absent k ys × (xs ≡ k ∷ ys)
Takes xs None ys = (xs ≡ []) × (ys ≡ [])

-- k put to the front of the numbers xs: refused, and given back, where it is no number from 1 to 1,025 or is one of them
abbrev pub Puts : ℕ → List ℕ → Result (Unit {0}) ℕ → List ℕ → Type 0
Puts k xs (Ok _) ys = (1 ≤ k) × (k ≤ 1025) × Absent k xs × (ys ≡ k ∷ xs)
Puts k xs (Err j) ys = (j ≡ k) × (1 ≤ k → k ≤ 1025 → Absent k xs → ⊥) × (ys ≡ xs)
