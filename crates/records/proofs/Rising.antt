-- A chain that is built downwards from the numbers that are not marked.
use Rattle.std.proofs.Common.{◌≡◌, ℕ, zero, suc, ◌+◌, ◌-◌, min, ◌<◌, ◌≤◌, Bool, true, false, cond, not, List, ◌∷◌, get_or, Ok, Err, Result, sym, ap, ◌∙◌, arith}
use Rattle.std.specs.List.{range_with_len}
use Rattle.std.proofs.ByRecursion.{all_kept_by}
use Rattle.records.specs.Chain.{Absent, unmarked, Puts}

-- what a put that the list cannot refuse leaves
pub put_sure : (k : ℕ) (xs ys : List ℕ) (r : Result (Unit {0}) ℕ) → 1 ≤ k → k ≤ 1025 → Absent k xs → Puts k xs r ys → ys ≡ k ∷ xs
put_sure k xs ys (Ok _) p h a u = u.3
put_sure k xs ys (Err _) p h a u = absurd (u.1 p h a)

later : (k a n : ℕ) → k < a → Absent k (range_with_len a n)
later k a zero h = tt
later k a (suc n) h = (λ e. omega arith, later k (a + 1) n (omega arith))

-- the numbers from a on are not below a
unmarked_from : (marks : List Bool) (k a n : ℕ) → k < a → Absent k (unmarked marks a n)
unmarked_from marks k a n h = all_kept_by (λ j. not (get_or marks j false)) (λ x. x ≡ k → ⊥) (range_with_len a n) (later k a n h)

-- what the loop knows before it comes to k: the list holds the numbers above k, up to high, that are not marked
pub record Built (marks : List Bool) (low high k : ℕ) (xs : List ℕ) : Type 0 where
  pub above : min low high ≤ k
  pub built : xs ≡ unmarked marks (k + 1) (high - k)

module _ (marks : List Bool) (low high k : ℕ) (xs : List ℕ) (b : Built marks low high k xs) (h : k ≤ high) where
  one : unmarked marks k (high + 1 - k) ≡ cond (not (get_or marks k false)) (k ∷ unmarked marks (k + 1) (high - k)) (unmarked marks (k + 1) (high - k))
  one = let e : high + 1 - k ≡ suc (high - k) = omega arith in rw e

  -- the list once k is put or left
  pub went_put : (ys : List ℕ) (r : Result (Unit {0}) ℕ) → 1 ≤ k → high ≤ 1025 → get_or marks k false ≡ false → Puts k xs r ys → ys ≡ unmarked marks k (high + 1 - k)
  went_put ys r p g m u =
      let a : Absent k xs = rw b.built (unmarked_from marks k (k + 1) (high - k) (omega arith)) in
      put_sure k xs ys r p (omega arith) a u ∙ ap (λ (zs : List ℕ). k ∷ zs) b.built
      ∙ sym (one ∙ ap (λ (t : Bool). cond (not t) (k ∷ unmarked marks (k + 1) (high - k)) (unmarked marks (k + 1) (high - k))) m)

  pub went_left : get_or marks k false ≡ true → xs ≡ unmarked marks k (high + 1 - k)
  went_left m = b.built ∙ sym (one ∙ ap (λ (t : Bool). cond (not t) (k ∷ unmarked marks (k + 1) (high - k)) (unmarked marks (k + 1) (high - k))) m)

-- the next number down
pub built_next : (marks : List Bool) (low high k : ℕ) (xs : List ℕ) → low < k → k ≤ high → xs ≡ unmarked marks k (high + 1 - k) → Built marks low high (k - 1) xs
built_next marks low high k xs l h e =
    let f : k - 1 + 1 ≡ k = omega arith in let g : high - (k - 1) ≡ high + 1 - k = omega arith in record { above = omega arith; built = rw (f, g, e) }
