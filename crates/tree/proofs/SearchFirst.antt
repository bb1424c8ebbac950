-- The least address that passes: that `first` gives it, and that there is one at most.
use Rattle.std.proofs.Common.{◌≡◌, ℕ, zero, suc, ◌+◌, ◌-◌, ◌<◌, ◌≤◌, Bool, true, false, cond, Some, None, Decides, Option, sym, refl, ap, ◌∙◌, subst, arith}
use Rattle.tree.specs.SearchSteps.{Hit, Meets, Least, first_of, first, is_some}
use Rattle.tree.specs.SearchLaws.{FirstLaw, TestLaw}

-- one address more in front: it is the least where it passes
first_more : (P : ℕ → Bool) (lo k : ℕ) (t : Bool) → P lo ≡ t → (r : Option ℕ) →
    Least r (λ a. (suc lo ≤ a) × (a < suc lo + k) × (P a ≡ true)) →
    Least (cond t (Some lo) r) (λ a. (lo ≤ a) × (a < lo + suc k) × (P a ≡ true))
first_more P lo k true e r l = ((omega arith, omega arith, e), λ b lt h. omega (arith, h.0))
first_more P lo k false e None l = λ b h.
    let ne : (b ≡ lo → ⊥) = λ q. let z : true ≡ false = sym h.2 ∙ ap P q ∙ e in let zz : ◌≡◌ {A = ℕ} 0 1 = cc in omega arith in
    l b (omega (arith, h.0), omega (arith, h.1), h.2)
first_more P lo k false e (Some a) l = (
  (omega (arith, l.0.0), omega (arith, l.0.1), l.0.2),
  λ b lt h.
      let ne : (b ≡ lo → ⊥) = λ q. let z : true ≡ false = sym h.2 ∙ ap P q ∙ e in let zz : ◌≡◌ {A = ℕ} 0 1 = cc in omega arith in
      l.1 b lt (omega (arith, h.0), omega (arith, h.1), h.2),
)

first_of_least : (P : ℕ → Bool) (lo k : ℕ) → Least (first_of P lo k) (λ a. (lo ≤ a) × (a < lo + k) × (P a ≡ true))
first_of_least P lo zero = λ b h. omega (arith, h.0, h.1)
first_of_least P lo (suc k) = first_more P lo k (P lo) refl (first_of P (suc lo) k) (first_of_least P (suc lo) k)

-- the least of what holds of the same numbers
pub least_like : (Q R : ℕ → Type 0) → ((b : ℕ) → Q b → R b) → ((b : ℕ) → R b → Q b) → (r : Option ℕ) → Least r Q → Least r R
least_like Q R there back None l = λ b h. l b (back b h)
least_like Q R there back (Some a) l = (there a l.0, λ b lt h. l.1 b lt (back b h))

pub first_least : FirstLaw
unfolding first
first_least P lo hi = least_like _ _ (λ b h. (h.0, omega (arith, h.0, h.1), h.2)) (λ b h. (h.0, omega (arith, h.0, h.1), h.2))
    (first_of P lo (suc hi - lo)) (first_of_least P lo (suc hi - lo))

-- there is one least number at most
pub least_one : (Q : ℕ → Type 0) (r s : Option ℕ) → Least r Q → Least s Q → r ≡ s
least_one Q None None l m = refl
least_one Q None (Some b) l m = absurd (l b m.0)
least_one Q (Some a) None l m = absurd (m a l.0)
least_one Q (Some a) (Some b) l m =
    let ge : (a < b → ⊥) = λ lt. m.1 a lt l.0 in
    let le : (b < a → ⊥) = λ lt. l.1 b lt m.0 in
    let e : a ≡ b = omega arith in
    ap (λ (x : ℕ). Some x) e

some_decides : (P : ℕ → Bool) (lo hi : ℕ) (r : Option ℕ) → Least r (Hit P lo hi) → Decides (is_some r) (Meets P lo hi)
some_decides P lo hi None l = (λ e. let z : ◌≡◌ {A = ℕ} 0 1 = cc in absurd (omega arith), λ h. absurd (l h.0 (h.1, h.2, h.3)))
some_decides P lo hi (Some a) l = (λ e. (a, l.0.0, l.0.1, l.0.2), λ h. refl)

pub meets_decides : TestLaw
meets_decides P lo hi = some_decides P lo hi (first P lo hi) (first_least P lo hi)

-- nothing passes up to key: the least from lo on is the least past key
pub least_past : (P : ℕ → Bool) (lo key hi : ℕ) → lo ≤ suc key → ((b : ℕ) → Hit P lo key b → ⊥) → (r : Option ℕ) → Least r (Hit P lo hi) → Least r (Hit P (suc key) hi)
least_past P lo key hi le none =
    least_like (Hit P lo hi) (Hit P (suc key) hi)
    (λ b h. let no : (b ≤ key → ⊥) = λ k. none b (h.0, k, h.2) in (omega arith, h.1, h.2))
    (λ b h. (omega (arith, h.0), h.1, h.2))

-- the least up to key is the least up to hi
pub least_wider : (P : ℕ → Bool) (lo key hi a : ℕ) → key ≤ hi → Least (Some a) (Hit P lo key) → Least (Some a) (Hit P lo hi)
least_wider P lo key hi a le l = ((l.0.0, omega (arith, l.0.1), l.0.2), λ b lt h. l.1 b lt (h.0, omega (arith, l.0.1), h.2))

-- what is the least, `first` gives
pub first_is : (P : ℕ → Bool) (lo hi : ℕ) (r : Option ℕ) → Least r (Hit P lo hi) → first P lo hi ≡ r
first_is P lo hi r l = least_one (Hit P lo hi) (first P lo hi) r (first_least P lo hi) l

pub is_least : (P : ℕ → Bool) (lo hi : ℕ) (r : Option ℕ) → first P lo hi ≡ r → Least r (Hit P lo hi)
is_least P lo hi r e = subst (λ (s : Option ℕ). Least s (Hit P lo hi)) e (first_least P lo hi)
