-- Small tools: a test taken apart, sums over lists.
use Rattle.std.proofs.Common.{◌≡◌, ℕ, ◌+◌, ◌<◌, ◌≤◌, Bool, true, false, cond, eqb, leb, List, [], ◌∷◌, ◌++◌, length, refl, arith}
use Rattle.std.proofs.lemmas.Bool.{leb-true, leb-false, eqb-true, eqb-false, cond_both}
use Rattle.tree.specs.CopyWrites.{mark, weigh}

-- a proof by cases on the test a ≤ k; the type of P says which `cond` it is about
pub by_le : {A : Type 0} (P : A → Type 0) (a k : ℕ) (x y : A) → (a ≤ k → P x) → (k < a → P y) → P (cond (leb a k) x y)
by_le P a k x y f g = cond_both (leb a k) x y P (λ e. f (leb-true a k e)) (λ e. g (leb-false a k e))

pub by_eq : {A : Type 0} (P : A → Type 0) (a k : ℕ) (x y : A) → (a ≡ k → P x) → ((a ≡ k → ⊥) → P y) → P (cond (eqb a k) x y)
by_eq P a k x y f g = cond_both (eqb a k) x y P (λ e. f (eqb-true a k e)) (λ e. g (eqb-false a k e))

both_ways : {A B : Type 0} (P : A → B → Type 0) (b : Bool) (x y : A) (u v : B) → (b ≡ true → P x u) → (b ≡ false → P y v) → P (cond b x y) (cond b u v)
both_ways P true x y u v f g = f refl
both_ways P false x y u v f g = g refl

-- the same where two things turn on the same test
pub by_le₂ : {A B : Type 0} (P : A → B → Type 0) (a k : ℕ) (x y : A) (u v : B) → (a ≤ k → P x u) → (k < a → P y v) → P (cond (leb a k) x y) (cond (leb a k) u v)
by_le₂ P a k x y u v f g = both_ways P (leb a k) x y u v (λ e. f (leb-true a k e)) (λ e. g (leb-false a k e))

pub weigh_append : (w : ℕ → ℕ) (xs ys : List ℕ) → weigh w (xs ++ ys) ≡ weigh w xs + weigh w ys
weigh_append w [] ys = omega arith
weigh_append w (x ∷ xs) ys = omega (arith, weigh_append w xs ys)

pub mark_same : (p : ℕ) → mark p p ≡ 1
mark_same p = by_eq (λ (n : ℕ). n ≡ 1) p p 1 0 (λ e. refl) (λ ne. absurd (ne refl))

pub mark_apart : (p q : ℕ) → (q ≡ p → ⊥) → mark p q ≡ 0
mark_apart p q ne = by_eq (λ (n : ℕ). n ≡ 0) q p 1 0 (λ e. absurd (ne e)) (λ _. refl)

-- with every weight 1 the sum is the length
pub weigh_length : (xs : List ℕ) → weigh (λ x. 1) xs ≡ length xs
weigh_length [] = refl
weigh_length (x ∷ xs) = omega (arith, weigh_length xs)

pub by_eq₂ : {A B : Type 0} (P : A → B → Type 0) (a k : ℕ) (x y : A) (u v : B) → (a ≡ k → P x u) → ((a ≡ k → ⊥) → P y v) → P (cond (eqb a k) x y) (cond (eqb a k) u v)
by_eq₂ P a k x y u v f g = both_ways P (eqb a k) x y u v (λ e. f (eqb-true a k e)) (λ e. g (eqb-false a k e))
