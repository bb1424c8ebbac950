-- Lists of page numbers: as many of each number, none twice, all of them usable.
use Rattle.std.proofs.Common.{◌≡◌, ℕ, zero, suc, ◌+◌, ◌-◌, ◌<◌, ◌≤◌, cond, eqb, List, [], ◌∷◌, length, sym, refl, ap, ◌∙◌, subst, arith}
use Rattle.std.specs.List.{AllByRecursion}
use Rattle.tree.specs.Tree.{Absent, Apart}
use Rattle.tree.specs.CopyWrites.{weigh, mark, times}
use Rattle.tree.specs.CopyLaws.{upward, usable, unused}
use Rattle.tree.proofs.CopyBase.{by_eq, by_eq₂, mark_same, mark_apart, weigh_length}

-- the list without the first x
abbrev without : ℕ → List ℕ → List ℕ
without x [] = []
without x (y ∷ ys) = cond (eqb y x) ys (y ∷ without x ys)

without_weigh : (w : ℕ → ℕ) (x : ℕ) (ys : List ℕ) → 1 ≤ times x ys → weigh w ys ≡ w x + weigh w (without x ys)
without_weigh w x [] h = absurd (omega arith)
without_weigh w x (y ∷ ys) h =
    by_eq₂ (λ (c : ℕ) (l : List ℕ). 1 ≤ c + times x ys → w y + weigh w ys ≡ w x + weigh w l) y x _ _ _ _
    (λ e i. ap (λ (z : ℕ). w z + weigh w ys) e)
    (λ ne i. omega (arith, without_weigh w x ys (omega arith)))
    h

-- lists that have each number as often are as long
pub same_length : (xs ys : List ℕ) → ((p : ℕ) → times p xs ≡ times p ys) → length xs ≡ length ys
same_length [] [] h = refl
same_length [] (y ∷ ys) h = absurd (omega (arith, h y, mark_same y))
same_length (x ∷ xs) ys h =
    let has : 1 ≤ times x ys = omega (arith, h x, mark_same x) in
    let i = same_length xs (without x ys) (λ p. omega (arith, h p, without_weigh (mark p) x ys has)) in
    omega (arith, i, without_weigh (λ z. 1) x ys has, weigh_length ys, weigh_length (without x ys))

-- the numbers from k upward
pub upward_below : (p k n : ℕ) → p < k → times p (upward k n) ≡ 0
upward_below p k zero h = refl
upward_below p k (suc n) h = omega (arith, mark_apart p k (λ e. omega arith), upward_below p (suc k) n (omega arith))

pub upward_once : (p k n : ℕ) → times p (upward k n) ≤ 1
upward_once p k zero = omega arith
upward_once p k (suc n) =
    by_eq (λ (z : ℕ). z + times p (upward (suc k) n) ≤ 1) k p 1 0
    (λ e. omega (arith, upward_below p (suc k) n (omega arith)))
    (λ ne. omega (arith, upward_once p (suc k) n))

pub upward_within : (p k n : ℕ) → 1 ≤ times p (upward k n) → (k ≤ p) × (p < k + n)
upward_within p k zero h = absurd (omega arith)
upward_within p k (suc n) h =
    by_eq (λ (z : ℕ). 1 ≤ z + times p (upward (suc k) n) → (k ≤ p) × (p < k + suc n)) k p 1 0
    (λ e i. (omega arith, omega arith))
    (λ ne i. let r = upward_within p (suc k) n (omega arith) in (omega arith, omega arith))
    h

pub upward_length : (k n : ℕ) → length (upward k n) ≡ n
upward_length k zero = refl
upward_length k (suc n) = ap suc (upward_length (suc k) n)

-- what holds of each number in a list, by counting
pub all_of_times : (P : ℕ → Type 0) (xs : List ℕ) → ((p : ℕ) → 1 ≤ times p xs → P p) → AllByRecursion P xs
all_of_times P [] h = tt
all_of_times P (x ∷ xs) h = (h x (omega (arith, mark_same x)), all_of_times P xs (λ p i. h p (omega arith)))

pub times_of_all : (P : ℕ → Type 0) (xs : List ℕ) (p : ℕ) → AllByRecursion P xs → 1 ≤ times p xs → P p
times_of_all P [] p a h = absurd (omega arith)
times_of_all P (x ∷ xs) p a h =
    by_eq (λ (z : ℕ). 1 ≤ z + times p xs → P p) x p 1 0
    (λ e i. subst P e a.0)
    (λ ne i. times_of_all P xs p a.1 (omega arith))
    h

pub absent_times : (k : ℕ) (xs : List ℕ) → Absent k xs → times k xs ≡ 0
absent_times k [] a = refl
absent_times k (x ∷ xs) a = omega (arith, mark_apart k x a.0, absent_times k xs a.1)

pub times_absent : (k : ℕ) (xs : List ℕ) → times k xs ≡ 0 → Absent k xs
times_absent k xs h = all_of_times (λ (x : ℕ). x ≡ k → ⊥) xs (λ p i e. absurd (omega (arith, ap (λ (z : ℕ). times z xs) e)))

pub apart_times : (xs : List ℕ) (p : ℕ) → Apart xs → times p xs ≤ 1
apart_times [] p a = omega arith
apart_times (x ∷ xs) p a =
    by_eq (λ (z : ℕ). z + times p xs ≤ 1) x p 1 0
    (λ e. omega (arith, absent_times p xs (subst (λ (z : ℕ). Absent z xs) e a.0)))
    (λ ne. omega (arith, apart_times xs p a.1))

pub times_apart : (xs : List ℕ) → ((p : ℕ) → times p xs ≤ 1) → Apart xs
times_apart [] h = tt
times_apart (x ∷ xs) h = (times_absent x xs (omega (arith, h x, mark_same x)), times_apart xs (λ p. omega (arith, h p)))

pub within_upward : (p k n : ℕ) → k ≤ p → p < k + n → times p (upward k n) ≡ 1
within_upward p k zero l h = absurd (omega arith)
within_upward p k (suc n) l h =
    by_eq (λ (z : ℕ). z + times p (upward (suc k) n) ≡ 1) k p 1 0
    (λ e. omega (arith, upward_below p (suc k) n (omega arith)))
    (λ ne. omega (arith, within_upward p (suc k) n (omega arith) (omega arith)))

-- the unused ones of a list: all of a number's, or none
pub unused_times : (ps xs : List ℕ) (p : ℕ) → times p (unused ps xs) ≡ cond (eqb (times p ps) 0) (times p xs) 0
unused_times ps [] p = by_eq (λ (z : ℕ). 0 ≡ z) (times p ps) 0 _ _ (λ _. refl) (λ _. refl)
unused_times ps (x ∷ xs) p =
    let i = unused_times ps xs p in
    by_eq (λ (z : List ℕ). times p z ≡ cond (eqb (times p ps) 0) (times p (x ∷ xs)) 0) (times x ps) 0 _ _
    (λ e. by_eq₂ (λ (u v : ℕ). times p (unused ps xs) ≡ u → mark p x + times p (unused ps xs) ≡ v) (times p ps) 0 _ _ _ _
    (λ _ j. omega arith)
    (λ ne j. omega (arith, mark_apart p x (λ q. ne (ap (λ (z : ℕ). times z ps) (sym q) ∙ e))))
    i)
    (λ ne. by_eq₂ (λ (u v : ℕ). times p (unused ps xs) ≡ u → times p (unused ps xs) ≡ v) (times p ps) 0 _ _ _ _
    (λ e j. omega (arith, mark_apart p x (λ q. ne (ap (λ (z : ℕ). times z ps) q ∙ e))))
    (λ _ j. j)
    i)

-- pages within 2 to limit, none twice, and the unused ones of 2 to limit
pub unused_shares : (limit : ℕ) (ps : List ℕ) → AllByRecursion (λ p. (2 ≤ p) × (p ≤ limit)) ps → Apart ps →
    (p : ℕ) → times p ps + times p (unused ps (usable limit)) ≡ times p (usable limit)
unused_shares limit ps range once p =
    by_eq (λ (z : ℕ). times p (unused ps (usable limit)) ≡ z → times p ps + times p (unused ps (usable limit)) ≡ times p (usable limit)) (times p ps) 0 _ _
    (λ e j. omega arith)
    (λ ne j. (let r = times_of_all (λ (q : ℕ). (2 ≤ q) × (q ≤ limit)) ps p range (omega arith) in
    omega (arith, apart_times ps p once, within_upward p 2 (limit - 1) r.0 (omega (arith, r.0, r.1)))))
    (unused_times ps (usable limit) p)
