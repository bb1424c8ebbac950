-- Marks: pages that rule A admits one after the other are in range and reached once; and there are no more of them than pages.
use Rattle.std.proofs.Common.{◌≡◌, ℕ, zero, suc, ◌+◌, ◌<◌, ◌≤◌, Bool, true, false, cond, not, eqb, List, [], ◌∷◌, length, filter, sym, refl, inl, inr, arith}
use Rattle.std.specs.List.{AllByRecursion}
use Rattle.std.proofs.ByRecursion.{all_kept_by, kept_by_passes, All-weaker}
use Rattle.std.proofs.lemmas.Bool.{cases_eq, eq-eqb, ne_eqb, eqb-false, not-true}
use Rattle.tree.specs.Tree.{Absent, Apart}
use Rattle.tree.specs.ScanRules.{AdmittedAll, marked}

-- 1. numbers below n without repetition are at most n many

abbrev other : ℕ → ℕ → Bool
other n x = not (eqb x n)

kept_all : (n : ℕ) (xs : List ℕ) → Absent n xs → filter (other n) xs ≡ xs
kept_all n [] a = refl
kept_all n (x ∷ xs) a = let e : eqb x n ≡ false = ne_eqb x n a.0 in rw (e, kept_all n xs a.1)

one_less : (n : ℕ) (xs : List ℕ) → Apart xs → length xs ≤ length (filter (other n) xs) + 1
one_less n [] a = omega arith
one_less n (x ∷ xs) a =
    elim (cases_eq x n) [
      | inl e ↦ (let t : eqb x n ≡ true = eq-eqb x n e in let k : filter (other n) xs ≡ xs = kept_all n xs (rw (← e) a.0) in rw (t, k) (omega arith))
      | inr ne ↦ (let t : eqb x n ≡ false = ne_eqb x n ne in rw t (omega (arith, one_less n xs a.1)))
    ]

apart_kept : (p : ℕ → Bool) (xs : List ℕ) → Apart xs → Apart (filter p xs)
apart_kept p [] a = tt
apart_kept p (x ∷ xs) a =
    elim (p x) as (λ b. Apart (cond b (x ∷ filter p xs) (filter p xs))) [ true ↦ (all_kept_by p (λ y. y ≡ x → ⊥) xs a.0, apart_kept p xs a.1) | false ↦ apart_kept p xs a.1 ]

all_both : {P Q R : ℕ → Type 0} → ((x : ℕ) → P x → Q x → R x) → (xs : List ℕ) → AllByRecursion P xs → AllByRecursion Q xs → AllByRecursion R xs
all_both f [] a b = tt
all_both f (x ∷ xs) a b = (f x a.0 b.0, all_both f xs a.1 b.1)

pub pigeonhole : (n : ℕ) (xs : List ℕ) → Apart xs → AllByRecursion (λ x. x < n) xs → length xs ≤ n
pigeonhole zero [] a b = omega arith
pigeonhole zero (x ∷ xs) a b = absurd (let z = b.0 in omega arith)
pigeonhole (suc n) xs a b =
    let low : AllByRecursion (λ x. x < n) (filter (other n) xs) =
    all_both (λ x l o. (let ne = eqb-false x n (not-true (eqb x n) o) in omega arith)) (filter (other n) xs) (all_kept_by (other n) (λ x. x < suc n) xs b) (kept_by_passes (other n) xs) in
    omega (arith, pigeonhole n (filter (other n) xs) (apart_kept (other n) xs a) low, one_less n xs a)

abbrev pub InRange : ℕ → ℕ → Type 0
InRange limit p = (2 ≤ p) × (p ≤ limit)

-- marks are fewer than the pages: 0 and the marks are apart, and at most limit
pub few_marks : (limit : ℕ) (marks : List ℕ) → Apart marks → AllByRecursion (InRange limit) marks → length marks ≤ limit
few_marks limit marks a r =
    let n = pigeonhole (suc limit) (0 ∷ marks)
    (All-weaker (InRange limit) (λ p. p ≡ 0 → ⊥) (λ p h e. omega arith) marks r, a)
    (omega arith, All-weaker (InRange limit) (λ p. p < suc limit) (λ p h. omega arith) marks r) in
    omega arith

-- 2. pages that are admitted one after the other

pub admitted_range : (limit : ℕ) (ps marks : List ℕ) → AdmittedAll limit marks ps → AllByRecursion (InRange limit) ps
admitted_range limit [] marks h = tt
admitted_range limit (p ∷ ps) marks h = (h.0.0, admitted_range limit ps (p ∷ marks) h.1)

admitted_absent : (limit : ℕ) (ps marks : List ℕ) → AdmittedAll limit marks ps → AllByRecursion (λ p. Absent p marks) ps
admitted_absent limit [] marks h = tt
admitted_absent limit (p ∷ ps) marks h = (h.0.1, All-weaker (λ q. Absent q (p ∷ marks)) (λ q. Absent q marks) (λ q a. a.1) ps (admitted_absent limit ps (p ∷ marks) h.1))

pub admitted_once : (limit : ℕ) (ps marks : List ℕ) → AdmittedAll limit marks ps → Apart ps
admitted_once limit [] marks h = tt
admitted_once limit (p ∷ ps) marks h =
    (All-weaker (λ q. Absent q (p ∷ marks)) (λ q. q ≡ p → ⊥) (λ q a e. a.0 (sym e)) ps (admitted_absent limit ps (p ∷ marks) h.1), admitted_once limit ps (p ∷ marks) h.1)

admitted_after : (limit : ℕ) (ps marks : List ℕ) → AllByRecursion (InRange limit) ps → Apart ps → AllByRecursion (λ p. Absent p marks) ps → AdmittedAll limit marks ps
admitted_after limit [] marks r a b = tt
admitted_after limit (p ∷ ps) marks r a b = (
  (r.0, b.0),
  admitted_after limit ps (p ∷ marks) r.1 a.1 (all_both {P = λ q. q ≡ p → ⊥} {Q = λ q. Absent q marks} {R = λ q. Absent q (p ∷ marks)} (λ q n m. (λ e. n (sym e), m)) ps a.0 b.1),
)

none_absent : (ps : List ℕ) → AllByRecursion (λ p. Absent p []) ps
none_absent [] = tt
none_absent (p ∷ ps) = (tt, none_absent ps)

pub admitted_from : (limit : ℕ) (ps : List ℕ) → AllByRecursion (InRange limit) ps → Apart ps → AdmittedAll limit [] ps
admitted_from limit ps r a = admitted_after limit ps [] r a (none_absent ps)

pub length_marked : (marks ps : List ℕ) → length (marked marks ps) ≡ length marks + length ps
length_marked marks [] = omega arith
length_marked marks (p ∷ ps) = omega (arith, length_marked (p ∷ marks) ps)

-- what is marked is what was marked before, and these pages
pub marked_absent : (p : ℕ) (marks ps : List ℕ) → Absent p (marked marks ps) → Absent p marks × Absent p ps
marked_absent p marks [] h = (h, tt)
marked_absent p marks (q ∷ ps) h = let i = marked_absent p (q ∷ marks) ps h in (i.0.1, (i.0.0, i.1))

pub absent_marked : (p : ℕ) (marks ps : List ℕ) → Absent p marks → Absent p ps → Absent p (marked marks ps)
absent_marked p marks [] a b = a
absent_marked p marks (q ∷ ps) a b = absent_marked p (q ∷ marks) ps (b.0, a) b.1
