-- The row order's address is the number with the coordinates as digits.
use Rattle.std.proofs.Common.{◌≡◌, ℕ, zero, suc, ◌+◌, ◌*◌, ◌/◌, ◌%◌, ◌^◌, ◌<◌, ◌≤◌, List, length, get_or, set, refl, ap, ◌∙◌, ap₂, add-zero, add-suc, mod-eq_of_lt, mul_assoc, suc-mul, add-mul, pow-suc, zero-mul, mul-one, div-one, arith, length-set, get_or-set_other, get_or-set_same, set-set}
use native.Mathlib.Nat.{mod-one, pow-zero}
use lib.Seq.{set-get_or}
use lib.Pow.{mod-pow-add}
use Rattle.std.proofs.lemmas.Nat.{div-mul-add}
use Rattle.orders.specs.Interleave.{address_of, halved}
use Rattle.orders.specs.Rules.{row_turn, row_digits, RowIs}
use Rattle.orders.specs.Laws.{half_shr}

mod_more : (x r : ℕ) → x % 2 ^ suc r ≡ (x / 2 % 2 ^ r) * 2 + x % 2
mod_more x r = ap (λ k. x % 2 ^ k) (omega arith) ∙ mod-pow-add x r 1

-- the last r bits dealt are those of the coordinate k
digit : (p k r : ℕ) (xs : List ℕ) → r ≤ p → k < length xs → address_of (row_turn p) (k * p + r) xs ≡ address_of (row_turn p) (k * p) (set xs k (get_or xs k 0 / 2 ^ r)) * 2 ^ r + get_or xs k 0 % 2 ^ r
digit p k zero xs le in-xs = simp (add-zero, pow-zero, div-one, mod-one, set-get_or, mul-one)
digit p k (suc r) xs le in-xs =
    let x : ℕ = get_or xs k 0 in
    let turn : (k * p + r) / p ≡ k = div-mul-add k p r le in
    let in-h : k < length (halved xs k) = omega (arith, length-set xs k (x / 2)) in
    let rec = digit p k r (halved xs k) (omega arith) in-h in
    let A : ℕ = address_of (row_turn p) (k * p) (set xs k (x / 2 / 2 ^ r)) in
    let rec' : address_of (row_turn p) (k * p + r) (halved xs k) ≡ A * 2 ^ r + x / 2 % 2 ^ r =
    rw (get_or-set_same xs k (x / 2) 0 in-xs, set-set) at rec in
    rw (add-suc, turn, rec', half_shr x r, mod_more x r, pow-suc) (omega (arith, mul_assoc A (2 ^ r) 2, add-mul (A * 2 ^ r) (x / 2 % 2 ^ r) 2))

fold_set : (p m k v : ℕ) (xs : List ℕ) → m ≤ k → row_digits m p (set xs k v) ≡ row_digits m p xs
fold_set p zero k v xs le = refl
fold_set p (suc m) k v xs le =
    ap₂ (λ a b. a * 2 ^ p + b) (fold_set p m k v xs (omega arith)) (get_or-set_other xs k m v 0 (λ e. omega arith))

folded : (p k : ℕ) (xs : List ℕ) → k ≤ length xs → ((j : ℕ) → j < k → get_or xs j 0 < 2 ^ p) → address_of (row_turn p) (k * p) xs ≡ row_digits k p xs
folded p zero xs le lt = rw zero-mul
folded p (suc k) xs le lt =
    let v : ℕ = get_or xs k 0 / 2 ^ p in
    let ys : List ℕ = set xs k v in
    let small : (j : ℕ) → j < k → get_or ys j 0 < 2 ^ p = λ j less. rw (get_or-set_other xs k j v 0 (λ e. omega arith)) (lt j (omega arith)) in
    let rec = folded p k ys (omega (arith, length-set xs k v)) small ∙ fold_set p k k v xs (omega arith) in
    let whole = lt k (omega arith) in
    rw suc-mul (digit p k p xs (omega arith) le ∙ ap₂ (λ a b. a * 2 ^ p + b) rec (mod-eq_of_lt whole))

pub row_is : (n p : ℕ) → RowIs n p
row_is n p range xs inside = folded p n xs (omega (arith, inside.0, range.1)) inside.1
