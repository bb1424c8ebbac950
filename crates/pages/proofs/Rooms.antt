-- Lemmas on a table with room for 1,024 numbers.
use Rattle.std.proofs.Common.{◌≡◌, ℕ, zero, suc, ◌+◌, ◌-◌, ◌<◌, ◌≤◌, List, [], ◌∷◌, ◌++◌, length, min, take, Ok, Err, Result, refl, sym, ap, ◌∙◌, append_assoc, append-nil, arith}
use Rattle.std.specs.Prelude.{IsOk, OnOk, OnErr, ◌↔◌}
use Rattle.std.specs.List.{range_with_len}
use Rattle.std.proofs.lemmas.List.{length-take, length-append, take_all, take-append-le}
use Rattle.pages.proofs.Goods.{counting_split}

-- a table that was full before is full after
pub room_again : (n : ℕ) (xs ys : List ℕ) → take n (take n xs ++ ys) ≡ take n (xs ++ ys)
room_again zero xs ys = refl
room_again (suc n) [] ys = refl
room_again (suc n) (x ∷ xs) ys = ap (λ (zs : List ℕ). x ∷ zs) (room_again n xs ys)

-- one number more, where there is room
pushed : {E : Type 0} (r : Result (Unit {0}) E) (xs ys zs : List ℕ) (k : ℕ) → xs ≡ take 1024 zs
    → IsOk r ↔ (length xs < 1024) → OnOk r (ys ≡ xs ++ k ∷ []) → OnErr r (ys ≡ xs) → OnErr r (length xs ≡ 1024) → ys ≡ take 1024 (zs ++ k ∷ [])
pushed (Ok _) xs ys zs k e v a b f =
    let n : length xs ≡ min 1024 (length zs) = ap length e ∙ length-take 1024 zs in
    let h : length zs < 1024 = omega (arith, v.0 refl) in
    let z : xs ≡ zs = e ∙ take_all 1024 zs (omega arith) in
    let l : length (zs ++ k ∷ []) ≤ 1024 = rw (length-append zs (k ∷ [])) (omega arith) in
    a ∙ ap (λ (ks : List ℕ). ks ++ k ∷ []) z ∙ sym (take_all 1024 (zs ++ k ∷ []) l)
pushed (Err _) xs ys zs k e v a b f =
    let n : length xs ≡ min 1024 (length zs) = ap length e ∙ length-take 1024 zs in
    b ∙ e ∙ sym (take-append-le 1024 zs (k ∷ []) (omega arith))

-- the filling of a table of the numbers xs: its start, and its turn from k to k + 1
pub fill_start : (xs : List ℕ) (after : ℕ) → length xs ≤ 1024 → xs ≡ take 1024 (xs ++ range_with_len (after + 1) (after - after))
fill_start xs after h = let z : after - after ≡ 0 = omega arith in rw (z, append-nil) (sym (take_all 1024 xs h))

pub fill_more : {E : Type 0} (r : Result (Unit {0}) E) (first xs ys : List ℕ) (after k : ℕ) → after ≤ k → xs ≡ take 1024 (first ++ range_with_len (after + 1) (k - after))
    → IsOk r ↔ (length xs < 1024) → OnOk r (ys ≡ xs ++ (k + 1) ∷ []) → OnErr r (ys ≡ xs) → OnErr r (length xs ≡ 1024)
    → ys ≡ take 1024 (first ++ range_with_len (after + 1) (k + 1 - after))
fill_more r first xs ys after k h e v a b f =
    let g : k + 1 - after ≡ k - after + 1 = omega arith in
    let l : after + 1 + (k - after) ≡ k + 1 = omega arith in
    pushed r xs ys (first ++ range_with_len (after + 1) (k - after)) (k + 1) e v a b f
    ∙ ap (take 1024) (append_assoc first (range_with_len (after + 1) (k - after)) ((k + 1) ∷ []))
    ∙ ap (λ (ks : List ℕ). take 1024 (first ++ ks))
    (sym (ap (range_with_len (after + 1)) g ∙ counting_split (after + 1) (k - after) 1 ∙ ap (λ (j : ℕ). range_with_len (after + 1) (k - after) ++ j ∷ []) l))
