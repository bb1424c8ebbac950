-- Taking pages from a free list and putting a path back.
use Rattle.std.proofs.Common.{◌≡◌, ℕ, ◌+◌, ◌<◌, ◌≤◌, List, [], ◌∷◌, ◌++◌, reverse, length, get_or, take, drop, Some, None, Ok, Err, Option, Result, sym, ap, ◌∙◌, subst, suc, add-one, arith}
use Rattle.std.proofs.Math.Seq.{take-suc}
use Rattle.std.proofs.lemmas.List.{drop-drop, reverse-append, append_assoc, take-append-drop}
use Rattle.records.specs.Chain.{Absent, Takes, Puts}
use Rattle.tree.specs.Tree.{Apart}
use Rattle.index.specs.Freed.{FitsList}

pub taken_more : (i : ℕ) (all xs ys : List ℕ) (r : Option ℕ) → xs ≡ drop i all → Takes xs r ys → ys ≡ drop (i + 1) all
taken_more i all xs ys (Some k) e t = ap (drop 1) (sym t.3 ∙ e) ∙ drop-drop 1 i all
taken_more i all xs ys None e t = t.1 ∙ ap (drop 1) (sym t.0 ∙ e) ∙ drop-drop 1 i all

-- what stands behind a part of a path is apart where the whole is, and fits where the whole does
apart_behind : (ws xs : List ℕ) → Apart (ws ++ xs) → Apart xs
apart_behind [] xs a = a
apart_behind (w ∷ ws) xs a = apart_behind ws xs a.1

fits_behind : (ws xs : List ℕ) → FitsList (ws ++ xs) → FitsList xs
fits_behind [] xs f = f
fits_behind (w ∷ ws) xs f = fits_behind ws xs f.1

-- what stands in front of the first pages of a path, when it is put back from the front on
abbrev behind : ℕ → List ℕ → List ℕ
behind i path = reverse (drop (suc i) path)

one_more : (i : ℕ) (path : List ℕ) → i < length path → reverse (take (suc i) path) ≡ get_or path i 0 ∷ reverse (take i path)
one_more i path lt = ap reverse (take-suc path i 0 lt) ∙ reverse-append (take i path) (get_or path i 0 ∷ [])

whole : (i : ℕ) (path : List ℕ) → i < length path → reverse path ≡ behind i path ++ (get_or path i 0 ∷ reverse (take i path))
whole i path lt =
    ap reverse (sym (take-append-drop (suc i) path)) ∙ reverse-append (take (suc i) path) (drop (suc i) path)
    ∙ ap (λ xs. behind i path ++ xs) (one_more i path lt)

-- one page of the path more
put_one : (i : ℕ) (path before now after : List ℕ) (r : Result (Unit {0}) ℕ) → i < length path → FitsList (reverse path) → Apart (reverse path ++ before)
    → now ≡ reverse (take i path) ++ before → Puts (get_or path i 0) now r after → after ≡ reverse (take (suc i) path) ++ before
put_one i path before now after (Ok u) lt fits apart e put =
    put.3 ∙ ap (λ xs. get_or path i 0 ∷ xs) e ∙ sym (ap (λ xs. xs ++ before) (one_more i path lt))
put_one i path before now after (Err j) lt fits apart e put =
    let p = get_or path i 0 in
    let to_come = p ∷ reverse (take i path) in
    let f : FitsList to_come = fits_behind (behind i path) to_come (subst (λ xs. FitsList xs) (whole i path lt) fits) in
    let a : Apart (to_come ++ before) =
    apart_behind (behind i path) (to_come ++ before)
    (subst (λ xs. Apart xs) (ap (λ xs. xs ++ before) (whole i path lt) ∙ append_assoc (behind i path) to_come before) apart) in
    absurd (put.1 f.0.0 f.0.1 (subst (λ xs. Absent p xs) (sym e) a.0))

pub given_more : (i : ℕ) (path before now after : List ℕ) (r : Result (Unit {0}) ℕ) → i < length path
    → (FitsList (reverse path) → Apart (reverse path ++ before) → now ≡ reverse (take i path) ++ before) → Puts (get_or path i 0) now r after
    → FitsList (reverse path) → Apart (reverse path ++ before) → after ≡ reverse (take (i + 1) path) ++ before
given_more i path before now after r lt inv put fits apart = rw (add-one i) (put_one i path before now after r lt fits apart (inv fits apart) put)
