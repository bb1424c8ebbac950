-- Lemmas on the numbers that are not bad.
use Rattle.std.proofs.Common.{◌≡◌, ℕ, zero, suc, ◌+◌, ◌-◌, ◌<◌, ◌≤◌, Bool, true, false, cond, not, eqb, List, [], ◌∷◌, ◌++◌, length, get_or, take, filter, refl, ap, ◌∙◌, append-nil, arith}
use Rattle.std.specs.List.{range_with_len, AllByRecursion}
use Rattle.std.proofs.lemmas.Bool.{eq-eqb, ne_eqb}
use Rattle.std.proofs.lemmas.List.Elements.{filter-append}
use Rattle.std.proofs.ByRecursion.{All-weaker, All-take, all_kept_by}
use Rattle.pages.specs.Skip.{among, good, Rises}
use Rattle.pages.specs.Sizes.{rises_by}

-- numbers from a on, in two runs
pub counting_split : (a n k : ℕ) → range_with_len a (n + k) ≡ range_with_len a n ++ range_with_len (a + n) k
counting_split a zero k = let e : 0 + k ≡ k = omega arith in let f : a + 0 ≡ a = omega arith in rw (e, f)
counting_split a (suc n) k =
    let e : suc n + k ≡ suc (n + k) = omega arith in let f : a + suc n ≡ a + 1 + n = omega arith in rw (e, f, counting_split (a + 1) n k)

counting_above : (low a n : ℕ) → low < a → AllByRecursion (λ k. low < k) (range_with_len a n)
counting_above low a zero h = tt
counting_above low a (suc n) h = (h, counting_above low (a + 1) n (omega arith))

counting_below : (high a n : ℕ) → a + n ≤ high → AllByRecursion (λ k. k < high) (range_with_len a n)
counting_below high a zero h = tt
counting_below high a (suc n) h = (omega arith, counting_below high (a + 1) n (omega arith))

counting_rises : (low a n : ℕ) → low < a → Rises low (range_with_len a n)
counting_rises low a zero h = tt
counting_rises low a (suc n) h = (h, counting_rises a (a + 1) n (omega arith))

-- what a filter keeps depends on what it answers only
kept_same : (p q : ℕ → Bool) (xs : List ℕ) → AllByRecursion (λ x. p x ≡ q x) xs → filter p xs ≡ filter q xs
kept_same p q [] a = refl
kept_same p q (x ∷ xs) a = rw (a.0, kept_same p q xs a.1)

kept_all : (p : ℕ → Bool) (xs : List ℕ) → AllByRecursion (λ x. p x ≡ true) xs → filter p xs ≡ xs
kept_all p [] a = refl
kept_all p (x ∷ xs) a = rw (a.0, kept_all p xs a.1)

-- a number above all bad ones is none of them
not_among : (low k : ℕ) (bad : List ℕ) → low < k → AllByRecursion (λ b. b ≤ low) bad → among k bad ≡ false
not_among low k [] h a = refl
not_among low k (b ∷ bad) h a = let e : eqb k b ≡ false = ne_eqb k b (λ z. (let l = a.0 in omega arith)) in rw (e, not_among low k bad h a.1)

among_push : (k b : ℕ) (bad : List ℕ) → among k (bad ++ b ∷ []) ≡ cond (among k bad) true (eqb k b)
among_push k b [] = elim (eqb k b) as (λ t. cond t true false ≡ t) [ true ↦ refl | false ↦ refl ]
among_push k b (a ∷ bad) = elim (eqb k a) as (λ t. cond t true (among k (bad ++ b ∷ [])) ≡ cond (cond t true (among k bad)) true (eqb k b)) [ true ↦ refl | false ↦ among_push k b bad ]

among_last : (last b : ℕ) (bad : List ℕ) → last < b → AllByRecursion (λ k. k ≤ last) bad → among b (bad ++ b ∷ []) ≡ true
among_last last b bad h a =
    let t : eqb b b ≡ true = eq-eqb b b refl in let f : among b bad ≡ false = not_among last b bad h a in
    among_push b b bad ∙ rw (f, t)

among_other : (k b : ℕ) (bad : List ℕ) → (k ≡ b → ⊥) → among k (bad ++ b ∷ []) ≡ among k bad
among_other k b bad n =
    let f : eqb k b ≡ false = ne_eqb k b n in
    among_push k b bad ∙ rw f (elim (among k bad) as (λ t. cond t true false ≡ t) [ true ↦ refl | false ↦ refl ])

-- past the last bad number all are good
pub good_rest : (bad : List ℕ) (last n : ℕ) → last ≤ n → AllByRecursion (λ b. b ≤ last) bad → good bad n ≡ good bad last ++ range_with_len (last + 1) (n - last)
unfolding good
good_rest bad last n h a =
    let p : ℕ → Bool = λ k. not (among k bad) in
    let e : range_with_len 1 n ≡ range_with_len 1 last ++ range_with_len (last + 1) (n - last) =
    (let s : n ≡ last + (n - last) = omega arith in let t : last + 1 ≡ 1 + last = omega arith in rw t (ap (range_with_len 1) s ∙ counting_split 1 last (n - last))) in
    ap (filter p) e ∙ filter-append p (range_with_len 1 last) (range_with_len (last + 1) (n - last))
    ∙ ap (λ (ys : List ℕ). filter p (range_with_len 1 last) ++ ys)
    (kept_all p (range_with_len (last + 1) (n - last))
    (All-weaker (λ k. last < k) (λ k. p k ≡ true) (λ k l. ap not (not_among last k bad l a)) (range_with_len (last + 1) (n - last)) (counting_above last (last + 1) (n - last) (omega arith))))

-- one bad number more, above those before
pub good_more : (bad : List ℕ) (last b : ℕ) → last < b → AllByRecursion (λ k. k ≤ last) bad → good (bad ++ b ∷ []) b ≡ good bad last ++ range_with_len (last + 1) (b - 1 - last)
unfolding good
good_more bad last b h a =
    let q : ℕ → Bool = λ k. not (among k (bad ++ b ∷ [])) in
    let p : ℕ → Bool = λ k. not (among k bad) in
    let e : range_with_len 1 b ≡ range_with_len 1 (b - 1) ++ b ∷ [] =
    (let s : b ≡ b - 1 + 1 = omega arith in let t : 1 + (b - 1) ≡ b = omega arith in ap (range_with_len 1) s ∙ counting_split 1 (b - 1) 1 ∙ ap (λ (k : ℕ). range_with_len 1 (b - 1) ++ k ∷ []) t) in
    let gone : q b ≡ false = ap not (among_last last b bad h a) in
    let same : AllByRecursion (λ k. q k ≡ p k) (range_with_len 1 (b - 1)) =
    All-weaker (λ k. k < b) (λ k. q k ≡ p k) (λ k l. ap not (among_other k b bad (λ z. omega arith))) (range_with_len 1 (b - 1)) (counting_below b 1 (b - 1) (omega arith)) in
    let tail : filter q (b ∷ []) ≡ [] = rw gone in
    ap (filter q) e ∙ filter-append q (range_with_len 1 (b - 1)) (b ∷ [])
    ∙ ap (λ (ys : List ℕ). filter q (range_with_len 1 (b - 1)) ++ ys) tail ∙ append-nil (filter q (range_with_len 1 (b - 1)))
    ∙ kept_same q p (range_with_len 1 (b - 1)) same ∙ good_rest bad last (b - 1) (omega arith) a

-- the good numbers rise, from 1 on, and are numbers of the store
rises_lower : (low high : ℕ) (ks : List ℕ) → low ≤ high → Rises high ks → Rises low ks
rises_lower low high [] h r = tt
rises_lower low high (k ∷ ks) h r = (omega arith, r.1)

kept_rises : (p : ℕ → Bool) (low : ℕ) (ks : List ℕ) → Rises low ks → Rises low (filter p ks)
kept_rises p low [] r = tt
kept_rises p low (k ∷ ks) r =
    elim (p k) as (λ t. Rises low (cond t (k ∷ filter p ks) (filter p ks))) [ true ↦ (r.0, kept_rises p k ks r.1) | false ↦ rises_lower low k (filter p ks) (omega arith) (kept_rises p k ks r.1) ]

take_rises : (n low : ℕ) (ks : List ℕ) → Rises low ks → Rises low (take n ks)
take_rises zero low ks r = tt
take_rises (suc n) low [] r = tt
take_rises (suc n) low (k ∷ ks) r = (r.0, take_rises n k ks r.1)

pub good_rises : (bad : List ℕ) (n m : ℕ) → Rises 0 (take m (good bad n))
unfolding good
good_rises bad n m = take_rises m 0 (good bad n) (kept_rises (λ k. not (among k bad)) 0 (range_with_len 1 n) (counting_rises 0 1 n (omega arith)))

pub good_within : (bad : List ℕ) (n m : ℕ) → AllByRecursion (λ k. k ≤ n) (take m (good bad n))
unfolding good
good_within bad n m =
    All-take (λ k. k ≤ n) m (good bad n) (all_kept_by (λ k. not (among k bad)) (λ k. k ≤ n) (range_with_len 1 n)
    (All-weaker (λ k. k < n + 1) (λ k. k ≤ n) (λ k l. omega arith) (range_with_len 1 n) (counting_below (n + 1) 1 n (omega arith))))

-- by places: the later number is the greater
pub rises_apart : (low : ℕ) (ks : List ℕ) → Rises low ks → (i j : ℕ) → i < j → j < length ks → get_or ks i 0 < get_or ks j 0
rises_apart low [] r i j g h = absurd (omega arith)
rises_apart low (k ∷ ks) r i zero g h = absurd (omega arith)
rises_apart low (k ∷ ks) r zero (suc j) g h = rises_by k ks r.1 j (omega arith)
rises_apart low (k ∷ ks) r (suc i) (suc j) g h = rises_apart k ks r.1 i j (omega arith) (omega arith)
