-- Lists of entries: enter, leave, cut.
use Rattle.std.proofs.Common.{◌≡◌, ℕ, zero, suc, ◌+◌, ◌-◌, ◌<◌, ◌≤◌, Bool, true, false, cond, eqb, leb, List, [], ◌∷◌, ◌++◌, length, sym, refl, ap, ◌∙◌, arith}
use Rattle.std.proofs.lemmas.Bool.{cond-true, cond-false, le-leb, lt-leb, eq-eqb, ne_eqb}
use Rattle.layout.specs.declared.entry.Entry.{Entry}
use Rattle.layout.specs.Content.{LeafKeys}
use Rattle.tree.specs.Tree.{count_at}
use Rattle.tree.specs.CopyMoves.{Split, ahead, cut, enter, fit, remove}
use Rattle.tree.specs.CopyMoves.Split.{one, two}
use Rattle.tree.proofs.CopyBase.{by_eq, by_le}

-- every address at or above lo
abbrev pub From : ℕ → List Entry → Type 0
From lo [] = Unit {0}
From lo (e ∷ es) = (lo ≤ e.key) × From lo es

-- every address at or below hi
abbrev pub Upto : ℕ → List Entry → Type 0
Upto hi [] = Unit {0}
Upto hi (e ∷ es) = (e.key ≤ hi) × Upto hi es

pub from_lower : (lo lo' : ℕ) (es : List Entry) → lo' ≤ lo → From lo es → From lo' es
from_lower lo lo' [] h f = tt
from_lower lo lo' (e ∷ es) h f = (omega (arith, f.0), from_lower lo lo' es h f.1)

pub upto_higher : (hi hi' : ℕ) (es : List Entry) → hi ≤ hi' → Upto hi es → Upto hi' es
upto_higher hi hi' [] h f = tt
upto_higher hi hi' (e ∷ es) h f = (omega (arith, f.0), upto_higher hi hi' es h f.1)

pub from_append : (lo : ℕ) (xs ys : List Entry) → From lo xs → From lo ys → From lo (xs ++ ys)
from_append lo [] ys f g = g
from_append lo (x ∷ xs) ys f g = (f.0, from_append lo xs ys f.1 g)

pub upto_append : (hi : ℕ) (xs ys : List Entry) → Upto hi xs → Upto hi ys → Upto hi (xs ++ ys)
upto_append hi [] ys f g = g
upto_append hi (x ∷ xs) ys f g = (f.0, upto_append hi xs ys f.1 g)

pub rising_from : (lo hi : ℕ) (es : List Entry) → LeafKeys lo hi es → From lo es
rising_from lo hi [] r = tt
rising_from lo hi (e ∷ es) r = (r.0, from_lower (suc e.key) lo es (omega (arith, r.0)) (rising_from (suc e.key) hi es r.3))

pub rising_upto : (lo hi : ℕ) (es : List Entry) → LeafKeys lo hi es → Upto hi es
rising_upto lo hi [] r = tt
rising_upto lo hi (e ∷ es) r = (r.1, rising_upto (suc e.key) hi es r.3)

-- One step of `enter` before an append, whatever the two tests say: a lemma over the tests as variables
-- goes by clauses, where the tests themselves do not compute.
enter_step : (b c : Bool) (d e x : Entry) (xs ys r r' : List Entry) → r ≡ r' ++ ys →
    cond b (cond c (d ∷ (xs ++ ys)) (e ∷ (x ∷ (xs ++ ys)))) (x ∷ r) ≡ cond b (cond c (d ∷ xs) (e ∷ (x ∷ xs))) (x ∷ r') ++ ys
enter_step true true d e x xs ys r r' h = refl
enter_step true false d e x xs ys r r' h = refl
enter_step false c d e x xs ys r r' h = ap (λ (z : List Entry). x ∷ z) h

-- an address below all of ys is entered in xs, one above all of xs in ys
pub enter_left : (a k : ℕ) (xs ys : List Entry) → a ≤ k → From (suc k) ys → enter a (xs ++ ys) ≡ enter a xs ++ ys
enter_left a k [] [] h f = refl
enter_left a k [] (y ∷ ys) h f =
    let le : a ≤ y.key = omega (arith, f.0) in
    let ne : a ≡ y.key → ⊥ = λ e. omega (arith, f.0) in
    cond-true (leb a y.key) _ _ (le-leb a y.key le) ∙ cond-false (eqb a y.key) _ _ (ne_eqb a y.key ne)
enter_left a k (x ∷ xs) ys h f = enter_step (leb a x.key) (eqb a x.key) _ _ x xs ys _ _ (enter_left a k xs ys h f)

pub enter_right : (a k : ℕ) (xs ys : List Entry) → k < a → Upto k xs → enter a (xs ++ ys) ≡ xs ++ enter a ys
enter_right a k [] ys h u = refl
enter_right a k (x ∷ xs) ys h u =
    cond-false (leb a x.key) _ _ (lt-leb a x.key (omega (arith, u.0))) ∙ ap (λ (z : List Entry). x ∷ z) (enter_right a k xs ys h u.1)

remove_step : (b c : Bool) (d x : Entry) (xs ys r r' : List Entry) → r ≡ r' ++ ys →
    cond b (cond c (xs ++ ys) (d ∷ (xs ++ ys))) (x ∷ r) ≡ cond b (cond c xs (d ∷ xs)) (x ∷ r') ++ ys
remove_step true true d x xs ys r r' h = refl
remove_step true false d x xs ys r r' h = refl
remove_step false c d x xs ys r r' h = ap (λ (z : List Entry). x ∷ z) h

-- an address that is nowhere leaves the list as it is
pub remove_none : (a k : ℕ) (ys : List Entry) → a ≤ k → From (suc k) ys → remove a ys ≡ ys
remove_none a k [] h f = refl
remove_none a k (y ∷ ys) h f =
    let ne : a ≡ y.key → ⊥ = λ e. omega (arith, f.0) in
    cond-false (eqb a y.key) _ _ (ne_eqb a y.key ne) ∙ ap (λ (z : List Entry). y ∷ z) (remove_none a k ys h f.1)

pub remove_left : (a k : ℕ) (xs ys : List Entry) → a ≤ k → From (suc k) ys → remove a (xs ++ ys) ≡ remove a xs ++ ys
remove_left a k [] ys h f = remove_none a k ys h f
remove_left a k (x ∷ xs) ys h f = remove_step (eqb a x.key) (leb x.value 1) _ x xs ys _ _ (remove_left a k xs ys h f)

pub remove_right : (a k : ℕ) (xs ys : List Entry) → k < a → Upto k xs → remove a (xs ++ ys) ≡ xs ++ remove a ys
remove_right a k [] ys h u = refl
remove_right a k (x ∷ xs) ys h u =
    let ne : a ≡ x.key → ⊥ = λ e. omega (arith, u.0) in
    cond-false (eqb a x.key) _ _ (ne_eqb a x.key ne) ∙ ap (λ (z : List Entry). x ∷ z) (remove_right a k xs ys h u.1)

-- entering and leaving keep the order
pub rising_wider : (lo hi lo' hi' : ℕ) (es : List Entry) → lo' ≤ lo → hi ≤ hi' → LeafKeys lo hi es → LeafKeys lo' hi' es
rising_wider lo hi lo' hi' [] l h r = tt
rising_wider lo hi lo' hi' (e ∷ es) l h r =
    (omega (arith, r.0), omega (arith, r.1), r.2, rising_wider (suc e.key) hi (suc e.key) hi' es (omega arith) h r.3)

pub enter_rising : (a lo hi : ℕ) (es : List Entry) → lo ≤ a → a ≤ hi → LeafKeys lo hi es → LeafKeys lo hi (enter a es)
enter_rising a lo hi [] l h r = (l, h, omega arith, tt)
enter_rising a lo hi (e ∷ es) l h r =
    by_le (LeafKeys lo hi) a e.key _ _
    (λ le. by_eq (LeafKeys lo hi) a e.key _ _
    (λ eq. (l, h, omega arith, rising_wider (suc e.key) hi (suc a) hi es (omega arith) (omega arith) r.3))
    (λ ne. (l, h, omega arith, (omega arith, r.1, r.2, r.3))))
    (λ gt. (r.0, r.1, r.2, enter_rising a (suc e.key) hi es (omega arith) h r.3))

pub remove_rising : (a lo hi : ℕ) (es : List Entry) → LeafKeys lo hi es → LeafKeys lo hi (remove a es)
remove_rising a lo hi [] r = tt
remove_rising a lo hi (e ∷ es) r =
    by_eq (LeafKeys lo hi) a e.key _ _
    (λ eq. by_le (LeafKeys lo hi) e.value 1 _ _
    (λ le. rising_wider (suc e.key) hi lo hi es (omega (arith, r.0)) (omega arith) r.3)
    (λ gt. (omega (arith, r.0), omega (arith, r.1), omega arith, rising_wider (suc e.key) hi (suc a) hi es (omega arith) (omega arith) r.3)))
    (λ ne. (r.0, r.1, r.2, remove_rising a (suc e.key) hi es r.3))

-- at most one entry more, and at least one
pub enter_length : (a : ℕ) (es : List Entry) → (1 ≤ length (enter a es)) × (length (enter a es) ≤ suc (length es))
enter_length a [] = (omega arith, omega arith)
enter_length a (e ∷ es) =
    let P : List Entry → Type 0 = λ z. (1 ≤ length z) × (length z ≤ suc (suc (length es))) in
    let ih = enter_length a es in
    by_le P a e.key _ _
    (λ le. by_eq P a e.key _ _ (λ eq. (omega arith, omega arith)) (λ ne. (omega arith, omega arith)))
    (λ gt. (omega arith, omega arith))

pub remove_length : (a : ℕ) (es : List Entry) → length (remove a es) ≤ length es
remove_length a [] = omega arith
remove_length a (e ∷ es) =
    let P : List Entry → Type 0 = λ z. length z ≤ suc (length es) in
    let ih = remove_length a es in
    by_eq P a e.key _ _ (λ eq. by_le P e.value 1 _ _ (λ le. omega arith) (λ gt. omega arith)) (λ ne. omega arith)

-- lookup: one more of the address entered, the others as they were
pub enter_same : (a : ℕ) (es : List Entry) → count_at (enter a es) a ≡ suc (count_at es a)
enter_same a [] = rw (eq-eqb a a refl)
enter_same a (e ∷ es) =
    let P : List Entry → Type 0 = λ z. count_at z a ≡ suc (count_at (e ∷ es) a) in
    by_le P a e.key _ _
    (λ le. by_eq P a e.key _ _
    (λ eq. rw (eq-eqb a a refl, eq-eqb e.key a (sym eq)) (omega arith))
    (λ ne. rw (eq-eqb a a refl) (omega arith)))
    (λ gt. omega (arith, enter_same a es))

pub enter_other : (a b : ℕ) (es : List Entry) → (a ≡ b → ⊥) → count_at (enter a es) b ≡ count_at es b
enter_other a b [] ne = rw (ne_eqb a b ne)
enter_other a b (e ∷ es) ne =
    let P : List Entry → Type 0 = λ z. count_at z b ≡ count_at (e ∷ es) b in
    by_le P a e.key _ _
    (λ le. by_eq P a e.key _ _
    (λ eq. rw (ne_eqb a b ne, ne_eqb e.key b (λ q. ne (eq ∙ q))))
    (λ n. rw (ne_eqb a b ne) (omega arith)))
    (λ gt. ap (λ (z : ℕ). cond (eqb e.key b) e.value 0 + z) (enter_other a b es ne))

-- an address below a rising list has no count there
pub count_below : (a lo hi : ℕ) (es : List Entry) → a < lo → LeafKeys lo hi es → count_at es a ≡ 0
count_below a lo hi [] h r = refl
count_below a lo hi (e ∷ es) h r =
    rw (ne_eqb e.key a (λ q. omega (arith, r.0)))
    (omega (arith, count_below a (suc e.key) hi es (omega (arith, r.0)) r.3))

pub remove_same : (a lo hi : ℕ) (es : List Entry) → LeafKeys lo hi es → count_at (remove a es) a ≡ count_at es a - 1
remove_same a lo hi [] r = refl
remove_same a lo hi (e ∷ es) r =
    let P : List Entry → Type 0 = λ z. count_at z a ≡ count_at (e ∷ es) a - 1 in
    by_eq P a e.key _ _
    (λ eq.
    let none : count_at es a ≡ 0 = count_below a (suc e.key) hi es (omega arith) r.3 in
    by_le P e.value 1 _ _
    (λ le. rw (eq-eqb e.key a (sym eq)) (omega arith))
    (λ gt. rw (eq-eqb a a refl, eq-eqb e.key a (sym eq)) (omega arith)))
    (λ ne. rw (ne_eqb e.key a (λ q. ne (sym q))) (omega (arith, remove_same a (suc e.key) hi es r.3)))

pub remove_other : (a b : ℕ) (es : List Entry) → (a ≡ b → ⊥) → count_at (remove a es) b ≡ count_at es b
remove_other a b [] ne = refl
remove_other a b (e ∷ es) ne =
    let P : List Entry → Type 0 = λ z. count_at z b ≡ count_at (e ∷ es) b in
    by_eq P a e.key _ _
    (λ eq. by_le P e.value 1 _ _
    (λ le. rw (ne_eqb e.key b (λ q. ne (eq ∙ q))) (omega arith))
    (λ gt. rw (ne_eqb a b ne, ne_eqb e.key b (λ q. ne (eq ∙ q)))))
    (λ n. ap (λ (z : ℕ). cond (eqb e.key b) e.value 0 + z) (remove_other a b es ne))

-- What a split list of entries holds, and its order; the sizes of a cut.
abbrev pub all_of : Split (List Entry) → List Entry
all_of (one xs) = xs
all_of (two xs k ys) = xs ++ ys

abbrev pub RisingSplit : Split (List Entry) → ℕ → ℕ → Type 0
RisingSplit (one xs) lo hi = LeafKeys lo hi xs
RisingSplit (two xs k ys) lo hi = (lo ≤ k) × (k < hi) × LeafKeys lo k xs × LeafKeys (suc k) hi ys

abbrev pub Sizes : Split (List Entry) → ℕ → ℕ → Type 0
Sizes (one xs) i n = ⊥
Sizes (two xs k ys) i n = (length xs ≡ suc i) × (length xs + length ys ≡ n)

ahead_all : (e : Entry) (s : Split (List Entry)) → all_of (ahead e s) ≡ e ∷ all_of s
ahead_all e (one xs) = refl
ahead_all e (two xs k ys) = refl

pub cut_all : (i : ℕ) (es : List Entry) → all_of (cut i es) ≡ es
cut_all zero [] = refl
cut_all zero (e ∷ []) = refl
cut_all zero (e ∷ (d ∷ es)) = refl
cut_all (suc i) [] = refl
cut_all (suc i) (e ∷ es) = ahead_all e (cut i es) ∙ ap (λ (z : List Entry). e ∷ z) (cut_all i es)

ahead_rising : (e : Entry) (s : Split (List Entry)) (lo hi : ℕ) → lo ≤ e.key → e.key ≤ hi → 1 ≤ e.value → RisingSplit s (suc e.key) hi → RisingSplit (ahead e s) lo hi
ahead_rising e (one xs) lo hi l h c r = (l, h, c, r)
ahead_rising e (two xs k ys) lo hi l h c r = (omega (arith, r.0), r.1, (l, omega (arith, r.0), c, r.2), r.3)

pub cut_rising : (i : ℕ) (es : List Entry) (lo hi : ℕ) → LeafKeys lo hi es → RisingSplit (cut i es) lo hi
cut_rising zero [] lo hi r = r
cut_rising zero (e ∷ []) lo hi r = r
cut_rising zero (e ∷ (d ∷ es)) lo hi r = (r.0, omega (arith, r.3.0, r.3.1), (r.0, omega arith, r.2, tt), r.3)
cut_rising (suc i) [] lo hi r = r
cut_rising (suc i) (e ∷ es) lo hi r = ahead_rising e (cut i es) lo hi r.0 r.1 r.2 (cut_rising i es (suc e.key) hi r.3)

ahead_sizes : (e : Entry) (s : Split (List Entry)) (i n : ℕ) → Sizes s i n → Sizes (ahead e s) (suc i) (suc n)
ahead_sizes e (one xs) i n z = z
ahead_sizes e (two xs k ys) i n z = (omega (arith, z.0), omega (arith, z.1))

pub cut_sizes : (i : ℕ) (es : List Entry) → suc i < length es → Sizes (cut i es) i (length es)
cut_sizes zero [] h = absurd (omega arith)
cut_sizes zero (e ∷ []) h = absurd (omega arith)
cut_sizes zero (e ∷ (d ∷ es)) h = (omega arith, omega arith)
cut_sizes (suc i) [] h = absurd (omega arith)
cut_sizes (suc i) (e ∷ es) h = ahead_sizes e (cut i es) i (length es) (cut_sizes i es (omega arith))

-- the split of a page that has grown by one
pub fit_all : (es : List Entry) → all_of (fit es) ≡ es
fit_all es = by_le (λ (s : Split (List Entry)). all_of s ≡ es) (length es) 10 _ _ (λ _. refl) (λ _. cut_all 5 es)

pub fit_rising : (es : List Entry) (lo hi : ℕ) → LeafKeys lo hi es → RisingSplit (fit es) lo hi
fit_rising es lo hi r = by_le (λ (s : Split (List Entry)). RisingSplit s lo hi) (length es) 10 _ _ (λ _. r) (λ _. cut_rising 5 es lo hi r)

abbrev pub FullSplit : Split (List Entry) → Type 0
FullSplit (one xs) = (1 ≤ length xs) × (length xs ≤ 10)
FullSplit (two xs k ys) = (1 ≤ length xs) × (length xs ≤ 10) × (1 ≤ length ys) × (length ys ≤ 10)

full_sizes : (s : Split (List Entry)) → Sizes s 5 11 → FullSplit s
full_sizes (one xs) z = absurd z
full_sizes (two xs k ys) z = (omega (arith, z.0), omega (arith, z.0), omega (arith, z.0, z.1), omega (arith, z.0, z.1))

pub fit_full : (es : List Entry) → 1 ≤ length es → length es ≤ 11 → FullSplit (fit es)
fit_full es l h = by_le FullSplit (length es) 10 _ _ (λ le. (l, le))
    (λ gt. let e : length es ≡ 11 = omega arith in full_sizes (cut 5 es) (rw e at (cut_sizes 5 es (omega arith))))
