-- A write of a slot store, by whether the page was in a slot before.
use Rattle.std.proofs.Common.{◌≡◌, ℕ, zero, suc, ◌+◌, ◌-◌, ◌<◌, ◌≤◌, true, false, cond, eqb, ◌≢◌, List, [], ◌∷◌, map, length, get_or, take, drop, set, sym, ap, ◌∙◌, subst, inl, inr, arith}
use Rattle.std.specs.List.{range_with_len, AllByRecursion}
use Rattle.std.proofs.lemmas.Bool.{cases_eq, eq-eqb, ne_eqb}
use Rattle.std.proofs.lemmas.List.FromFn.{length-map-range_with_len, get_or-map-range_with_len}
use Rattle.std.proofs.lemmas.List.{length-set, set-set, set_comm, drop-set-lt, get_or-set_same, get_or-set_other, ext_get_or}
use Rattle.records.specs.Chain.{Absent, Distinct, Within}
use Rattle.records.proofs.Pigeons.{pigeons}
use Rattle.slots.specs.Slot.{number, filled, freed, slot_at, holder, page_in, stored, returned}
use Rattle.slots.proofs.Moves.{Sound, by_home, holder_is, page_is, released, home_p, page_released, swapped, fill, page_filled}

-- a list made by numbers from 1 on, with one of its elements replaced
replaced : (f g : ℕ → List ℕ) (n p : ℕ) (bytes : List ℕ) → 1 ≤ p → p ≤ n → ((q : ℕ) → 1 ≤ q → q ≤ n → g q ≡ cond (eqb q p) bytes (f q))
    → map g (range_with_len 1 n) ≡ set (map f (range_with_len 1 n)) (p - 1) bytes
replaced f g n p bytes p1 pn h =
    ext_get_or [] (map g (range_with_len 1 n)) (set (map f (range_with_len 1 n)) (p - 1) bytes)
    (length-map-range_with_len g 1 n ∙ sym (length-set (map f (range_with_len 1 n)) (p - 1) bytes ∙ length-map-range_with_len f 1 n))
    (λ i l. (let i' : i < n = rw (length-map-range_with_len g 1 n) at l in
    get_or-map-range_with_len g 1 n i (i + 1) [] i' (omega arith) ∙ h (i + 1) (omega arith) (omega arith)
    ∙ elim (cases_eq (i + 1) p) [
      | inl e ↦ (let t : eqb (i + 1) p ≡ true = eq-eqb (i + 1) p e in
          let ie : p - 1 ≡ i = omega arith in
          let lt : i < length (map f (range_with_len 1 n)) = rw (length-map-range_with_len f 1 n) i' in
          rw (t, ie) (sym (get_or-set_same (map f (range_with_len 1 n)) i bytes [] lt)))
      | inr d ↦ (let t : eqb (i + 1) p ≡ false = ne_eqb (i + 1) p d in
          let o : i ≢ p - 1 = λ e. d (omega arith) in
          rw t (sym (get_or-set_other (map f (range_with_len 1 n)) (p - 1) i bytes [] o ∙ get_or-map-range_with_len f 1 n i (i + 1) [] i' (omega arith))))
    ]))

-- There is always a free slot: n + 1 slots with numbers from 1 to n would have one twice.
absent_map : (f : ℕ → ℕ) (v a n : ℕ) → ((j : ℕ) → a ≤ j → j < a + n → f j ≡ v → ⊥) → Absent v (map f (range_with_len a n))
absent_map f v a zero h = tt
absent_map f v a (suc n) h = (h a (omega arith) (omega arith), absent_map f v (a + 1) n (λ j l g. h j (omega arith) (omega arith)))

distinct_map : (f : ℕ → ℕ) (a n : ℕ) → ((i j : ℕ) → a ≤ i → i < j → j < a + n → f j ≡ f i → ⊥) → Distinct (map f (range_with_len a n))
distinct_map f a zero h = tt
distinct_map f a (suc n) h =
    (absent_map f (f a) (a + 1) n (λ j l g. h a j (omega arith) (omega arith) (omega arith)), distinct_map f (a + 1) n (λ i j l g k. h i j (omega arith) g (omega arith)))

all_map : (f : ℕ → ℕ) (P : ℕ → Type 0) (a n : ℕ) → ((i : ℕ) → a ≤ i → i < a + n → P (f i)) → AllByRecursion P (map f (range_with_len a n))
all_map f P a zero h = tt
all_map f P a (suc n) h = (h a (omega arith) (omega arith), all_map f P (a + 1) n (λ i l g. h i (omega arith) (omega arith)))

pub never_full : (slots : List (List ℕ)) (home : List ℕ) (n : ℕ) → Sound slots home [] n → ⊥
never_full slots home n S =
    let f : ℕ → ℕ = λ i. number (get_or slots i []) - 1 in
    let used : (i : ℕ) → i ≤ n → number (get_or slots i []) ≡ 0 → ⊥ = λ i h z. S.listed i h z tt in
    let d : Distinct (map f (range_with_len 0 (n + 1))) =
    distinct_map f 0 (n + 1) (λ i j l g k e.
    (let ui = used i (omega arith) in let uj = used j (omega arith) in
    let e' : number (get_or slots j []) ≡ number (get_or slots i []) = omega arith in
    let pi = S.placed i (omega arith) ui in let pj = S.placed j (omega arith) uj in
    let h : get_or home (number (get_or slots j [])) 0 ≡ get_or home (number (get_or slots i [])) 0 = ap (λ (k : ℕ). get_or home k 0) e' in omega arith)) in
    let b : AllByRecursion (λ k. k < n) (map f (range_with_len 0 (n + 1))) =
    all_map f (λ k. k < n) 0 (n + 1) (λ i l g. (let u = used i (omega arith) in let w = S.low i (omega arith) in omega arith)) in
    let c = pigeons n (map f (range_with_len 0 (n + 1))) d b in
    omega (arith, length-map-range_with_len f 0 (n + 1))

-- what a write of the page p leaves
pub record Wrote (slots : List (List ℕ)) (free : List ℕ) (n s p : ℕ) (bytes : List ℕ) (slots' : List (List ℕ)) (home' free' : List ℕ) : Type 0 where
  pub sound : Sound slots' home' free' n
  pub pages : map (page_in (take (n + 1) slots')) (range_with_len 1 n) ≡ set (map (page_in (take (n + 1) slots)) (range_with_len 1 n)) (p - 1) bytes
  pub slots_are : slots' ≡ stored slots s (holder (take (n + 1) slots) p) p bytes
  pub free_are : free' ≡ returned (holder (take (n + 1) slots) p) free
  pub past_are : drop (n + 1) slots' ≡ drop (n + 1) slots

module _ (slots : List (List ℕ)) (home rest : List ℕ) (n s p : ℕ) (x bytes : List ℕ) (S : Sound slots home (s ∷ rest) n) (xe : x ≡ filled p bytes) (lb : length bytes ≡ 128)
    (w : Within (s ∷ rest)) (a : Absent s rest) (p1 : 1 ≤ p) (pn : p ≤ n) where
  positive : (ks : List ℕ) → Within ks → AllByRecursion (λ k. 1 ≤ k) ks
  positive [] h = tt
  positive (k ∷ ks) h = (h.0.0, positive ks h.1)

  sn : s - 1 < n + 1
  sn = let b = S.bound.0 in let c = w.0.0 in omega arith

  pages_by : (slots' : List (List ℕ)) (home' free' : List ℕ) → Sound slots' home' free' n
      → ((q : ℕ) → 1 ≤ q → by_home slots' home' q ≡ cond (eqb q p) bytes (by_home slots home q))
      → map (page_in (take (n + 1) slots')) (range_with_len 1 n) ≡ set (map (page_in (take (n + 1) slots)) (range_with_len 1 n)) (p - 1) bytes
  pages_by slots' home' free' S' h =
      replaced (page_in (take (n + 1) slots)) (page_in (take (n + 1) slots')) n p bytes p1 pn
      (λ q q1 qn. page_is slots' home' free' n S' q q1 ∙ h q q1 ∙ ap (cond (eqb q p) bytes) (sym (page_is slots home (s ∷ rest) n S q q1)))

  -- the page was in no slot
  module _ (none : get_or home p 0 ≡ 0) where
    holder_none : eqb (holder (take (n + 1) slots) p) 0 ≡ true
    holder_none = eq-eqb (holder (take (n + 1) slots) p) 0 (holder_is slots home (s ∷ rest) n S p p1 ∙ none)

    pub wrote_first : Wrote slots (s ∷ rest) n s p bytes (set slots (s - 1) x) (set home p s) rest
    wrote_first =
        let F = fill slots home rest n s p x bytes S xe lb w.0.0 (positive rest w.1) a p1 pn none in
        record {
          sound = F;
          pages = pages_by (set slots (s - 1) x) (set home p s) rest F (page_filled slots home rest n s p x bytes S xe lb w.0.0 (positive rest w.1) a p1 pn none);
          slots_are = rw (holder_none, xe);
          free_are = rw holder_none;
          past_are = drop-set-lt (n + 1) slots (s - 1) x sn;
        }

  -- it was in the slot old
  module _ (old : ℕ) (is : get_or home p 0 ≡ old) (o1 : old ≡ 0 → ⊥) (y : List ℕ) (ye : y ≡ freed (slot_at slots old)) where
    R : Sound (set slots (old - 1) y) (set home p 0) (s ∷ (old ∷ rest)) n
    R = swapped (set slots (old - 1) y) (set home p 0) rest n old s (released slots home (s ∷ rest) n p old S p1 pn is o1 y ye)

    no_slot : get_or (set home p 0) p 0 ≡ 0
    no_slot = home_p slots home (s ∷ rest) n p old S p1 pn is o1 y ye

    differ : s - 1 ≢ old - 1
    differ e =
        let v : number (slot_at slots s) ≡ 0 = S.vacant.0 in
        let h : number (slot_at slots old) ≡ p = subst (λ (k : ℕ). number (slot_at slots k) ≡ p) is (S.homed p p1 (λ z. o1 (sym is ∙ z))) in
        let g : number (slot_at slots s) ≡ number (slot_at slots old) = ap (λ (i : ℕ). number (get_or slots i [])) e in omega arith

    absent : Absent s (old ∷ rest)
    absent = (λ e. differ (ap (λ (k : ℕ). k - 1) (sym e)), a)

    positives : AllByRecursion (λ k. 1 ≤ k) (old ∷ rest)
    positives = (omega arith, positive rest w.1)

    slots_swap : set (set slots (old - 1) y) (s - 1) x ≡ set (set slots (s - 1) x) (old - 1) y
    slots_swap = sym (set_comm slots (s - 1) (old - 1) x y differ)

    F : Sound (set (set slots (old - 1) y) (s - 1) x) (set (set home p 0) p s) (old ∷ rest) n
    F = fill (set slots (old - 1) y) (set home p 0) (old ∷ rest) n s p x bytes R xe lb w.0.0 positives absent p1 pn no_slot

    G : Sound (set (set slots (s - 1) x) (old - 1) y) (set home p s) (old ∷ rest) n
    G = subst (λ (h : List ℕ). Sound (set (set slots (s - 1) x) (old - 1) y) h (old ∷ rest) n) (set-set home p 0 s)
        (subst (λ (z : List (List ℕ)). Sound z (set (set home p 0) p s) (old ∷ rest) n) slots_swap F)

    by : (q : ℕ) → 1 ≤ q → by_home (set (set slots (s - 1) x) (old - 1) y) (set home p s) q ≡ cond (eqb q p) bytes (by_home slots home q)
    by q q1 =
        ap (λ (h : List ℕ). by_home (set (set slots (s - 1) x) (old - 1) y) h q) (sym (set-set home p 0 s))
        ∙ ap (λ (z : List (List ℕ)). by_home z (set (set home p 0) p s) q) (sym slots_swap)
        ∙ page_filled (set slots (old - 1) y) (set home p 0) (old ∷ rest) n s p x bytes R xe lb w.0.0 positives absent p1 pn no_slot q q1
        ∙ elim (cases_eq q p) [
          | inl e ↦ (let t : eqb q p ≡ true = eq-eqb q p e in rw t)
          | inr d ↦ (let t : eqb q p ≡ false = ne_eqb q p d in rw t (page_released slots home (s ∷ rest) n p old S p1 pn is o1 y ye q q1 d))
        ]

    holder_old : holder (take (n + 1) slots) p ≡ old
    holder_old = holder_is slots home (s ∷ rest) n S p p1 ∙ is

    not_none : eqb old 0 ≡ false
    not_none = ne_eqb old 0 o1

    low_old : old - 1 < n + 1
    low_old = let r = S.reach p in omega arith

    pub wrote_again : Wrote slots (s ∷ rest) n s p bytes (set (set slots (s - 1) x) (old - 1) y) (set home p s) (old ∷ rest)
    wrote_again = record {
      sound = G;
      pages = pages_by (set (set slots (s - 1) x) (old - 1) y) (set home p s) (old ∷ rest) G by;
      slots_are = rw (holder_old, not_none, xe, ye);
      free_are = rw (holder_old, not_none);
      past_are = drop-set-lt (n + 1) (set slots (s - 1) x) (old - 1) y low_old ∙ drop-set-lt (n + 1) slots (s - 1) x sn;
    }
