-- What a slot store keeps of its slots and tables, and how a write moves it.
use Rattle.std.proofs.Common.{◌≡◌, ℕ, zero, suc, ◌+◌, ◌-◌, ◌^◌, ◌<◌, ◌≤◌, true, false, cond, eqb, ◌≢◌, List, [], ◌∷◌, length, get_or, take, drop, set, replicate, sym, refl, ap, ◌∙◌, subst, inl, inr, mod-eq_of_lt, arith, get_or-set_other, get_or-set_same}
use Rattle.std.specs.List.{AllByRecursion}
use Rattle.std.proofs.ByRecursion.{All-weaker}
use Rattle.std.proofs.lemmas.Nat.{mod-pow-add}
use Rattle.std.proofs.lemmas.Bool.{cases_eq, eq-eqb, ne_eqb}
use Rattle.std.proofs.lemmas.List.{length-set, length-take, get_or-take, length-drop}
use Rattle.records.specs.Chain.{Absent}
use Rattle.slots.specs.Slot.{number, filled, freed, slot_at, holder, page_in}

pub number_filled : (p : ℕ) (bytes : List ℕ) → p < 2 ^ 16 → number (filled p bytes) ≡ p
number_filled p bytes h = omega (arith, mod-pow-add p 8 8, mod-eq_of_lt h)

-- the slot of each page is in `home`, and the free slots are those in `free`
pub record Sound (slots : List (List ℕ)) (home free : List ℕ) (n : ℕ) : Type 0 where
  pub homes : length home ≡ 1025
  pub few : n ≤ 1024
  pub room : n < length slots
  pub long : (i : ℕ) → i ≤ n → length (get_or slots i []) ≡ 130
  pub low : (i : ℕ) → i ≤ n → number (get_or slots i []) ≤ n
  pub placed : (i : ℕ) → i ≤ n → (number (get_or slots i []) ≡ 0 → ⊥) → get_or home (number (get_or slots i [])) 0 ≡ i + 1
  pub homed : (q : ℕ) → 1 ≤ q → (get_or home q 0 ≡ 0 → ⊥) → number (slot_at slots (get_or home q 0)) ≡ q
  pub reach : (q : ℕ) → get_or home q 0 ≤ n + 1
  pub listed : (i : ℕ) → i ≤ n → number (get_or slots i []) ≡ 0 → Absent (i + 1) free → ⊥
  pub vacant : AllByRecursion (λ s. number (slot_at slots s) ≡ 0) free
  pub bound : AllByRecursion (λ s. s ≤ n + 1) free

-- the page q by its slot in `home`
abbrev pub by_home : List (List ℕ) → List ℕ → ℕ → List ℕ
by_home slots home q = cond (eqb (get_or home q 0) 0) (replicate 128 0) (drop 2 (slot_at slots (get_or home q 0)))

-- where a number stands first, and where it stands nowhere
holder_at : (slots : List (List ℕ)) (i q : ℕ) → i < length slots → number (get_or slots i []) ≡ q → ((j : ℕ) → j < i → number (get_or slots j []) ≡ q → ⊥)
    → holder slots q ≡ i + 1
unfolding holder
holder_at [] i q h e n = absurd (omega arith)
holder_at (x ∷ xs) zero q h e n = let t : eqb (number x) q ≡ true = eq-eqb (number x) q e in rw t
holder_at (x ∷ xs) (suc i) q h e n =
    let t : eqb (number x) q ≡ false = ne_eqb (number x) q (n 0 (omega arith)) in
    let r : holder xs q ≡ suc i = holder_at xs i q (omega arith) e (λ j l. n (suc j) (omega arith)) ∙ omega arith in
    let f : suc (suc i) ≡ suc i + 1 = omega arith in
    rw (t, r) f

holder_none : (slots : List (List ℕ)) (q : ℕ) → ((j : ℕ) → j < length slots → number (get_or slots j []) ≡ q → ⊥) → holder slots q ≡ 0
unfolding holder
holder_none [] q n = refl
holder_none (x ∷ xs) q n =
    let t : eqb (number x) q ≡ false = ne_eqb (number x) q (n 0 (omega arith)) in
    let r : holder xs q ≡ 0 = holder_none xs q (λ j l. n (suc j) (omega arith)) in
    rw (t, r)

module _ (slots : List (List ℕ)) (home free : List ℕ) (n : ℕ) (S : Sound slots home free n) where
  front_at : (j : ℕ) → j < length (take (n + 1) slots) → (j ≤ n) × (get_or (take (n + 1) slots) j [] ≡ get_or slots j [])
  front_at j h =
      let l : j < n + 1 = omega (arith, length-take (n + 1) slots) in
      (omega arith, get_or-take (n + 1) slots j [] l)

  -- `home` has the slot of each page
  pub holder_is : (q : ℕ) → 1 ≤ q → holder (take (n + 1) slots) q ≡ get_or home q 0
  holder_is q p =
      elim (cases_eq (get_or home q 0) 0) [
        | inl z ↦ (holder_none (take (n + 1) slots) q (λ j l e. (let f = front_at j l in
            let e' : number (get_or slots j []) ≡ q = sym (ap number f.1) ∙ e in
            let h = S.placed j f.0 (λ o. omega arith) in
            let g : get_or home (number (get_or slots j [])) 0 ≡ get_or home q 0 = ap (λ (k : ℕ). get_or home k 0) e' in omega arith)) ∙ sym z)
        | inr z ↦ (let r = S.reach q in
            let i : get_or home q 0 - 1 < length (take (n + 1) slots) = rw (length-take (n + 1) slots) (omega (arith, S.room)) in
            let f = front_at (get_or home q 0 - 1) i in
            holder_at (take (n + 1) slots) (get_or home q 0 - 1) q i (ap number f.1 ∙ S.homed q p z)
            (λ j l e. (let fj = front_at j (omega arith) in
            let e' : number (get_or slots j []) ≡ q = sym (ap number fj.1) ∙ e in
            let h = S.placed j fj.0 (λ o. omega arith) in
            let g : get_or home (number (get_or slots j [])) 0 ≡ get_or home q 0 = ap (λ (k : ℕ). get_or home k 0) e' in omega arith))
            ∙ omega arith)
      ]

  pub page_is : (q : ℕ) → 1 ≤ q → page_in (take (n + 1) slots) q ≡ by_home slots home q
  page_is q p =
      let e = holder_is q p in
      elim (cases_eq (get_or home q 0) 0) [
        | inl z ↦ (let t : eqb (get_or home q 0) 0 ≡ true = eq-eqb (get_or home q 0) 0 z in rw (e, t))
        | inr z ↦ (let r = S.reach q in
            let t : eqb (get_or home q 0) 0 ≡ false = ne_eqb (get_or home q 0) 0 z in
            let i : get_or home q 0 - 1 < length (take (n + 1) slots) = rw (length-take (n + 1) slots) (omega (arith, S.room)) in
            rw (e, t, (front_at (get_or home q 0 - 1) i).1))
      ]

-- the fact P at each of some numbers, where it may fail at another alone
all_other : (P Q : ℕ → Type 0) (k : ℕ) (xs : List ℕ) → ((x : ℕ) → (x ≡ k → ⊥) → P x → Q x) → Absent k xs → AllByRecursion P xs → AllByRecursion Q xs
all_other P Q k [] f a h = tt
all_other P Q k (x ∷ xs) f a h = (f x a.0 h.0, all_other P Q k xs f a.1 h.1)

-- the page p leaves its slot
module _ (slots : List (List ℕ)) (home free : List ℕ) (n p old : ℕ) (S : Sound slots home free n) (p1 : 1 ≤ p) (pn : p ≤ n) (is : get_or home p 0 ≡ old) (o1 : old ≡ 0 → ⊥) (y : List ℕ) (ye : y ≡ freed (slot_at slots old)) where
  on : old - 1 ≤ n
  on = let r = S.reach p in omega arith

  held_p : number (slot_at slots old) ≡ p
  held_p = subst (λ (k : ℕ). number (slot_at slots k) ≡ p) is (S.homed p p1 (λ z. o1 (sym is ∙ z)))

  y_long : length y ≡ 130
  y_long = let l = S.long (old - 1) on in rw (ye, length-drop 2 (slot_at slots old)) (omega arith)

  y_number : number y ≡ 0
  y_number = ap number ye

  in_slots : old - 1 < length slots
  in_slots = omega (arith, S.room, on)

  same_y : get_or (set slots (old - 1) y) (old - 1) [] ≡ y
  same_y = get_or-set_same slots (old - 1) y [] in_slots

  other_y : (i : ℕ) → i ≢ old - 1 → get_or (set slots (old - 1) y) i [] ≡ get_or slots i []
  other_y i d = get_or-set_other slots (old - 1) i y [] d

  pub home_p : get_or (set home p 0) p 0 ≡ 0
  home_p = get_or-set_same home p 0 0 (omega (arith, S.homes, S.few))

  home_q : (q : ℕ) → q ≢ p → get_or (set home p 0) q 0 ≡ get_or home q 0
  home_q q d = get_or-set_other home p q 0 0 d

  -- the slot of another page is another
  apart : (q : ℕ) → 1 ≤ q → q ≢ p → (get_or home q 0 ≡ 0 → ⊥) → get_or home q 0 - 1 ≢ old - 1
  apart q q1 d z e = d (sym (S.homed q q1 z) ∙ ap (λ (i : ℕ). number (get_or slots i [])) e ∙ held_p)

  moved : (q : ℕ) → 1 ≤ q → q ≢ p → (get_or home q 0 ≡ 0 → ⊥) → slot_at (set slots (old - 1) y) (get_or home q 0) ≡ slot_at slots (get_or home q 0)
  moved q q1 d z = other_y (get_or home q 0 - 1) (apart q q1 d z)

  placed' : (i : ℕ) → i ≤ n → (number (get_or (set slots (old - 1) y) i []) ≡ 0 → ⊥)
      → get_or (set home p 0) (number (get_or (set slots (old - 1) y) i [])) 0 ≡ i + 1
  placed' i h z =
      elim (cases_eq i (old - 1)) [
        | inl e ↦ absurd (z (ap (λ (j : ℕ). number (get_or (set slots (old - 1) y) j [])) e ∙ ap number same_y ∙ y_number))
        | inr d ↦ (let z' : number (get_or slots i []) ≡ 0 → ⊥ = λ o. z (ap number (other_y i d) ∙ o) in
            let g = S.placed i h z' in
            let d' : number (get_or slots i []) ≢ p = λ o. (let k : get_or home (number (get_or slots i [])) 0 ≡ old = ap (λ (j : ℕ). get_or home j 0) o ∙ is in d (omega arith)) in
            ap (λ (x : List ℕ). get_or (set home p 0) (number x) 0) (other_y i d) ∙ home_q (number (get_or slots i [])) d' ∙ g)
      ]

  homed' : (q : ℕ) → 1 ≤ q → (get_or (set home p 0) q 0 ≡ 0 → ⊥) → number (slot_at (set slots (old - 1) y) (get_or (set home p 0) q 0)) ≡ q
  homed' q q1 z =
      elim (cases_eq q p) [
        | inl e ↦ absurd (z (ap (λ (j : ℕ). get_or (set home p 0) j 0) e ∙ home_p))
        | inr d ↦ (let z' : get_or home q 0 ≡ 0 → ⊥ = λ o. z (home_q q d ∙ o) in
            ap (λ (k : ℕ). number (slot_at (set slots (old - 1) y) k)) (home_q q d) ∙ ap number (moved q q1 d z') ∙ S.homed q q1 z')
      ]

  pub released : Sound (set slots (old - 1) y) (set home p 0) (old ∷ free) n
  released = record {
    homes = length-set home p 0 ∙ S.homes;
    few = S.few;
    room = rw (length-set slots (old - 1) y) S.room;
    long = λ i h. elim (cases_eq i (old - 1)) [ inl e ↦ rw (e, same_y) y_long | inr d ↦ rw (other_y i d) (S.long i h) ];
    low = λ i h. elim (cases_eq i (old - 1)) [ inl e ↦ rw (e, same_y, y_number) (omega arith) | inr d ↦ rw (other_y i d) (S.low i h) ];
    placed = placed';
    homed = homed';
    reach = λ q. elim (cases_eq q p) [ inl e ↦ rw (e, home_p) (omega arith) | inr d ↦ rw (home_q q d) (S.reach q) ];
    listed = λ i h z a. elim (cases_eq i (old - 1)) [ inl e ↦ a.0 (omega arith) | inr d ↦ S.listed i h (sym (ap number (other_y i d)) ∙ z) a.1 ];
    vacant = (
      ap number same_y ∙ y_number,
      All-weaker (λ s. number (slot_at slots s) ≡ 0) (λ s. number (slot_at (set slots (old - 1) y) s) ≡ 0)
          (λ s v. elim (cases_eq (s - 1) (old - 1)) [ inl e ↦ ap (λ (j : ℕ). number (get_or (set slots (old - 1) y) j [])) e ∙ ap number same_y ∙ y_number | inr d ↦ ap number (other_y (s - 1) d) ∙ v ]) free S.vacant,
    );
    bound = (let r = S.reach p in omega arith, S.bound);
  }

  pub page_released : (q : ℕ) → 1 ≤ q → q ≢ p → by_home (set slots (old - 1) y) (set home p 0) q ≡ by_home slots home q
  page_released q q1 d =
      elim (cases_eq (get_or home q 0) 0) [
        | inl z ↦ (let t : eqb (get_or home q 0) 0 ≡ true = eq-eqb (get_or home q 0) 0 z in rw (home_q q d, t))
        | inr z ↦ rw (home_q q d, moved q q1 d z)
      ]

-- the order of the free slots does not matter
pub swapped : (slots : List (List ℕ)) (home free : List ℕ) (n a b : ℕ) → Sound slots home (a ∷ (b ∷ free)) n → Sound slots home (b ∷ (a ∷ free)) n
swapped slots home free n a b S = record {
  homes = S.homes;
  few = S.few;
  room = S.room;
  long = S.long;
  low = S.low;
  placed = S.placed;
  homed = S.homed;
  reach = S.reach;
  listed = λ i h z m. S.listed i h z (m.1.0, (m.0, m.1.1));
  vacant = (S.vacant.1.0, (S.vacant.0, S.vacant.1.1));
  bound = (S.bound.1.0, (S.bound.0, S.bound.1.1));
}

-- the front free slot receives a page that has none
module _ (slots : List (List ℕ)) (home rest : List ℕ) (n s p : ℕ) (x bytes : List ℕ) (S : Sound slots home (s ∷ rest) n) (xe : x ≡ filled p bytes) (lb : length bytes ≡ 128)
    (s1 : 1 ≤ s) (r1 : AllByRecursion (λ k. 1 ≤ k) rest) (a : Absent s rest) (p1 : 1 ≤ p) (pn : p ≤ n) (none : get_or home p 0 ≡ 0) where
  x_long : length x ≡ 130
  x_long = rw xe (omega arith)

  x_number : number x ≡ p
  x_number = ap number xe ∙ number_filled p bytes (omega (arith, S.few))

  sn : s - 1 ≤ n
  sn = let b = S.bound.0 in omega arith

  same_x : get_or (set slots (s - 1) x) (s - 1) [] ≡ x
  same_x = get_or-set_same slots (s - 1) x [] (omega (arith, S.room, sn))

  other_x : (i : ℕ) → i ≢ s - 1 → get_or (set slots (s - 1) x) i [] ≡ get_or slots i []
  other_x i d = get_or-set_other slots (s - 1) i x [] d

  home_s : get_or (set home p s) p 0 ≡ s
  home_s = get_or-set_same home p s 0 (omega (arith, S.homes, S.few))

  home_o : (q : ℕ) → q ≢ p → get_or (set home p s) q 0 ≡ get_or home q 0
  home_o q d = get_or-set_other home p q s 0 d

  stays : (q : ℕ) → 1 ≤ q → (get_or home q 0 ≡ 0 → ⊥) → slot_at (set slots (s - 1) x) (get_or home q 0) ≡ slot_at slots (get_or home q 0)
  stays q q1 z = other_x (get_or home q 0 - 1) (λ e. (let v : number (slot_at slots s) ≡ 0 = S.vacant.0 in let h = S.homed q q1 z in
      let g : number (slot_at slots (get_or home q 0)) ≡ number (slot_at slots s) = ap (λ (i : ℕ). number (get_or slots i [])) e in omega arith))

  placed'' : (i : ℕ) → i ≤ n → (number (get_or (set slots (s - 1) x) i []) ≡ 0 → ⊥) → get_or (set home p s) (number (get_or (set slots (s - 1) x) i [])) 0 ≡ i + 1
  placed'' i h z =
      elim (cases_eq i (s - 1)) [
        | inl e ↦ (let m : number (get_or (set slots (s - 1) x) i []) ≡ p = ap (λ (j : ℕ). number (get_or (set slots (s - 1) x) j [])) e ∙ ap number same_x ∙ x_number in
            ap (λ (k : ℕ). get_or (set home p s) k 0) m ∙ home_s ∙ omega arith)
        | inr d ↦ (let z' : number (get_or slots i []) ≡ 0 → ⊥ = λ o. z (ap number (other_x i d) ∙ o) in
            let g = S.placed i h z' in
            let d' : number (get_or slots i []) ≢ p = λ o. (let k : get_or home (number (get_or slots i [])) 0 ≡ 0 = ap (λ (j : ℕ). get_or home j 0) o ∙ none in omega arith) in
            ap (λ (w : List ℕ). get_or (set home p s) (number w) 0) (other_x i d) ∙ home_o (number (get_or slots i [])) d' ∙ g)
      ]

  homed'' : (q : ℕ) → 1 ≤ q → (get_or (set home p s) q 0 ≡ 0 → ⊥) → number (slot_at (set slots (s - 1) x) (get_or (set home p s) q 0)) ≡ q
  homed'' q q1 z =
      elim (cases_eq q p) [
        | inl e ↦ ap (λ (k : ℕ). number (slot_at (set slots (s - 1) x) k)) (ap (λ (j : ℕ). get_or (set home p s) j 0) e ∙ home_s) ∙ ap number same_x ∙ x_number ∙ sym e
        | inr d ↦ (let z' : get_or home q 0 ≡ 0 → ⊥ = λ o. z (home_o q d ∙ o) in
            ap (λ (k : ℕ). number (slot_at (set slots (s - 1) x) k)) (home_o q d) ∙ ap number (stays q q1 z') ∙ S.homed q q1 z')
      ]

  still_vacant : (ks : List ℕ) → AllByRecursion (λ k. 1 ≤ k) ks → Absent s ks → AllByRecursion (λ k. number (slot_at slots k) ≡ 0) ks → AllByRecursion (λ k. number (slot_at (set slots (s - 1) x) k) ≡ 0) ks
  still_vacant [] o b v = tt
  still_vacant (k ∷ ks) o b v =
      let k1 = o.0 in let d : k - 1 ≢ s - 1 = λ e. b.0 (omega arith) in
      (ap number (other_x (k - 1) d) ∙ v.0, still_vacant ks o.1 b.1 v.1)

  pub fill : Sound (set slots (s - 1) x) (set home p s) rest n
  fill = record {
    homes = length-set home p s ∙ S.homes;
    few = S.few;
    room = rw (length-set slots (s - 1) x) S.room;
    long = λ i h. elim (cases_eq i (s - 1)) [ inl e ↦ rw (e, same_x) x_long | inr d ↦ rw (other_x i d) (S.long i h) ];
    low = λ i h. elim (cases_eq i (s - 1)) [ inl e ↦ rw (e, same_x, x_number) pn | inr d ↦ rw (other_x i d) (S.low i h) ];
    placed = placed'';
    homed = homed'';
    reach = λ q. elim (cases_eq q p) [ inl e ↦ rw (e, home_s) S.bound.0 | inr d ↦ rw (home_o q d) (S.reach q) ];
    listed = λ i h z m. elim (cases_eq i (s - 1)) [
      | inl e ↦ (let w : number (get_or (set slots (s - 1) x) i []) ≡ p = ap (λ (j : ℕ). number (get_or (set slots (s - 1) x) j [])) e ∙ ap number same_x ∙ x_number in omega arith)
      | inr d ↦ S.listed i h (sym (ap number (other_x i d)) ∙ z) (λ o. d (omega arith), m)
    ];
    vacant = still_vacant rest r1 a S.vacant.1;
    bound = S.bound.1;
  }

  pub page_filled : (q : ℕ) → 1 ≤ q → by_home (set slots (s - 1) x) (set home p s) q ≡ cond (eqb q p) bytes (by_home slots home q)
  page_filled q q1 =
      elim (cases_eq q p) [
        | inl e ↦ (let t : eqb q p ≡ true = eq-eqb q p e in let u : eqb s 0 ≡ false = ne_eqb s 0 (λ o. omega arith) in
            let hs : get_or (set home p s) q 0 ≡ s = ap (λ (j : ℕ). get_or (set home p s) j 0) e ∙ home_s in
            rw (t, hs, u, same_x, xe))
        | inr d ↦ (let t : eqb q p ≡ false = ne_eqb q p d in
            elim (cases_eq (get_or home q 0) 0) [
              | inl z ↦ (let v : eqb (get_or home q 0) 0 ≡ true = eq-eqb (get_or home q 0) 0 z in rw (t, home_o q d, v))
              | inr z ↦ rw (t, home_o q d, stays q q1 z)
            ])
      ]
