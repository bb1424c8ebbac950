-- The loop that goes through the slots.
use Rattle.std.proofs.Common.{◌≡◌, ℕ, zero, suc, ◌+◌, ◌-◌, ◌<◌, ◌≤◌, Bool, true, false, not, eqb, ◌≢◌, List, [], length, get_or, take, set, replicate, sym, refl, ap, ◌∙◌, inl, inr, arith}
use Rattle.std.proofs.lemmas.Bool.{cases_eq, eq-eqb, ne_eqb}
use Rattle.std.proofs.lemmas.List.{length-set, length-take, get_or-take, get_or-set_same, get_or-set_other}
use Rattle.slots.specs.Slot.{number, slot_at, Allowed}
use Rattle.slots.specs.Survey.{Tables}

-- what it knows once it went through the first i slots
pub record Seen (slots : List (List ℕ)) (n i : ℕ) (home : List ℕ) (used : List Bool) : Type 0 where
  pub homes : length home ≡ 1025
  pub marks : length used ≡ 1026
  pub long : (j : ℕ) → j < i → length (get_or slots j []) ≡ 130
  pub low : (j : ℕ) → j < i → number (get_or slots j []) ≤ n
  pub placed : (j : ℕ) → j < i → (number (get_or slots j []) ≡ 0 → ⊥) → get_or home (number (get_or slots j [])) 0 ≡ j + 1
  pub homed : (q : ℕ) → (get_or home q 0 ≡ 0 → ⊥) → number (slot_at slots (get_or home q 0)) ≡ q
  pub reach : (q : ℕ) → get_or home q 0 ≤ i
  pub origin : get_or home 0 0 ≡ 0
  pub marked : (s : ℕ) → 1 ≤ s → s ≤ i → get_or used s false ≡ not (eqb (number (slot_at slots s)) 0)
  pub unmarked : (s : ℕ) → i < s → get_or used s false ≡ false

-- an array of one value
pub same_again : {X : Type 0} (n i : ℕ) (v : X) → get_or (replicate n v) i v ≡ v
same_again zero i v = refl
same_again (suc n) zero v = refl
same_again (suc n) (suc i) v = same_again n i v

pub seen_none : (slots : List (List ℕ)) (n : ℕ) (home : List ℕ) (used : List Bool) → length home ≡ 1025 → length used ≡ 1026
    → ((q : ℕ) → get_or home q 0 ≡ 0) → ((s : ℕ) → get_or used s false ≡ false) → Seen slots n 0 home used
seen_none slots n home used lh lu h u = record {
  homes = lh;
  marks = lu;
  long = λ j l. absurd (omega arith);
  low = λ j l. absurd (omega arith);
  placed = λ j l. absurd (omega arith);
  homed = λ q z. absurd (z (h q));
  reach = λ q. omega (arith, h q);
  origin = h 0;
  marked = λ s a b. absurd (omega arith);
  unmarked = λ s l. u s;
}

module _ (slots : List (List ℕ)) (n i k : ℕ) (home : List ℕ) (used : List Bool) (g : Seen slots n i home used) (lt : i < length (take (n + 1) slots))
    (at : k ≡ number (get_or (take (n + 1) slots) i [])) (wide : length (get_or (take (n + 1) slots) i []) ≡ 130) where
  h : i ≤ n
  h = omega (arith, length-take (n + 1) slots)

  here : get_or (take (n + 1) slots) i [] ≡ get_or slots i []
  here = get_or-take (n + 1) slots i [] (omega (arith, h))

  is : k ≡ number (get_or slots i [])
  is = at ∙ ap number here

  li : length (get_or slots i []) ≡ 130
  li = sym (ap length here) ∙ wide

  -- a number above n, or one that stood before
  pub too_high : n < k → Allowed slots n → ⊥
  too_high z a = let l = a.low i h in omega (arith, is)

  pub twice : (get_or home k 0 ≡ 0 → ⊥) → Allowed slots n → ⊥
  twice z a =
      let r = g.reach k in
      let e = g.homed k z in
      let o = a.once (get_or home k 0 - 1) i (omega arith) h (e ∙ is) in
      let k0 : k ≡ 0 = sym e ∙ o in
      z (ap (λ (q : ℕ). get_or home q 0) k0 ∙ g.origin)

  up : i + 1 - 1 ≡ i
  up = omega arith

  -- a free slot
  pub seen_free : (home' : List ℕ) (used' : List Bool) → k ≡ 0 → home' ≡ home → used' ≡ used → Seen slots n (i + 1) home' used'
  seen_free home' used' z eh eu = rw (eh, eu) (record {
    homes = g.homes;
    marks = g.marks;
    long = λ j l. elim (cases_eq j i) [ inl e ↦ rw e li | inr d ↦ g.long j (omega arith) ];
    low = λ j l. elim (cases_eq j i) [ inl e ↦ rw (e, ← is, z) (omega arith) | inr d ↦ g.low j (omega arith) ];
    placed = λ j l o. elim (cases_eq j i) [ inl e ↦ absurd (o (ap (λ (t : ℕ). number (get_or slots t [])) e ∙ sym is ∙ z)) | inr d ↦ g.placed j (omega arith) o ];
    homed = g.homed;
    reach = λ q. omega (arith, g.reach q);
    origin = g.origin;
    marked = λ s a b. elim (cases_eq s (i + 1)) [
      | inl e ↦ (let t : eqb (number (get_or slots i [])) 0 ≡ true = eq-eqb (number (get_or slots i [])) 0 (sym is ∙ z) in rw (e, up, t) (g.unmarked (i + 1) (omega arith)))
      | inr d ↦ g.marked s a (omega arith)
    ];
    unmarked = λ s l. g.unmarked s (omega arith);
  })

  -- a slot that holds a page
  pub seen_used : (home' : List ℕ) (used' : List Bool) → n ≤ 1024 → k ≤ n → (k ≡ 0 → ⊥) → get_or home k 0 ≡ 0 → home' ≡ set home k (i + 1) → used' ≡ set used (i + 1) true
      → Seen slots n (i + 1) home' used'
  seen_used home' used' few kn k1 z eh eu =
      let same : get_or (set home k (i + 1)) k 0 ≡ i + 1 = get_or-set_same home k (i + 1) 0 (omega (arith, g.homes)) in
      let other : (q : ℕ) → q ≢ k → get_or (set home k (i + 1)) q 0 ≡ get_or home q 0 = λ q d. get_or-set_other home k q (i + 1) 0 d in
      rw (eh, eu) (record {
        homes = length-set home k (i + 1) ∙ g.homes;
        marks = length-set used (i + 1) true ∙ g.marks;
        long = λ j l. elim (cases_eq j i) [ inl e ↦ rw e li | inr d ↦ g.long j (omega arith) ];
        low = λ j l. elim (cases_eq j i) [ inl e ↦ rw (e, ← is) kn | inr d ↦ g.low j (omega arith) ];
        placed = λ j l o. elim (cases_eq j i) [
          | inl e ↦ rw (e, ← is) same
          | inr d ↦ (let p = g.placed j (omega arith) o in
              let nk : number (get_or slots j []) ≢ k = λ m. (let q : get_or home (number (get_or slots j [])) 0 ≡ 0 = ap (λ (t : ℕ). get_or home t 0) m ∙ z in omega arith) in
              other (number (get_or slots j [])) nk ∙ p)
        ];
        homed = λ q o. elim (cases_eq q k) [
          | inl e ↦ rw (e, same, up) (sym is)
          | inr d ↦ rw (other q d) (g.homed q (λ m. o (other q d ∙ m)))
        ];
        reach = λ q. elim (cases_eq q k) [ inl e ↦ rw (e, same) (omega arith) | inr d ↦ rw (other q d) (omega (arith, g.reach q)) ];
        origin = other 0 (λ e. k1 (sym e)) ∙ g.origin;
        marked = λ s a b. elim (cases_eq s (i + 1)) [
          | inl e ↦ (let t : eqb (number (get_or slots i [])) 0 ≡ false = ne_eqb (number (get_or slots i [])) 0 (λ o. k1 (is ∙ o)) in
              rw (e, up, t) (get_or-set_same used (i + 1) true false (omega (arith, g.marks, h))))
          | inr d ↦ get_or-set_other used (i + 1) s true false d ∙ g.marked s a (omega arith)
        ];
        unmarked = λ s l. get_or-set_other used (i + 1) s true false (λ e. omega arith) ∙ g.unmarked s (omega arith);
      })

-- at the end
module _ (slots : List (List ℕ)) (n : ℕ) (home : List ℕ) (used : List Bool) (g : Seen slots n (n + 1) home used) where
  pub seen_allowed : 1 ≤ n → n ≤ 1024 → n < length slots → Allowed slots n
  seen_allowed s f r = record {
    some = s;
    few = f;
    room = r;
    low = λ i h. g.low i (omega arith);
    once = λ i j l h e. elim (cases_eq (number (get_or slots i [])) 0) [
      | inl z ↦ z
      | inr d ↦ absurd (let pi = g.placed i (omega arith) d in let pj = g.placed j (omega arith) (λ z. d (e ∙ z)) in
          let q : get_or home (number (get_or slots i [])) 0 ≡ get_or home (number (get_or slots j [])) 0 = ap (λ (t : ℕ). get_or home t 0) e in omega arith)
    ];
  }

  pub seen_tables : Tables slots n home used
  seen_tables = record {
    homes = g.homes;
    long = λ i h. g.long i (omega arith);
    placed = λ i h. g.placed i (omega arith);
    homed = g.homed;
    reach = g.reach;
    marked = g.marked;
  }
