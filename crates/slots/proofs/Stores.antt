-- A slot store by what it keeps: its making and its write.
use Rattle.std.proofs.Common.{◌≡◌, ℕ, zero, suc, ◌+◌, ◌-◌, ◌<◌, ◌≤◌, min, max, Bool, true, false, cond, not, eqb, ◌≢◌, List, [], ◌∷◌, length, get_or, take, drop, set, replicate, Some, Ok, filter, Result, sym, refl, ap, ◌∙◌, subst, inl, inr, arith}
use Rattle.std.proofs.lemmas.List.{length-drop, take_all, length-set, get_or-set_other}
use Rattle.std.specs.List.{range_with_len, AllByRecursion}
use Rattle.std.proofs.ByRecursion.{All-get_or, All-from_get_or, All-weaker, all_kept_by, kept_by_passes}
use Rattle.std.proofs.lemmas.Bool.{cases_eq, eq-eqb, ne_eqb, eqb-true}
use Rattle.std.proofs.lemmas.List.FromFn.{get_or-map-range_with_len}
use Rattle.pages.specs.Image.{at}
use Rattle.records.specs.Chain.{Absent, Within, unmarked, Takes, Puts}
use Rattle.records.specs.Free.{numbers}
use Rattle.records.proofs.Frees.{numbers_within}
use Rattle.records.proofs.Rising.{put_sure}
use Rattle.slots.specs.declared.store.SlotStore.{SlotStore}
use Rattle.slots.specs.Slot.{number, filled, freed, slot_at, span, page_in, vacant, Allowed, Stores}
use Rattle.slots.specs.Store.{meaning_of}
use Rattle.slots.specs.Sizes.{span_in, span_out}
use Rattle.slots.specs.Survey.{Tables}
use Rattle.slots.specs.Making.{Makes}
use Rattle.slots.proofs.Moves.{Sound, by_home, page_is}
use Rattle.slots.proofs.Writes.{never_full, Wrote, wrote_first, wrote_again}

-- what the ghost fields say
abbrev Ghosts : List (List ℕ) → List ℕ → List ℕ → ℕ → Type 0
Ghosts slots home free n = record {
  homes : length home ≡ 1025;
  few : n ≤ 1024;
  room : span n ≤ length slots;
  long : (i : ℕ) → i < span n → length (get_or slots i []) ≡ 130;
  low : (i : ℕ) → i < span n → number (get_or slots i []) ≤ n;
  placed : (i : ℕ) → i < span n → (number (get_or slots i []) ≡ 0 → ⊥) → get_or home (number (get_or slots i [])) 0 ≡ i + 1;
  homed : (q : ℕ) → 1 ≤ q → (get_or home q 0 ≡ 0 → ⊥) → number (slot_at slots (get_or home q 0)) ≡ q;
  reach : (q : ℕ) → get_or home q 0 ≤ n + 1;
  listed : (i : ℕ) → i < span n → number (get_or slots i []) ≡ 0 → Absent (i + 1) free → ⊥;
  vacant : (k : ℕ) → k < length free → number (slot_at slots (get_or free k 0)) ≡ 0;
  bound : (k : ℕ) → k < length free → get_or free k 0 ≤ n + 1;
}

span_room : (n m : ℕ) → n < m → span n ≤ m
span_room zero m h = omega arith
span_room (suc n) m h = omega arith

pub ghosts : (slots : List (List ℕ)) (home free : List ℕ) (n : ℕ) → Sound slots home free n → Ghosts slots home free n
ghosts slots home free n S = record {
  homes = S.homes;
  few = S.few;
  room = span_room n (length slots) S.room;
  long = λ i h. S.long i (span_out n i h).1;
  low = λ i h. S.low i (span_out n i h).1;
  placed = λ i h. S.placed i (span_out n i h).1;
  homed = S.homed;
  reach = S.reach;
  listed = λ i h. S.listed i (span_out n i h).1;
  vacant = λ k h. All-get_or (λ s. number (slot_at slots s) ≡ 0) free k 0 h S.vacant;
  bound = λ k h. All-get_or (λ s. s ≤ n + 1) free k 0 h S.bound;
}

-- of a store without a page
pub ghosts_none : (slots : List (List ℕ)) (home free : List ℕ) → length home ≡ 1025 → ((q : ℕ) → get_or home q 0 ≡ 0) → free ≡ [] → Ghosts slots home free 0
ghosts_none slots home free l h e = record {
  homes = l;
  few = omega arith;
  room = omega arith;
  long = λ i k. absurd (omega arith);
  low = λ i k. absurd (omega arith);
  placed = λ i k. absurd (omega arith);
  homed = λ q p z. absurd (z (h q));
  reach = λ q. omega (arith, h q);
  listed = λ i k. absurd (omega arith);
  vacant = λ k g. absurd (let z = ap length e in omega arith);
  bound = λ k g. absurd (let z = ap length e in omega arith);
}

pub sound : (b : SlotStore) → 0 < b.pages → Sound b.row.slots.now b.home (numbers b.free) b.pages
sound b z = record {
  homes = b.homes;
  few = b.few;
  room = (let r = b.room in let h = span_in b.pages b.pages z (omega arith) in omega arith);
  long = λ i h. b.long i (span_in b.pages i z h);
  low = λ i h. b.low i (span_in b.pages i z h);
  placed = λ i h. b.placed i (span_in b.pages i z h);
  homed = b.homed;
  reach = b.reach;
  listed = λ i h. b.listed i (span_in b.pages i z h);
  vacant = All-from_get_or (λ s. number (slot_at b.row.slots.now s) ≡ 0) (numbers b.free) 0 b.vacant;
  bound = All-from_get_or (λ s. s ≤ b.pages + 1) (numbers b.free) 0 b.bound;
}

-- the making
not_not : (t : Bool) → not (not t) ≡ t
not_not true = refl
not_not false = refl

kept_counted : (p q : ℕ → Bool) (a n : ℕ) → ((s : ℕ) → a ≤ s → s < a + n → p s ≡ q s) → filter p (range_with_len a n) ≡ filter q (range_with_len a n)
kept_counted p q a zero h = refl
kept_counted p q a (suc n) h = rw (h a (omega arith) (omega arith), kept_counted p q (a + 1) n (λ s l g. h s (omega arith) (omega arith)))

kept_rest : (b : Bool) (s a : ℕ) (xs : List ℕ) → Absent s (cond b (a ∷ xs) xs) → Absent s xs
kept_rest true s a xs m = m.1
kept_rest false s a xs m = m

kept_here : (b : Bool) (s a : ℕ) (xs : List ℕ) → b ≡ true → a ≡ s → Absent s (cond b (a ∷ xs) xs) → ⊥
kept_here true s a xs t e m = m.0 e
kept_here false s a xs t e m = let z : ◌≡◌ {A = Bool} false true = t in let y : ◌≡◌ {A = ℕ} 0 1 = cc in omega arith

kept_has : (p : ℕ → Bool) (a n s : ℕ) → a ≤ s → s < a + n → p s ≡ true → Absent s (filter p (range_with_len a n)) → ⊥
kept_has p a zero s l g t m = omega arith
kept_has p a (suc n) s l g t m =
    elim (cases_eq a s) [
      | inl e ↦ kept_here (p a) s a (filter p (range_with_len (a + 1) n)) (ap p e ∙ t) e m
      | inr d ↦ kept_has p (a + 1) n s (omega arith) (omega arith) t (kept_rest (p a) s a (filter p (range_with_len (a + 1) n)) m)
    ]

counting_high : (high a n : ℕ) → a + n ≤ high + 1 → AllByRecursion (λ k. k ≤ high) (range_with_len a n)
counting_high high a zero h = tt
counting_high high a (suc n) h = (omega arith, counting_high high (a + 1) n (omega arith))

zero_all : (slots : List (List ℕ)) (xs : List ℕ) → AllByRecursion (λ s. eqb (number (slot_at slots s)) 0 ≡ true) xs → AllByRecursion (λ s. number (slot_at slots s) ≡ 0) xs
zero_all slots [] h = tt
zero_all slots (x ∷ xs) h = (eqb-true (number (slot_at slots x)) 0 h.0, zero_all slots xs h.1)

module _ (slots : List (List ℕ)) (n : ℕ) (home : List ℕ) (used : List Bool) (free : List ℕ) (A : Allowed slots n) (T : Tables slots n home used)
    (is : free ≡ unmarked used (max 1 1) (min (n + 1) 1025 + 1 - max 1 1)) where
  test : ℕ → Bool
  test s = eqb (number (slot_at slots s)) 0

  pub rising : free ≡ vacant slots n
  unfolding test
  rising =
      let f = A.few in
      let e : min (n + 1) 1025 + 1 - max 1 1 ≡ n + 1 = omega arith in
      is ∙ ap (unmarked used 1) e
      ∙ kept_counted (λ k. not (get_or used k false)) test 1 (n + 1) (λ s l g. ap not (T.marked s l (omega arith)) ∙ not_not (eqb (number (slot_at slots s)) 0))

  pub made : Sound slots home free n
  unfolding test
  made = record {
    homes = T.homes;
    few = A.few;
    room = A.room;
    long = T.long;
    low = A.low;
    placed = T.placed;
    homed = λ q l. T.homed q;
    reach = T.reach;
    listed = λ i h z m. kept_has test 1 (n + 1) (i + 1) (omega arith) (omega arith)
        (let u : i + 1 - 1 ≡ i = omega arith in let v : number (slot_at slots (i + 1)) ≡ 0 = ap (λ (j : ℕ). number (get_or slots j [])) u ∙ z in eq-eqb (number (slot_at slots (i + 1))) 0 v)
        (subst (Absent (i + 1)) rising m);
    vacant = subst (AllByRecursion (λ s. number (slot_at slots s) ≡ 0)) (sym rising) (zero_all slots (vacant slots n) (kept_by_passes test (range_with_len 1 (n + 1))));
    bound = subst (AllByRecursion (λ s. s ≤ n + 1)) (sym rising) (all_kept_by test (λ s. s ≤ n + 1) (range_with_len 1 (n + 1)) (counting_high (n + 1) 1 (n + 1) (omega arith)));
  }

  pub makes_yes : Makes slots n n free
  makes_yes = record { yes = λ _. (refl, rising); no = λ f. absurd (f A) }

pub makes_no : (slots : List (List ℕ)) (n : ℕ) (free : List ℕ) → (Allowed slots n → ⊥) → free ≡ [] → Makes slots n 0 free
makes_no slots n free f e = record { yes = λ a. absurd (f a); no = λ _. (refl, e) }

-- the write: the front free slot is there
pub never_none : (b : SlotStore) → 0 < b.pages → numbers b.free ≡ [] → ⊥
never_none b z e = never_full b.row.slots.now b.home b.pages (subst (λ (xs : List ℕ). Sound b.row.slots.now b.home xs b.pages) e (sound b z))

module _ (b : SlotStore) (s p : ℕ) (bytes ys : List ℕ) (t : Takes (numbers b.free) (Some s) ys) (p1 : 1 ≤ p) (pn : p ≤ b.pages) where
  is : numbers b.free ≡ s ∷ ys
  is = t.3

  S : Sound b.row.slots.now b.home (s ∷ ys) b.pages
  S = subst (λ (xs : List ℕ). Sound b.row.slots.now b.home xs b.pages) is (sound b (omega arith))

  w : Within (s ∷ ys)
  w = subst Within is (numbers_within b.free)

  pub in_slots : s ≤ length b.row.slots.now
  in_slots = let h = S.bound.0 in let r = S.room in omega arith

  abbrev Written : List (List ℕ) → List ℕ → Type 0
  Written slots' free' = Wrote b.row.slots.now (numbers b.free) b.pages s p bytes slots' (set b.home p s) free'

  pub stores : (slots' : List (List ℕ)) (free' : List ℕ) → Written slots' free' → Stores b.row.slots.now (numbers b.free) b.pages p bytes (Ok tt) slots' free'
  stores slots' free' W =
      let e : get_or (numbers b.free) 0 0 ≡ s = ap (λ (xs : List ℕ). get_or xs 0 0) is in
      (rw e W.slots_are, W.free_are, W.past_are)

  -- x put into the front free slot
  module _ (lb : length bytes ≡ 128) (x : List ℕ) (xe : x ≡ filled p bytes) (slots₁ : List (List ℕ)) (put : slots₁ ≡ set b.row.slots.now (s - 1) x) where
    e₁ : slots₁ ≡ set b.row.slots.now (s - 1) (filled p bytes)
    e₁ = put ∙ ap (set b.row.slots.now (s - 1)) xe

    -- the page was in no slot
    pub first_time : get_or b.home p 0 ≡ 0 → Written slots₁ ys
    first_time none =
        subst (λ (z : List (List ℕ)). Written z ys) (sym e₁)
        (subst (λ (zs : List ℕ). Wrote b.row.slots.now zs b.pages s p bytes (set b.row.slots.now (s - 1) (filled p bytes)) (set b.home p s) ys) (sym is)
        (wrote_first b.row.slots.now b.home ys b.pages s p (filled p bytes) bytes S refl lb w t.2 p1 pn none))

    -- it was in the slot old
    module _ (old : ℕ) (at : get_or b.home p 0 ≡ old) (o1 : old ≡ 0 → ⊥) where
      pub old_in_slots : old ≤ length slots₁
      old_in_slots = rw (e₁, length-set b.row.slots.now (s - 1) (filled p bytes)) (let h = S.reach p in let r = S.room in omega arith)

      held_p : number (slot_at b.row.slots.now old) ≡ p
      held_p = subst (λ (k : ℕ). number (slot_at b.row.slots.now k) ≡ p) at (S.homed p p1 (λ q. o1 (sym at ∙ q)))

      absent_old : Absent old ys
      absent_old = All-weaker (λ k. number (slot_at b.row.slots.now k) ≡ 0) (λ k. k ≢ old)
          (λ k z e. let v : number (slot_at b.row.slots.now old) ≡ 0 = subst (λ (j : ℕ). number (slot_at b.row.slots.now j) ≡ 0) e z in let h = held_p in omega arith) ys S.vacant.1

      differ : old - 1 ≢ s - 1
      differ e =
          let v : number (slot_at b.row.slots.now s) ≡ 0 = S.vacant.0 in let h = held_p in
          let g : number (slot_at b.row.slots.now old) ≡ number (slot_at b.row.slots.now s) = ap (λ (i : ℕ). number (get_or b.row.slots.now i [])) e in omega arith

      same_old : slot_at slots₁ old ≡ slot_at b.row.slots.now old
      same_old = ap (λ (z : List (List ℕ)). slot_at z old) e₁ ∙ get_or-set_other b.row.slots.now (s - 1) (old - 1) (filled p bytes) [] differ

      -- y put into it, made free
      pub again : (o y : List ℕ) → o ≡ slot_at slots₁ old → y ≡ freed o → (slots₂ : List (List ℕ)) (zs : List ℕ) (u : Result (Unit {0}) ℕ) → slots₂ ≡ set slots₁ (old - 1) y
          → Puts old ys u zs → Written slots₂ zs
      again o y oe ye slots₂ zs u put₂ k =
          let e₂ : slots₂ ≡ set slots₁ (old - 1) (freed (slot_at slots₁ old)) = put₂ ∙ ap (set slots₁ (old - 1)) (ye ∙ ap freed oe) in
          let f : zs ≡ old ∷ ys = put_sure old ys zs u (omega arith) (let h = S.reach p in let g = S.few in omega arith) absent_old k in
          let e : slots₂ ≡ set (set b.row.slots.now (s - 1) (filled p bytes)) (old - 1) (freed (slot_at b.row.slots.now old)) =
          e₂ ∙ ap (λ (y : List ℕ). set slots₁ (old - 1) (freed y)) same_old ∙ ap (λ (z : List (List ℕ)). set z (old - 1) (freed (slot_at b.row.slots.now old))) e₁ in
          subst (λ (z : List (List ℕ)). Written z zs) (sym e)
          (subst (λ (vs : List ℕ). Written (set (set b.row.slots.now (s - 1) (filled p bytes)) (old - 1) (freed (slot_at b.row.slots.now old))) vs) (sym f)
          (subst (λ (vs : List ℕ). Wrote b.row.slots.now vs b.pages s p bytes (set (set b.row.slots.now (s - 1) (filled p bytes)) (old - 1) (freed (slot_at b.row.slots.now old))) (set b.home p s) (old ∷ ys)) (sym is)
          (wrote_again b.row.slots.now b.home ys b.pages s p (filled p bytes) bytes S refl lb w t.2 p1 pn old at o1 (freed (slot_at b.row.slots.now old)) refl)))

-- a page by its slot
module _ (b : SlotStore) (q : ℕ) (q1 : 1 ≤ q) (qn : q ≤ b.pages) where
  S' : Sound b.row.slots.now b.home (numbers b.free) b.pages
  S' = sound b (omega arith)

  page_by : at (meaning_of b) q ≡ by_home b.row.slots.now b.home q
  page_by =
      get_or-map-range_with_len (page_in (take (b.pages + 1) b.row.slots.now)) 1 b.pages (q - 1) q [] (omega arith) (omega arith)
      ∙ page_is b.row.slots.now b.home (numbers b.free) b.pages S' q q1

  pub page_none : get_or b.home q 0 ≡ 0 → replicate 128 0 ≡ at (meaning_of b) q
  page_none z = let t : eqb (get_or b.home q 0) 0 ≡ true = eq-eqb (get_or b.home q 0) 0 z in sym (page_by ∙ rw t)

  pub home_in : get_or b.home q 0 ≤ length b.row.slots.now
  home_in = let r = S'.reach q in let h = S'.room in omega arith

  pub page_some : (v : List ℕ) → (get_or b.home q 0 ≡ 0 → ⊥) → v ≡ take 128 (drop 2 (slot_at b.row.slots.now (get_or b.home q 0))) → v ≡ at (meaning_of b) q
  page_some v z e =
      let t : eqb (get_or b.home q 0) 0 ≡ false = ne_eqb (get_or b.home q 0) 0 z in
      let r = S'.reach q in
      let l = S'.long (get_or b.home q 0 - 1) (omega arith) in
      let k : length (drop 2 (slot_at b.row.slots.now (get_or b.home q 0))) ≤ 128 = rw (length-drop 2 (slot_at b.row.slots.now (get_or b.home q 0))) (omega arith) in
      e ∙ take_all 128 (drop 2 (slot_at b.row.slots.now (get_or b.home q 0))) k ∙ sym (page_by ∙ rw t)
