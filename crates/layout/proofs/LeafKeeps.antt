-- The edits of a leaf keep rule D.
use Rattle.std.proofs.Common.{◌≡◌, ℕ, zero, suc, ◌+◌, ◌<◌, ◌≤◌, true, cond, eqb, leb, List, [], ◌∷◌, length, get_or, take, drop, Some, None, sym, refl, ap, ◌∙◌, subst, inl, inr, arith}
use Rattle.std.specs.List.{AllByRecursion}
use Rattle.std.proofs.lemmas.Bool.{cond_both, cond-true, cond-false, leb-true, leb-false, eqb-true, eqb-false, eq-eqb, ne_eqb, lt-leb, le-leb, cases_order}
use Rattle.std.proofs.lemmas.List.{drop_more}
use Rattle.layout.specs.declared.entry.Entry.{Entry}
use Rattle.layout.specs.Content.{LeafKeys}
use Rattle.layout.specs.Edits.{entry, sixth, found, or_zero, enter, remove}
use Rattle.layout.specs.EditLaws.{LeafLaw}

abbrev at : List Entry → ℕ → Entry
at es i = get_or es i (entry 0 0)

weaken : (s t end : ℕ) (es : List Entry) → t ≤ s → LeafKeys s end es → LeafKeys t end es
weaken s t end [] h k = tt
weaken s t end (e ∷ es) h k = (omega (arith, k.0), k.1, k.2, k.3)

-- the keys of a leaf are at or above its start
above : (s end : ℕ) (es : List Entry) (i : ℕ) → LeafKeys s end es → i < length es → s ≤ (at es i).key
above s end [] i k h = absurd (omega arith)
above s end (e ∷ es) zero k h = k.0
above s end (e ∷ es) (suc i) k h = let b = above (suc e.key) end es i k.3 (omega arith) in omega (arith, k.0)

found_each : (s end : ℕ) (es : List Entry) (i : ℕ) → LeafKeys s end es → i < length es → found (at es i).key es ≡ Some (at es i).value
found_each s end [] i k h = absurd (omega arith)
found_each s end (e ∷ es) zero k h = cond-true (leb e.key e.key) _ _ (le-leb e.key e.key (omega arith)) ∙ cond-true (eqb e.key e.key) _ _ (eq-eqb e.key e.key refl)
found_each s end (e ∷ es) (suc i) k h =
    let b = above (suc e.key) end es i k.3 (omega arith) in
    cond-false (leb (at es i).key e.key) _ _ (lt-leb (at es i).key e.key (omega arith)) ∙ found_each (suc e.key) end es i k.3 (omega arith)

-- entries above an address have another key
all_above : (a s end : ℕ) (es : List Entry) → a < s → LeafKeys s end es → AllByRecursion (λ e. e.key ≡ a → ⊥) es
all_above a s end [] h k = tt
all_above a s end (e ∷ es) h k = (λ q. omega (arith, k.0), all_above a (suc e.key) end es (omega (arith, k.0)) k.3)

lacking : (a s end : ℕ) (es : List Entry) → LeafKeys s end es → found a es ≡ None → AllByRecursion (λ e. e.key ≡ a → ⊥) es
lacking a s end [] k f = tt
lacking a s end (e ∷ es) k f =
    elim (cases_order a e.key) [
      | inl q ↦ (let g : found a (e ∷ es) ≡ Some e.value = cond-true (leb a e.key) _ _ (le-leb a e.key (omega arith)) ∙ cond-true (eqb a e.key) _ _ (eq-eqb a e.key q) in let z : ◌≡◌ {A = ℕ} 0 1 = cc in absurd (omega arith))
      | inr w ↦ elim w [
        | inl l ↦ (λ q. omega arith, all_above a (suc e.key) end es (omega arith) k.3)
        | inr l ↦ (λ q. omega arith, lacking a (suc e.key) end es k.3 (sym (cond-false (leb a e.key) _ _ (lt-leb a e.key l)) ∙ f))
      ]
    ]

-- a sum of the counts for an address
module _ (a : ℕ) (f : List Entry → ℕ) (none : f [] ≡ 0) (more : (e : Entry) (ds : List Entry) → f (e ∷ ds) ≡ cond (eqb e.key a) e.value 0 + f ds) where
  at_other : (e : Entry) (ds : List Entry) → (e.key ≡ a → ⊥) → f (e ∷ ds) ≡ f ds
  at_other e ds n = let c = cond-false (eqb e.key a) e.value 0 (ne_eqb e.key a n) in omega (arith, more e ds)

  counts_none : (s end : ℕ) (es : List Entry) → a < s → LeafKeys s end es → f es ≡ 0
  counts_none s end [] h k = none
  counts_none s end (e ∷ es) h k = at_other e es (λ q. omega (arith, k.0)) ∙ counts_none (suc e.key) end es (omega (arith, k.0)) k.3

  counts : (s end : ℕ) (es : List Entry) → LeafKeys s end es → f es ≡ or_zero (found a es)
  counts s end [] k = none
  counts s end (e ∷ es) k =
      elim (cases_order a e.key) [
        | inl q ↦ (let t : eqb e.key a ≡ true = eq-eqb e.key a (sym q) in
            let c = cond-true (eqb e.key a) e.value 0 t in
            let z = counts_none (suc e.key) end es (omega arith) k.3 in
            let g : found a (e ∷ es) ≡ Some e.value = cond-true (leb a e.key) _ _ (le-leb a e.key (omega arith)) ∙ cond-true (eqb a e.key) _ _ (eq-eqb a e.key q) in
            let h : f (e ∷ es) ≡ e.value = omega (arith, more e es) in
            h ∙ ap or_zero (sym g))
        | inr w ↦ elim w [
          | inl l ↦ (let g : found a (e ∷ es) ≡ None = cond-true (leb a e.key) _ _ (le-leb a e.key (omega arith)) ∙ cond-false (eqb a e.key) _ _ (ne_eqb a e.key (λ q. omega arith)) in
              at_other e es (λ q. omega arith) ∙ counts_none (suc e.key) end es (omega arith) k.3 ∙ ap or_zero (sym g))
          | inr l ↦ (let g : found a (e ∷ es) ≡ found a es = cond-false (leb a e.key) _ _ (lt-leb a e.key l) in
              at_other e es (λ q. omega arith) ∙ counts (suc e.key) end es k.3 ∙ ap or_zero (sym g))
        ]
      ]

enters : (a s end : ℕ) (es : List Entry) → LeafKeys s end es → s ≤ a → a ≤ end → LeafKeys s end (enter a es)
enters a s end [] k l h = (l, h, omega arith, tt)
enters a s end (e ∷ es) k l h =
    cond_both (leb a e.key) _ _ (LeafKeys s end)
    (λ t. let u = leb-true a e.key t in cond_both (eqb a e.key) _ _ (LeafKeys s end)
    (λ q. (l, h, omega arith, subst (λ (m : ℕ). LeafKeys (suc m) end es) (sym (eqb-true a e.key q)) k.3))
    (λ q. (let n = eqb-false a e.key q in (l, h, omega arith, (omega arith, k.1, k.2, k.3)))))
    (λ t. (let u = leb-false a e.key t in (k.0, k.1, k.2, enters a (suc e.key) end es k.3 (omega arith) h)))

entered : (a : ℕ) (es : List Entry) → (1 ≤ length (enter a es)) × (length (enter a es) ≤ suc (length es))
entered a [] = (omega arith, omega arith)
entered a (e ∷ es) =
    let P : List Entry → Type 0 = λ xs. (1 ≤ length xs) × (length xs ≤ suc (suc (length es))) in
    let n = entered a es in
    cond_both (leb a e.key) _ _ P (λ t. cond_both (eqb a e.key) _ _ P (λ q. (omega arith, omega arith)) (λ q. (omega arith, omega arith))) (λ t. (omega arith, omega (arith, n.1)))

removes : (a s end : ℕ) (es : List Entry) → LeafKeys s end es → LeafKeys s end (remove a es)
removes a s end [] k = tt
removes a s end (e ∷ es) k =
    cond_both (eqb a e.key) _ _ (LeafKeys s end)
    (λ q. let r = eqb-true a e.key q in cond_both (leb e.value 1) _ _ (LeafKeys s end)
    (λ t. weaken (suc e.key) s end es (omega (arith, k.0)) k.3)
    (λ t. (let u = leb-false e.value 1 t in (omega (arith, k.0), omega (arith, k.1), omega arith, subst (λ (m : ℕ). LeafKeys (suc m) end es) (sym r) k.3))))
    (λ q. (k.0, k.1, k.2, removes a (suc e.key) end es k.3))

less : (a : ℕ) (es : List Entry) → (length (remove a es) ≤ length es) × (length es ≤ suc (length (remove a es)))
less a [] = (omega arith, omega arith)
less a (e ∷ es) =
    let P : List Entry → Type 0 = λ xs. (length xs ≤ suc (length es)) × (suc (length es) ≤ suc (length xs)) in
    let n = less a es in
    cond_both (eqb a e.key) _ _ P (λ q. cond_both (leb e.value 1) _ _ P (λ t. (omega arith, omega arith)) (λ t. (omega arith, omega arith))) (λ q. (omega (arith, n.0), omega (arith, n.1)))

-- a cut behind the place n
cuts : (s end n : ℕ) (es : List Entry) → LeafKeys s end es → n < length es
    → (s ≤ (at es n).key) × ((at es n).key ≤ end) × LeafKeys s (at es n).key (take (suc n) es) × LeafKeys (suc (at es n).key) end (drop (suc n) es)
cuts s end n [] k h = absurd (omega arith)
cuts s end zero (e ∷ es) k h = (k.0, k.1, (k.0, omega arith, k.2, tt), k.3)
cuts s end (suc n) (e ∷ es) k h =
    let r = cuts (suc e.key) end n es k.3 (omega arith) in
    let a = r.0 in
    (omega (arith, k.0), r.1, (k.0, omega arith, k.2, r.2), r.3)

splits : (s end : ℕ) (es : List Entry) → LeafKeys s end es → 6 < length es
    → (s ≤ (sixth es).key) × ((sixth es).key < end) × LeafKeys s (sixth es).key (take 6 es) × LeafKeys (suc (sixth es).key) end (drop 6 es)
splits s end es k h =
    let r = cuts s end 5 es k (omega arith) in
    let d = subst (LeafKeys (suc (sixth es).key) end) (drop_more es 6 (entry 0 0) h) r.3 in
    (r.0, omega (arith, d.0, d.1), r.2, r.3)

pub leaf_law : LeafLaw
leaf_law s end es k = record {
  finds = λ i h. found_each s end es i k h;
  lacks = λ a f. lacking a s end es k f;
  counts = λ f a n m. counts a f n m s end es k;
  enters = λ a l h. enters a s end es k l h;
  entered = λ a. entered a es;
  removes = λ a. removes a s end es k;
  removed = λ a. less a es;
  splits = splits s end es k;
}
