-- The edits of a leaf by the place of the address.
use Rattle.std.proofs.Common.{◌≡◌, ℕ, zero, suc, ◌+◌, ◌-◌, ◌<◌, ◌≤◌, true, false, eqb, leb, List, [], ◌∷◌, length, get_or, set, Some, None, Ok, Err, sym, refl, ap, ◌∙◌, arith}
use Rattle.std.specs.List.{insert, refill, remove as removed}
use Rattle.std.proofs.lemmas.Bool.{cond-true, cond-false, le-leb, lt-leb, eq-eqb, ne_eqb}
use Rattle.std.proofs.lemmas.List.{set-get_or}
use Rattle.layout.specs.declared.entry.Entry.{Entry}
use Rattle.layout.specs.declared.change.EnterFault.TheVariants.{CountFull, NoRoom}
use Rattle.layout.specs.Listed.{LeafPlace, FindsLeafPlace, blank}
use Rattle.layout.specs.Changes.{Enters, Removes}
use Rattle.layout.specs.Edits.{entry, found, enter, remove}
use Rattle.layout.proofs.Lists.{written}

place_on : (e : Entry) (es : List Entry) (a i : ℕ) → LeafPlace (e ∷ es) a (suc i) → LeafPlace es a i
place_on e es a i p = record { within = omega (arith, p.within); below = λ k h. p.below (suc k) (omega arith); here = λ h. p.here (omega arith) }

-- the tests at the first entry, before a later place
past : (e : Entry) (es : List Entry) (a i : ℕ) → LeafPlace (e ∷ es) a (suc i) → leb a e.key ≡ false
past e es a i p = lt-leb a e.key (p.below 0 (omega arith))

other : (e : Entry) (es : List Entry) (a i : ℕ) → LeafPlace (e ∷ es) a (suc i) → eqb a e.key ≡ false
other e es a i p = ne_eqb a e.key (λ q. omega (arith, p.below 0 (omega arith)))

-- the address stands at i
module _ (a : ℕ) where
  pub found_there : (es : List Entry) (i : ℕ) → LeafPlace es a i → i < length es → (get_or es i blank).key ≡ a → found a es ≡ Some (get_or es i blank).value
  found_there [] i p h e = absurd (omega arith)
  found_there (d ∷ es) zero p h e = cond-true (leb a d.key) _ _ (le-leb a d.key (omega (arith, e))) ∙ cond-true (eqb a d.key) _ _ (eq-eqb a d.key (sym e))
  found_there (d ∷ es) (suc i) p h e = cond-false (leb a d.key) _ _ (past d es a i p) ∙ found_there es i (place_on d es a i p) (omega arith) e

  pub enter_there : (es : List Entry) (i : ℕ) → LeafPlace es a i → i < length es → (get_or es i blank).key ≡ a → enter a es ≡ set es i (entry a (suc (get_or es i blank).value))
  enter_there [] i p h e = absurd (omega arith)
  enter_there (d ∷ es) zero p h e = cond-true (leb a d.key) _ _ (le-leb a d.key (omega (arith, e))) ∙ cond-true (eqb a d.key) _ _ (eq-eqb a d.key (sym e))
  enter_there (d ∷ es) (suc i) p h e =
      cond-false (leb a d.key) _ _ (past d es a i p) ∙ ap (λ (z : List Entry). d ∷ z) (enter_there es i (place_on d es a i p) (omega arith) e)

  pub remove_one : (es : List Entry) (i : ℕ) → LeafPlace es a i → i < length es → (get_or es i blank).key ≡ a → (get_or es i blank).value ≤ 1 → remove a es ≡ removed es i
  remove_one [] i p h e v = absurd (omega arith)
  remove_one (d ∷ es) zero p h e v = cond-true (eqb a d.key) _ _ (eq-eqb a d.key (sym e)) ∙ cond-true (leb d.value 1) _ _ (le-leb d.value 1 v)
  remove_one (d ∷ es) (suc i) p h e v =
      cond-false (eqb a d.key) _ _ (other d es a i p) ∙ ap (λ (z : List Entry). d ∷ z) (remove_one es i (place_on d es a i p) (omega arith) e v)

  pub remove_many : (es : List Entry) (i : ℕ) → LeafPlace es a i → i < length es → (get_or es i blank).key ≡ a → 1 < (get_or es i blank).value
      → remove a es ≡ set es i (entry a ((get_or es i blank).value - 1))
  remove_many [] i p h e v = absurd (omega arith)
  remove_many (d ∷ es) zero p h e v = cond-true (eqb a d.key) _ _ (eq-eqb a d.key (sym e)) ∙ cond-false (leb d.value 1) _ _ (lt-leb d.value 1 v)
  remove_many (d ∷ es) (suc i) p h e v =
      cond-false (eqb a d.key) _ _ (other d es a i p) ∙ ap (λ (z : List Entry). d ∷ z) (remove_many es i (place_on d es a i p) (omega arith) e v)

  -- the address does not stand at its place
  pub found_not : (es : List Entry) (i : ℕ) → LeafPlace es a i → (i < length es → (get_or es i blank).key ≡ a → ⊥) → found a es ≡ None
  found_not [] i p ne = refl
  found_not (d ∷ es) zero p ne = cond-true (leb a d.key) _ _ (le-leb a d.key (p.here (omega arith))) ∙ cond-false (eqb a d.key) _ _ (ne_eqb a d.key (λ q. ne (omega arith) (sym q)))
  found_not (d ∷ es) (suc i) p ne = cond-false (leb a d.key) _ _ (past d es a i p) ∙ found_not es i (place_on d es a i p) (λ h. ne (omega arith))

  pub enter_new : (es : List Entry) (i : ℕ) → LeafPlace es a i → (i < length es → (get_or es i blank).key ≡ a → ⊥) → enter a es ≡ insert es i (entry a 1)
  enter_new [] zero p ne = refl
  enter_new [] (suc i) p ne = absurd (omega (arith, p.within))
  enter_new (d ∷ es) zero p ne = cond-true (leb a d.key) _ _ (le-leb a d.key (p.here (omega arith))) ∙ cond-false (eqb a d.key) _ _ (ne_eqb a d.key (λ q. ne (omega arith) (sym q)))
  enter_new (d ∷ es) (suc i) p ne =
      cond-false (leb a d.key) _ _ (past d es a i p) ∙ ap (λ (z : List Entry). d ∷ z) (enter_new es i (place_on d es a i p) (λ h. ne (omega arith)))

  -- each way through the code's edits, which reads the entries as a slice xs
  module _ (es : List Entry) (i : ℕ) where
    pub counted : (xs : List Entry) → FindsLeafPlace es a (Ok i) → xs ≡ es → Some (get_or xs i blank).value ≡ found a es
    counted xs p q = ap (λ (z : List Entry). Some (get_or z i blank).value) q ∙ sym (found_there es i p.0 p.1 p.2)

    pub uncounted : FindsLeafPlace es a (Err i) → None ≡ found a es
    uncounted p = sym (found_not es i p.0 p.1)

    -- a new count at the place
    recounted : (xs : List Entry) (n : ℕ) → FindsLeafPlace es a (Ok i) → xs ≡ es → refill (length es) es (set xs i (entry (get_or xs i blank).key n)) ≡ set es i (entry a n)
    recounted xs n p q =
        let k : (get_or xs i blank).key ≡ a = ap (λ (z : List Entry). (get_or z i blank).key) q ∙ p.2 in
        written es xs i (entry (get_or xs i blank).key n) q ∙ ap (λ (m : ℕ). set es i (entry m n)) k

    pub enters_full : (xs : List Entry) → FindsLeafPlace es a (Ok i) → xs ≡ es → (get_or xs i blank).value ≡ 65535 → Enters a es (Err CountFull) (refill (length es) es (set xs i (get_or xs i blank)))
    enters_full xs p q v =
        (sym (counted xs p q) ∙ ap Some v, written es xs i (get_or xs i blank) q ∙ ap (λ (z : List Entry). set es i (get_or z i blank)) q ∙ set-get_or es i blank)

    pub enters_there : (xs : List Entry) → FindsLeafPlace es a (Ok i) → xs ≡ es → ((get_or xs i blank).value ≡ 65535 → ⊥)
        → Enters a es (Ok tt) (refill (length es) es (set xs i (entry (get_or xs i blank).key ((get_or xs i blank).value + 1))))
    enters_there xs p q v =
        let f = counted xs p q in
        let w : (get_or xs i blank).value + 1 ≡ suc (get_or es i blank).value = omega (arith, ap (λ (z : List Entry). (get_or z i blank).value) q) in (
          λ g. (let s : (get_or xs i blank).value ≡ 65535 = cc in v s),
          λ g. (let z : ◌≡◌ {A = ℕ} 0 1 = cc in absurd (omega arith)),
          recounted xs ((get_or xs i blank).value + 1) p q ∙ ap (λ (x : ℕ). set es i (entry a x)) w ∙ sym (enter_there es i p.0 p.1 p.2),
        )

    pub enters_none : (out : List Entry) → FindsLeafPlace es a (Err i) → length es ≡ 11 → out ≡ es → Enters a es (Err NoRoom) out
    enters_none out p n o = (sym (uncounted p), n, o)

    pub enters_new : (out : List Entry) → FindsLeafPlace es a (Err i) → length es ≤ 10 → out ≡ insert es i (entry a 1) → Enters a es (Ok tt) out
    enters_new out p n o =
        let f = uncounted p in (
          λ g. (let z : ◌≡◌ {A = ℕ} 0 1 = cc in absurd (omega arith)),
          λ g. n,
          o ∙ sym (enter_new es i p.0 p.1),
        )

    pub removes_none : (out : List Entry) → FindsLeafPlace es a (Err i) → out ≡ es → Removes a es false out
    removes_none out p o = (sym (uncounted p), o)

    present : FindsLeafPlace es a (Ok i) → found a es ≡ None → ⊥
    present p g = let f = counted es p refl in let z : ◌≡◌ {A = ℕ} 0 1 = cc in omega arith

    pub removes_one : (xs out : List Entry) → FindsLeafPlace es a (Ok i) → xs ≡ es → (get_or xs i blank).value ≤ 1 → out ≡ removed es i → Removes a es true out
    removes_one xs out p q v o =
        (present p, o ∙ sym (remove_one es i p.0 p.1 p.2 (omega (arith, ap (λ (z : List Entry). (get_or z i blank).value) q))))

    pub removes_many : (xs ys : List Entry) → FindsLeafPlace es a (Ok i) → xs ≡ es → ys ≡ es → 1 < (get_or xs i blank).value
        → Removes a es true (refill (length es) es (set ys i (entry (get_or ys i blank).key ((get_or ys i blank).value - 1))))
    removes_many xs ys p q y v =
        let w = ap (λ (z : List Entry). (get_or z i blank).value) q in
        let u = ap (λ (z : List Entry). (get_or z i blank).value) y in
        (present p, recounted ys ((get_or ys i blank).value - 1) p y ∙ ap (λ (x : ℕ). set es i (entry a (x - 1))) u ∙ sym (remove_many es i p.0 p.1 p.2 (omega arith)))
