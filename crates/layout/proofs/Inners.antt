-- The edits of an inner page by the place of the child.
use Rattle.std.proofs.Common.{◌≡◌, ℕ, zero, suc, ◌-◌, ◌<◌, ◌≤◌, true, false, leb, ◌⊎◌, List, [], ◌∷◌, length, get_or, set, Ok, sym, refl, ap, ◌∙◌, subst, inl, inr, arith}
use Rattle.std.specs.List.{insert, refill, remove}
use Rattle.std.proofs.lemmas.List.Edits.{length-remove, get_or-remove_below}
use Rattle.std.proofs.lemmas.List.{length-set}
use Rattle.std.proofs.lemmas.Bool.{cond-true, cond-false, le-leb, lt-leb}
use Rattle.layout.specs.declared.entry.Entry.{Entry}
use Rattle.layout.specs.declared.change.ChildPages.{ChildPages}
use Rattle.layout.specs.declared.change.ChildPages.TheVariants.{One, Two}
use Rattle.layout.specs.Listed.{ChildPlace, blank}
use Rattle.layout.specs.Edits.{one, two, entry, child_for, put_child, drop_child_lem, before, ended}
use Rattle.layout.proofs.Lists.{written}
use Rattle.layout.specs.Changes.{Ends, Puts, split_of}

place_on : (e : Entry) (es : List Entry) (a i : ℕ) → ChildPlace (e ∷ es) a (suc i) → ChildPlace es a i
place_on e es a i p = record { within = omega (arith, p.within); below = λ k h. p.below (suc k) (omega arith); here = λ h. p.here (omega arith) }

ends_on : (e : Entry) (es : List Entry) (i key : ℕ) → Ends (e ∷ es) (suc i) key → Ends es i key
ends_on e es i key p = record { last = λ h. p.last (omega arith); other = λ h. p.other (omega arith) }

-- the test at the first entry
at_first : (e d : Entry) (es : List Entry) (a : ℕ) → ChildPlace (e ∷ (d ∷ es)) a 0 → leb a e.key ≡ true
at_first e d es a p = le-leb a e.key (p.here (omega arith))

past_first : (e : Entry) (es : List Entry) (a i : ℕ) → ChildPlace (e ∷ es) a (suc i) → leb a e.key ≡ false
past_first e es a i p = lt-leb a e.key (p.below 0 (omega arith))

module _ (a : ℕ) where
  pub child_at : (es : List Entry) (i : ℕ) → ChildPlace es a i → child_for es a ≡ (get_or es i blank).value
  child_at [] i p = absurd (omega (arith, p.within))
  child_at (e ∷ []) zero p = refl
  child_at (e ∷ []) (suc i) p = absurd (omega (arith, p.within))
  child_at (e ∷ (d ∷ es)) zero p = cond-true (leb a e.key) _ _ (at_first e d es a p)
  child_at (e ∷ (d ∷ es)) (suc i) p = cond-false (leb a e.key) _ _ (past_first e (d ∷ es) a i p) ∙ child_at (d ∷ es) i (place_on e (d ∷ es) a i p)

  put_one : (es : List Entry) (i key v : ℕ) → ChildPlace es a i → Ends es i key → set es i (entry key v) ≡ put_child es a (one v)
  put_one [] i key v p q = absurd (omega (arith, p.within))
  put_one (e ∷ []) zero key v p q = ap (λ (k : ℕ). entry k v ∷ []) (q.last (omega arith))
  put_one (e ∷ []) (suc i) key v p q = absurd (omega (arith, p.within))
  put_one (e ∷ (d ∷ es)) zero key v p q = ap (λ (k : ℕ). entry k v ∷ (d ∷ es)) (q.other (omega arith)) ∙ sym (cond-true (leb a e.key) _ _ (at_first e d es a p))
  put_one (e ∷ (d ∷ es)) (suc i) key v p q =
      ap (λ (z : List Entry). e ∷ z) (put_one (d ∷ es) i key v (place_on e (d ∷ es) a i p) (ends_on e (d ∷ es) i key q))
      ∙ sym (cond-false (leb a e.key) _ _ (past_first e (d ∷ es) a i p))

  put_two : (es : List Entry) (i key v j w : ℕ) → ChildPlace es a i → Ends es i key → insert (set es i (entry key w)) i (entry j v) ≡ put_child es a (two v j w)
  put_two [] i key v j w p q = absurd (omega (arith, p.within))
  put_two (e ∷ []) zero key v j w p q = ap (λ (k : ℕ). entry j v ∷ (entry k w ∷ [])) (q.last (omega arith))
  put_two (e ∷ []) (suc i) key v j w p q = absurd (omega (arith, p.within))
  put_two (e ∷ (d ∷ es)) zero key v j w p q = ap (λ (k : ℕ). entry j v ∷ (entry k w ∷ (d ∷ es))) (q.other (omega arith)) ∙ sym (cond-true (leb a e.key) _ _ (at_first e d es a p))
  put_two (e ∷ (d ∷ es)) (suc i) key v j w p q =
      ap (λ (z : List Entry). e ∷ z) (put_two (d ∷ es) i key v j w (place_on e (d ∷ es) a i p) (ends_on e (d ∷ es) i key q))
      ∙ sym (cond-false (leb a e.key) _ _ (past_first e (d ∷ es) a i p))

  -- the child drops out: another follows it
  before_some : (e : Entry) (es : List Entry) → 1 ≤ length es → before e es ≡ e ∷ es
  before_some e [] h = absurd (omega arith)
  before_some e (d ∷ es) h = refl

  drop_other : (es : List Entry) (i : ℕ) → ChildPlace es a i → suc i < length es → drop_child_lem es a ≡ remove es i
  drop_other [] i p h = absurd (omega arith)
  drop_other (e ∷ []) i p h = absurd (omega arith)
  drop_other (e ∷ (d ∷ es)) zero p h = cond-true (leb a e.key) _ _ (at_first e d es a p)
  drop_other (e ∷ (d ∷ es)) (suc i) p h =
      cond-false (leb a e.key) _ _ (past_first e (d ∷ es) a i p) ∙ ap (before e) (drop_other (d ∷ es) i (place_on e (d ∷ es) a i p) (omega arith))
      ∙ before_some e (remove (d ∷ es) i) (omega (arith, length-remove (d ∷ es) i (omega arith)))

  -- the first one
  drop_first : (es : List Entry) → ChildPlace es a 0 → drop_child_lem es a ≡ remove es 0
  drop_first [] p = refl
  drop_first (e ∷ []) p = refl
  drop_first (e ∷ (d ∷ es)) p = cond-true (leb a e.key) _ _ (at_first e d es a p)

  -- the last of several
  drop_last : (es : List Entry) (i : ℕ) → ChildPlace es a (suc i) → suc (suc i) ≡ length es → drop_child_lem es a ≡ set (remove es (suc i)) i (ended (get_or es i blank))
  drop_last [] i p h = absurd (omega arith)
  drop_last (e ∷ []) i p h = absurd (omega arith)
  drop_last (e ∷ (d ∷ [])) zero p h = cond-false (leb a e.key) _ _ (past_first e (d ∷ []) a 0 p)
  drop_last (e ∷ (d ∷ (c ∷ es))) zero p h = absurd (omega arith)
  drop_last (e ∷ (d ∷ es)) (suc i) p h =
      let out : List Entry = set (remove (d ∷ es) (suc i)) i (ended (get_or (d ∷ es) i blank)) in
      cond-false (leb a e.key) _ _ (past_first e (d ∷ es) a (suc i) p) ∙ ap (before e) (drop_last (d ∷ es) i (place_on e (d ∷ es) a (suc i) p) (omega arith))
      ∙ before_some e out (omega (arith, length-set (remove (d ∷ es) (suc i)) i (ended (get_or (d ∷ es) i blank)), length-remove (d ∷ es) (suc i) (omega arith)))

-- each way through the code's edits
pub puts_one : (es out : List Entry) (i key v : ℕ) (s : ChildPages) → s ≡ One v → Ends es i key → out ≡ set es i (entry key v) → (a : ℕ) → ChildPlace es a i → Puts a s es (Ok tt) out
puts_one es out i key v s q e o a p = o ∙ put_one a es i key v p e ∙ ap (λ (x : ChildPages). put_child es a (split_of x)) (sym q)

pub puts_two : (es mid out : List Entry) (i key v j w : ℕ) (s : ChildPages) → s ≡ Two v j w → Ends es i key → mid ≡ set es i (entry key w) → out ≡ insert mid i (entry j v) → (a : ℕ) → ChildPlace es a i → Puts a s es (Ok tt) out
puts_two es mid out i key v j w s q e m o a p =
    o ∙ ap (λ (x : List Entry). insert x i (entry j v)) m ∙ put_two a es i key v j w p e ∙ ap (λ (x : ChildPages). put_child es a (split_of x)) (sym q)

pub drops_other : (es out : List Entry) (i : ℕ) → (i ≡ 0) ⊎ (suc i < length es) → out ≡ remove es i → (a : ℕ) → ChildPlace es a i → out ≡ drop_child_lem es a
drops_other es out i w o a p =
    elim w [
      | inl e ↦ o ∙ ap (remove es) e ∙ sym (drop_first a es (subst (ChildPlace es a) e p))
      | inr h ↦ o ∙ sym (drop_other a es i p h)
    ]

last_of : (es : List Entry) (i j : ℕ) → i ≡ suc j → suc i ≡ length es → (a : ℕ) → ChildPlace es a i → drop_child_lem es a ≡ set (remove es i) j (ended (get_or (remove es i) j blank))
last_of es i j e l a p =
    drop_last a es j (subst (ChildPlace es a) e p) (omega arith)
    ∙ ap (λ (x : Entry). set (remove es (suc j)) j (ended x)) (sym (get_or-remove_below es (suc j) blank j (omega arith) (omega arith)))
    ∙ ap (λ (x : ℕ). set (remove es x) j (ended (get_or (remove es x) j blank))) (sym e)

-- the entries that are left are written as a slice xs
pub drops_last : (es mid xs : List Entry) (i : ℕ) → 0 < i → suc i ≡ length es → mid ≡ remove es i → xs ≡ mid → (a : ℕ) → ChildPlace es a i
    → refill (length mid) mid (set xs (i - 1) (entry 0 (get_or xs (i - 1) blank).value)) ≡ drop_child_lem es a
drops_last es mid xs i z l m q a p =
    let j : i ≡ suc (i - 1) = omega arith in
    written mid xs (i - 1) (entry 0 (get_or xs (i - 1) blank).value) q ∙ (λ k. set (m k) (i - 1) (ended (get_or ((q ∙ m) k) (i - 1) blank))) ∙ sym (last_of es i (i - 1) j l a p)
