-- The edits by index.
use Rattle.std.proofs.Common.{◌≡◌, ℕ, zero, suc, ◌-◌, ◌<◌, ◌≤◌, true, false, eqb, leb, List, [], ◌∷◌, ◌++◌, length, take, drop, set, sym, refl, ap, ◌∙◌, subst, arith, length-take}
use Rattle.std.proofs.lemmas.Bool.{cond-true, cond-false, le-leb, lt-leb, eq-eqb, ne_eqb}
use Rattle.layout.specs.declared.entry.Entry.{Entry}
use Rattle.layout.specs.Content.{LeafKeys}
use Rattle.tree.specs.Tree.{count_at}
use Rattle.tree.specs.Tree.Held.{held, none}
use Rattle.tree.specs.CopyMoves.{enter, entry, remove}
use Rattle.tree.specs.CopyMoves.Split.{one, two}
use Rattle.tree.specs.CopyPages.{before, clear, ended, pick, swap}
use Rattle.tree.specs.CopyPlaces.{ChildPlace, InnerEditLaw, LeafCountLaw, LeafEditLaw, LeafPlace, at, end_key}
use Rattle.tree.proofs.CopyBase.{by_le}
use Rattle.tree.proofs.CopyEntries.{count_below}

-- past the first entry
place_on : (e : Entry) (es : List Entry) (a i : ℕ) → ChildPlace (e ∷ es) a (suc i) → ChildPlace es a i
place_on e es a i p = record { within = omega (arith, p.within); below = λ k h. p.below (suc k) (omega arith); here = λ h. p.here (omega arith) }

leaf_place_on : (e : Entry) (es : List Entry) (a i : ℕ) → LeafPlace (e ∷ es) a (suc i) → LeafPlace es a i
leaf_place_on e es a i p = record { within = omega (arith, p.within); below = λ k h. p.below (suc k) (omega arith); here = λ h. p.here (omega arith) }

-- the test at the first entry: yes at the place 0, where something is behind, and no before any later place
first_is : (e d : Entry) (es : List Entry) (a : ℕ) → ChildPlace (e ∷ (d ∷ es)) a 0 → leb a e.key ≡ true
first_is e d es a p = le-leb a e.key (p.here (omega arith))

first_not : (e : Entry) (es : List Entry) (a i : ℕ) → ChildPlace (e ∷ es) a (suc i) → leb a e.key ≡ false
first_not e es a i p = lt-leb a e.key (p.below 0 (omega arith))

-- the key at the end of an inner page is 0, any other is its own
pub end_key_last : (es : List Entry) (i : ℕ) → length es ≤ suc i → end_key es i ≡ 0
end_key_last es i h = cond-true (leb (length es) (suc i)) _ _ (le-leb (length es) (suc i) h)

pub end_key_own : (es : List Entry) (i : ℕ) → suc i < length es → end_key es i ≡ (at es i).key
end_key_own es i h = cond-false (leb (length es) (suc i)) _ _ (lt-leb (length es) (suc i) h)

end_key_on : (e : Entry) (es : List Entry) (i : ℕ) → end_key (e ∷ es) (suc i) ≡ end_key es i
end_key_on e es i =
    by_le (λ (z : ℕ). z ≡ end_key es i) (suc (length es)) (suc (suc i)) _ _
    (λ le. sym (end_key_last es i (omega arith)))
    (λ gt. sym (end_key_own es i (omega arith)))

pick_at : (es : List Entry) (a i : ℕ) → ChildPlace es a i → pick es a ≡ (at es i).value
pick_at [] a i p = absurd (omega (arith, p.within))
pick_at (e ∷ []) a zero p = refl
pick_at (e ∷ []) a (suc i) p = absurd (omega (arith, p.within))
pick_at (e ∷ (d ∷ es)) a zero p = cond-true (leb a e.key) _ _ (first_is e d es a p)
pick_at (e ∷ (d ∷ es)) a (suc i) p = cond-false (leb a e.key) _ _ (first_not e (d ∷ es) a i p) ∙ pick_at (d ∷ es) a i (place_on e (d ∷ es) a i p)

swap_one_at : (es : List Entry) (a i v : ℕ) → ChildPlace es a i → swap es a (one v) ≡ set es i (entry (end_key es i) v)
swap_one_at [] a i v p = absurd (omega (arith, p.within))
swap_one_at (e ∷ []) a zero v p = ap (λ (k : ℕ). entry k v ∷ []) (sym (end_key_last (e ∷ []) 0 (omega arith)))
swap_one_at (e ∷ []) a (suc i) v p = absurd (omega (arith, p.within))
swap_one_at (e ∷ (d ∷ es)) a zero v p =
    cond-true (leb a e.key) _ _ (first_is e d es a p) ∙ ap (λ (k : ℕ). entry k v ∷ (d ∷ es)) (sym (end_key_own (e ∷ (d ∷ es)) 0 (omega arith)))
swap_one_at (e ∷ (d ∷ es)) a (suc i) v p =
    cond-false (leb a e.key) _ _ (first_not e (d ∷ es) a i p)
    ∙ ap (λ (z : List Entry). e ∷ z) (swap_one_at (d ∷ es) a i v (place_on e (d ∷ es) a i p))
    ∙ ap (λ (k : ℕ). e ∷ set (d ∷ es) i (entry k v)) (sym (end_key_on e (d ∷ es) i))

swap_two_at : (es : List Entry) (a i v j w : ℕ) → ChildPlace es a i → swap es a (two v j w) ≡ take i es ++ (entry j v ∷ (entry (end_key es i) w ∷ drop (suc i) es))
swap_two_at [] a i v j w p = absurd (omega (arith, p.within))
swap_two_at (e ∷ []) a zero v j w p = ap (λ (k : ℕ). entry j v ∷ (entry k w ∷ [])) (sym (end_key_last (e ∷ []) 0 (omega arith)))
swap_two_at (e ∷ []) a (suc i) v j w p = absurd (omega (arith, p.within))
swap_two_at (e ∷ (d ∷ es)) a zero v j w p =
    cond-true (leb a e.key) _ _ (first_is e d es a p) ∙ ap (λ (k : ℕ). entry j v ∷ (entry k w ∷ (d ∷ es))) (sym (end_key_own (e ∷ (d ∷ es)) 0 (omega arith)))
swap_two_at (e ∷ (d ∷ es)) a (suc i) v j w p =
    cond-false (leb a e.key) _ _ (first_not e (d ∷ es) a i p)
    ∙ ap (λ (z : List Entry). e ∷ z) (swap_two_at (d ∷ es) a i v j w (place_on e (d ∷ es) a i p))
    ∙ ap (λ (k : ℕ). e ∷ (take i (d ∷ es) ++ (entry j v ∷ (entry k w ∷ drop (suc i) (d ∷ es))))) (sym (end_key_on e (d ∷ es) i))

-- one entry before a list that has some
before_some : (e : Entry) (es : List Entry) → 1 ≤ length es → before e es ≡ e ∷ es
before_some e [] h = absurd (omega arith)
before_some e (d ∷ es) h = refl

set_length : (es : List Entry) (i : ℕ) (e : Entry) → length (set es i e) ≡ length es
set_length [] zero e = refl
set_length [] (suc i) e = refl
set_length (d ∷ es) zero e = refl
set_length (d ∷ es) (suc i) e = ap suc (set_length es i e)

clear_held_at : (es : List Entry) (a i v : ℕ) → ChildPlace es a i → clear es a (held v) ≡ set es i (entry (end_key es i) v)
clear_held_at [] a i v p = absurd (omega (arith, p.within))
clear_held_at (e ∷ []) a zero v p = ap (λ (k : ℕ). entry k v ∷ []) (sym (end_key_last (e ∷ []) 0 (omega arith)))
clear_held_at (e ∷ []) a (suc i) v p = absurd (omega (arith, p.within))
clear_held_at (e ∷ (d ∷ es)) a zero v p =
    cond-true (leb a e.key) _ _ (first_is e d es a p) ∙ ap (λ (k : ℕ). entry k v ∷ (d ∷ es)) (sym (end_key_own (e ∷ (d ∷ es)) 0 (omega arith)))
clear_held_at (e ∷ (d ∷ es)) a (suc i) v p =
    let r = clear_held_at (d ∷ es) a i v (place_on e (d ∷ es) a i p) in
    cond-false (leb a e.key) _ _ (first_not e (d ∷ es) a i p) ∙ ap (before e) r
    ∙ before_some e (set (d ∷ es) i (entry (end_key (d ∷ es) i) v)) (omega (arith, set_length (d ∷ es) i (entry (end_key (d ∷ es) i) v)))
    ∙ ap (λ (k : ℕ). e ∷ set (d ∷ es) i (entry k v)) (sym (end_key_on e (d ∷ es) i))

-- without the entry i there is one less
less_length : (es : List Entry) (i : ℕ) → i < length es → suc (length (take i es ++ drop (suc i) es)) ≡ length es
less_length [] i h = absurd (omega arith)
less_length (e ∷ es) zero h = refl
less_length (e ∷ es) (suc i) h = ap suc (less_length es i (omega arith))

clear_none_at : (es : List Entry) (a i : ℕ) → ChildPlace es a i → suc i < length es → clear es a none ≡ take i es ++ drop (suc i) es
clear_none_at [] a i p h = absurd (omega arith)
clear_none_at (e ∷ []) a i p h = absurd (omega arith)
clear_none_at (e ∷ (d ∷ es)) a zero p h = cond-true (leb a e.key) _ _ (first_is e d es a p)
clear_none_at (e ∷ (d ∷ es)) a (suc i) p h =
    let r = clear_none_at (d ∷ es) a i (place_on e (d ∷ es) a i p) (omega arith) in
    cond-false (leb a e.key) _ _ (first_not e (d ∷ es) a i p) ∙ ap (before e) r
    ∙ before_some e (take i (d ∷ es) ++ drop (suc i) (d ∷ es)) (omega (arith, less_length (d ∷ es) i (omega arith)))

clear_last_at : (es : List Entry) (a i : ℕ) → ChildPlace es a (suc i) → suc (suc i) ≡ length es → clear es a none ≡ set (take (suc i) es) i (ended (at es i))
clear_last_at [] a i p h = absurd (omega arith)
clear_last_at (e ∷ []) a i p h = absurd (omega arith)
clear_last_at (e ∷ (d ∷ [])) a zero p h = cond-false (leb a e.key) _ _ (first_not e (d ∷ []) a 0 p)
clear_last_at (e ∷ (d ∷ (c ∷ es))) a zero p h = absurd (omega arith)
clear_last_at (e ∷ (d ∷ es)) a (suc i) p h =
    let r = clear_last_at (d ∷ es) a i (place_on e (d ∷ es) a (suc i) p) (omega arith) in
    cond-false (leb a e.key) _ _ (first_not e (d ∷ es) a (suc i) p) ∙ ap (before e) r
    ∙ before_some e (set (take (suc i) (d ∷ es)) i (ended (at (d ∷ es) i)))
    (omega (arith, set_length (take (suc i) (d ∷ es)) i (ended (at (d ∷ es) i)), length-take (suc i) (d ∷ es)))

clear_only : (es : List Entry) (a : ℕ) → length es ≡ 1 → clear es a none ≡ []
clear_only [] a h = refl
clear_only (e ∷ []) a h = refl
clear_only (e ∷ (d ∷ es)) a h = absurd (omega arith)

pub inner_edit_law : InnerEditLaw
inner_edit_law es a i p = record {
  picks = pick_at es a i p;
  swaps_one = λ v. swap_one_at es a i v p;
  swaps_two = λ v j w. swap_two_at es a i v j w p;
  keeps = λ v. clear_held_at es a i v p;
  drops = clear_none_at es a i p;
  drops_last = λ j e h. subst (λ (x : ℕ). clear es a none ≡ set (take x es) j (ended (at es j))) (sym e)
      (clear_last_at es a j (subst (ChildPlace es a) e p) (omega arith));
  drops_only = clear_only es a;
}

-- leaves
enter_there : (es : List Entry) (a i : ℕ) → LeafPlace es a i → i < length es → (at es i).key ≡ a → enter a es ≡ set es i (entry a (suc (at es i).value))
enter_there [] a i p h e = absurd (omega arith)
enter_there (d ∷ es) a zero p h e =
    cond-true (leb a d.key) _ _ (le-leb a d.key (omega (arith, e))) ∙ cond-true (eqb a d.key) _ _ (eq-eqb a d.key (sym e))
enter_there (d ∷ es) a (suc i) p h e =
    cond-false (leb a d.key) _ _ (lt-leb a d.key (p.below 0 (omega arith)))
    ∙ ap (λ (z : List Entry). d ∷ z) (enter_there es a i (leaf_place_on d es a i p) (omega arith) e)

enter_new : (es : List Entry) (a i : ℕ) → LeafPlace es a i → (i < length es → (at es i).key ≡ a → ⊥) → enter a es ≡ take i es ++ (entry a 1 ∷ drop i es)
enter_new [] a zero p ne = refl
enter_new [] a (suc i) p ne = absurd (omega (arith, p.within))
enter_new (d ∷ es) a zero p ne =
    cond-true (leb a d.key) _ _ (le-leb a d.key (p.here (omega arith))) ∙ cond-false (eqb a d.key) _ _ (ne_eqb a d.key (λ q. ne (omega arith) (sym q)))
enter_new (d ∷ es) a (suc i) p ne =
    cond-false (leb a d.key) _ _ (lt-leb a d.key (p.below 0 (omega arith)))
    ∙ ap (λ (z : List Entry). d ∷ z) (enter_new es a i (leaf_place_on d es a i p) (λ h. ne (omega arith)))

not_first : (d : Entry) (es : List Entry) (a i : ℕ) → LeafPlace (d ∷ es) a (suc i) → eqb a d.key ≡ false
not_first d es a i p = ne_eqb a d.key (λ q. omega (arith, p.below 0 (omega arith)))

remove_one : (es : List Entry) (a i : ℕ) → LeafPlace es a i → i < length es → (at es i).key ≡ a → (at es i).value ≤ 1 → remove a es ≡ take i es ++ drop (suc i) es
remove_one [] a i p h e v = absurd (omega arith)
remove_one (d ∷ es) a zero p h e v = cond-true (eqb a d.key) _ _ (eq-eqb a d.key (sym e)) ∙ cond-true (leb d.value 1) _ _ (le-leb d.value 1 v)
remove_one (d ∷ es) a (suc i) p h e v =
    cond-false (eqb a d.key) _ _ (not_first d es a i p) ∙ ap (λ (z : List Entry). d ∷ z) (remove_one es a i (leaf_place_on d es a i p) (omega arith) e v)

remove_many : (es : List Entry) (a i : ℕ) → LeafPlace es a i → i < length es → (at es i).key ≡ a → 1 < (at es i).value → remove a es ≡ set es i (entry a ((at es i).value - 1))
remove_many [] a i p h e v = absurd (omega arith)
remove_many (d ∷ es) a zero p h e v = cond-true (eqb a d.key) _ _ (eq-eqb a d.key (sym e)) ∙ cond-false (leb d.value 1) _ _ (lt-leb d.value 1 v)
remove_many (d ∷ es) a (suc i) p h e v =
    cond-false (eqb a d.key) _ _ (not_first d es a i p) ∙ ap (λ (z : List Entry). d ∷ z) (remove_many es a i (leaf_place_on d es a i p) (omega arith) e v)

pub leaf_edit_law : LeafEditLaw
leaf_edit_law es a i p = record {
  counts_up = λ h. enter_there es a i p h.0 h.1;
  enters = λ ne. enter_new es a i p (λ h e. ne (h, e));
  counts_down = λ h v. remove_many es a i p h.0 h.1 v;
  drops = λ h v. remove_one es a i p h.0 h.1 v;
}

-- the count at the place
count_there : (es : List Entry) (lo hi a i : ℕ) → LeafKeys lo hi es → LeafPlace es a i → i < length es → (at es i).key ≡ a → count_at es a ≡ (at es i).value
count_there [] lo hi a i r p h e = absurd (omega arith)
count_there (d ∷ es) lo hi a zero r p h e =
    rw (eq-eqb d.key a e) (omega (arith, count_below a (suc d.key) hi es (omega (arith, e)) r.3))
count_there (d ∷ es) lo hi a (suc i) r p h e =
    rw (ne_eqb d.key a (λ q. omega (arith, p.below 0 (omega arith)))) (omega (arith, count_there es (suc d.key) hi a i r.3 (leaf_place_on d es a i p) (omega arith) e))

count_nowhere : (es : List Entry) (lo hi a i : ℕ) → LeafKeys lo hi es → LeafPlace es a i → (i < length es → (at es i).key ≡ a → ⊥) → count_at es a ≡ 0
count_nowhere [] lo hi a i r p ne = refl
count_nowhere (d ∷ es) lo hi a zero r p ne =
    rw (ne_eqb d.key a (λ q. ne (omega arith) q))
    (omega (arith, count_below a (suc d.key) hi es (omega (arith, p.here (omega arith))) r.3))
count_nowhere (d ∷ es) lo hi a (suc i) r p ne =
    rw (ne_eqb d.key a (λ q. omega (arith, p.below 0 (omega arith)))) (omega (arith, count_nowhere es (suc d.key) hi a i r.3 (leaf_place_on d es a i p) (λ h. ne (omega arith))))

pub leaf_count_law : LeafCountLaw
leaf_count_law es lo hi a i r p = (λ h. count_there es lo hi a i r p h.0 h.1, λ ne. count_nowhere es lo hi a i r p (λ h e. ne (h, e)))
