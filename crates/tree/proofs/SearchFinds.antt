-- What a search finds: just the tree's events that pass, in order.
use Rattle.std.proofs.Common.{◌≡◌, ℕ, suc, ◌≤◌, Bool, true, false, cond, List, [], ◌∷◌, ◌++◌, Some, None, filter, Option, sym, refl, ap, ◌∙◌, arith}
use Rattle.std.proofs.lemmas.List.Elements.{filter-append}
use Rattle.layout.specs.declared.entry.Entry.{Entry}
use Rattle.layout.specs.Content.{LeafKeys}
use Rattle.tree.specs.Tree.{Node, Forest, events, events_in, Ordered, OrderedIn}
use Rattle.tree.specs.Tree.Node.{leaf, inner}
use Rattle.tree.specs.Tree.Forest.{last, more}
use Rattle.tree.specs.SearchSteps.{Hit, Least, first, from, passes, Step, find_steps, visit, steps, steps_in, found_of}
use Rattle.tree.specs.SearchSteps.Step.{finds}
use Rattle.tree.specs.SearchLaws.{FindsLaw}
use Rattle.tree.proofs.SearchFirst.{first_least}
use Rattle.tree.proofs.SearchRunning.{found_append}

-- the events of a tree in order rise
rising_lower : (lo l hi : ℕ) → lo ≤ l → (es : List Entry) → LeafKeys l hi es → LeafKeys lo hi es
rising_lower lo l hi h [] r = tt
rising_lower lo l hi h (e ∷ es) r = (omega (arith, r.0), r.1, r.2, r.3)

rising_append : (lo key hi : ℕ) → lo ≤ suc key → key ≤ hi → (xs ys : List Entry) → LeafKeys lo key xs → LeafKeys (suc key) hi ys → LeafKeys lo hi (xs ++ ys)
rising_append lo key hi h k [] ys r s = rising_lower lo (suc key) hi h ys s
rising_append lo key hi h k (e ∷ es) ys r s =
    (r.0, omega (arith, r.1), r.2, rising_append (suc e.key) key hi (omega (arith, r.1)) k es ys r.3 s)

mutual
  pub events_rise : (n : Node) (lo hi : ℕ) → Ordered n lo hi → LeafKeys lo hi (events n)
  events_rise (leaf page es) lo hi o = o
  events_rise (inner page ks) lo hi o = events_rise_in ks lo hi o

  pub events_rise_in : (ks : Forest) (lo hi : ℕ) → OrderedIn ks lo hi → LeafKeys lo hi (events_in ks)
  events_rise_in (last n) lo hi o = events_rise n lo hi o
  events_rise_in (more n key ks) lo hi o =
      rising_append lo key hi (omega (arith, o.0)) (omega (arith, o.1)) (events n) (events_in ks) (events_rise n lo key o.2) (events_rise_in ks (suc key) hi o.3)

-- and so do those that are kept of them
rising_kept : (p : Entry → Bool) (lo hi : ℕ) (es : List Entry) → LeafKeys lo hi es → LeafKeys lo hi (filter p es)
rising_kept p lo hi [] r = tt
rising_kept p lo hi (e ∷ es) r = go (p e) (rising_kept p (suc e.key) hi es r.3)
  where
    go : (t : Bool) → LeafKeys (suc e.key) hi (filter p es) → LeafKeys lo hi (cond t (e ∷ filter p es) (filter p es))
    go true k = (r.0, r.1, r.2, k)
    go false k = rising_lower lo (suc e.key) hi (omega (arith, r.0)) (filter p es) k

module _ (P : ℕ → Bool) where
  -- where no address of the region passes, no event of it does
  none_kept : (lo hi : ℕ) → ((b : ℕ) → Hit P lo hi b → ⊥) → (l : ℕ) → lo ≤ l → (es : List Entry) → LeafKeys l hi es → filter (passes P) es ≡ []
  none_kept lo hi none l h [] r = refl
  none_kept lo hi none l h (e ∷ es) r = go (P e.key) refl (none_kept lo hi none (suc e.key) (omega (arith, r.0)) es r.3)
    where
      go : (t : Bool) → P e.key ≡ t → filter (passes P) es ≡ [] → cond t (e ∷ filter (passes P) es) (filter (passes P) es) ≡ []
      go true p ih = absurd (none e.key (omega (arith, r.0), r.1, p))
      go false p ih = ih

  pick : (t : Bool) (e : Entry) (ss : List Step) (gs : List Entry) → found_of ss ≡ gs → found_of (cond t (finds e ∷ ss) ss) ≡ cond t (e ∷ gs) gs
  pick true e ss gs h = ap (λ xs. e ∷ xs) h
  pick false e ss gs h = h

  found_finds : (es : List Entry) → found_of (find_steps P es) ≡ filter (passes P) es
  found_finds [] = refl
  found_finds (e ∷ es) = pick (P e.key) e (find_steps P es) (filter (passes P) es) (found_finds es)

  visit_found : (lo hi page : ℕ) (r : Option ℕ) → Least r (Hit P lo hi) → (ss : List Step) (es : List Entry) →
      found_of ss ≡ filter (passes P) es → LeafKeys lo hi es → found_of (visit page r ss) ≡ filter (passes P) es
  visit_found lo hi page None l ss es h r = sym (none_kept lo hi l lo (omega arith) es r)
  visit_found lo hi page (Some a) l ss es h r = h

  mutual
    pub finds_node : (n : Node) (lo hi : ℕ) → Ordered n lo hi → found_of (steps P n lo hi) ≡ filter (passes P) (events n)
    finds_node (leaf page es) lo hi o = visit_found lo hi page (first P lo hi) (first_least P lo hi) (find_steps P es) es (found_finds es) o
    finds_node (inner page ks) lo hi o =
        visit_found lo hi page (first P lo hi) (first_least P lo hi) (steps_in P ks lo hi) (events_in ks) (finds_in ks lo hi o) (events_rise_in ks lo hi o)

    finds_in : (ks : Forest) (lo hi : ℕ) → OrderedIn ks lo hi → found_of (steps_in P ks lo hi) ≡ filter (passes P) (events_in ks)
    finds_in (last n) lo hi o = finds_node n lo hi o
    finds_in (more n key ks) lo hi o =
        found_append (steps P n lo key) (steps_in P ks (suc key) hi)
        ∙ rw (finds_node n lo key o.2, finds_in ks (suc key) hi o.3) (sym (filter-append (passes P) (events n) (events_in ks)))

pub finds_law : FindsLaw
finds_law inside start n lo hi o =
    let same = finds_node (from inside start) n lo hi o in
    (same, rw same (rising_kept (passes (from inside start)) lo hi (events n) (events_rise n lo hi o)))
