-- The addresses of a search's steps rise. So what was found before a step lies below its address, and what is found from it on does not.
use Rattle.std.proofs.Common.{◌≡◌, ℕ, zero, suc, ◌<◌, ◌≤◌, Bool, true, false, cond, leb, List, [], ◌∷◌, ◌++◌, Some, None, filter, Option, sym, refl, ap, ◌∙◌, arith, le-leb}
use borrow.Author.Tests.{lt-leb}
use Rattle.layout.specs.declared.entry.Entry.{Entry}
use Rattle.layout.specs.Content.{LeafKeys}
use Rattle.tree.specs.Tree.{Node, Forest, Ordered, OrderedIn}
use Rattle.tree.specs.Tree.Node.{leaf, inner}
use Rattle.tree.specs.Tree.Forest.{last, more}
use Rattle.tree.specs.SearchSteps.{Hit, Least, first, Step, find_steps, visit, steps, steps_in, found_of}
use Rattle.tree.specs.SearchSteps.Step.{reads, finds}
use Rattle.tree.specs.SearchRuns.{stopped_at, run}
use Rattle.tree.proofs.SearchFirst.{first_least}

-- every address in [b, top], each passing; a find leaves its address behind, a read does not
abbrev pub Rises : (ℕ → Bool) → ℕ → ℕ → List Step → Type 0
Rises P b top [] = Unit {0}
Rises P b top (reads page a ∷ ss) = (b ≤ a) × (a ≤ top) × (P a ≡ true) × Rises P a top ss
Rises P b top (finds e ∷ ss) = (b ≤ e.key) × (e.key ≤ top) × (P e.key ≡ true) × Rises P (suc e.key) top ss

-- the test that an event is not before a
abbrev pub not_before : ℕ → Entry → Bool
not_before a e = leb a e.key

module _ (P : ℕ → Bool) where
  pub rises_lower : (b c top : ℕ) → b ≤ c → (ss : List Step) → Rises P c top ss → Rises P b top ss
  rises_lower b c top h [] r = tt
  rises_lower b c top h (reads page a ∷ ss) r = (omega (arith, r.0), r.1, r.2, r.3)
  rises_lower b c top h (finds e ∷ ss) r = (omega (arith, r.0), r.1, r.2, r.3)

  -- steps behind others
  pub rises_append : (b key top : ℕ) → b ≤ suc key → key ≤ top → (xs ys : List Step) → Rises P b key xs → Rises P (suc key) top ys → Rises P b top (xs ++ ys)
  rises_append b key top h k [] ys r s = rises_lower b (suc key) top h ys s
  rises_append b key top h k (reads page a ∷ xs) ys r s =
      (r.0, omega (arith, r.1), r.2, rises_append a key top (omega (arith, r.1)) k xs ys r.3 s)
  rises_append b key top h k (finds e ∷ xs) ys r s =
      (r.0, omega (arith, r.1), r.2, rises_append (suc e.key) key top (omega (arith, r.1)) k xs ys r.3 s)

  -- nothing that passes lies below the least address that does
  rises_from_least : (lo hi a : ℕ) → Least (Some a) (Hit P lo hi) → (ss : List Step) → Rises P lo hi ss → Rises P a hi ss
  rises_from_least lo hi a l [] r = tt
  rises_from_least lo hi a l (reads page b ∷ ss) r =
      let no : (b < a → ⊥) = λ lt. l.1 b lt (r.0, r.1, r.2) in (omega arith, r.1, r.2, r.3)
  rises_from_least lo hi a l (finds e ∷ ss) r =
      let no : (e.key < a → ⊥) = λ lt. l.1 e.key lt (r.0, r.1, r.2) in (omega arith, r.1, r.2, r.3)

  pub visit_rises : (lo hi page : ℕ) (r : Option ℕ) → Least r (Hit P lo hi) → (ss : List Step) → Rises P lo hi ss → Rises P lo hi (visit page r ss)
  visit_rises lo hi page None l ss h = tt
  visit_rises lo hi page (Some a) l ss h = (l.0.0, l.0.1, l.0.2, rises_from_least lo hi a l ss h)

  finds_rise : (lo hi : ℕ) (es : List Entry) → LeafKeys lo hi es → Rises P lo hi (find_steps P es)
  finds_rise lo hi [] r = tt
  finds_rise lo hi (e ∷ es) r = go (P e.key) refl (finds_rise (suc e.key) hi es r.3)
    where
      go : (t : Bool) → P e.key ≡ t → Rises P (suc e.key) hi (find_steps P es) → Rises P lo hi (cond t (finds e ∷ find_steps P es) (find_steps P es))
      go true p ih = (r.0, r.1, p, ih)
      go false p ih = rises_lower lo (suc e.key) hi (omega (arith, r.0)) (find_steps P es) ih

  mutual
    pub steps_rise : (n : Node) (lo hi : ℕ) → Ordered n lo hi → Rises P lo hi (steps P n lo hi)
    steps_rise (leaf page es) lo hi o = visit_rises lo hi page (first P lo hi) (first_least P lo hi) (find_steps P es) (finds_rise lo hi es o)
    steps_rise (inner page ks) lo hi o = visit_rises lo hi page (first P lo hi) (first_least P lo hi) (steps_in P ks lo hi) (steps_rise_in ks lo hi o)

    pub steps_rise_in : (ks : Forest) (lo hi : ℕ) → OrderedIn ks lo hi → Rises P lo hi (steps_in P ks lo hi)
    steps_rise_in (last n) lo hi o = steps_rise n lo hi o
    steps_rise_in (more n key ks) lo hi o =
        rises_append lo key hi (omega (arith, o.0)) (omega (arith, o.1)) (steps P n lo key) (steps_in P ks (suc key) hi) (steps_rise n lo key o.2) (steps_rise_in ks (suc key) hi o.3)

  -- what is found from b on is not before a, for a up to b
  found_later : (a b top : ℕ) → a ≤ b → (ss : List Step) → Rises P b top ss → filter (not_before a) (found_of ss) ≡ found_of ss
  found_later a b top h [] r = refl
  found_later a b top h (reads page c ∷ ss) r = found_later a c top (omega (arith, r.0)) ss r.3
  found_later a b top h (finds e ∷ ss) r =
      let le : a ≤ e.key = omega (arith, r.0) in
      rw (le-leb a e.key le) (ap (λ xs. e ∷ xs) (found_later a (suc e.key) top (omega (arith, r.0)) ss r.3))

  -- a run that stopped at a: a passes, and what it found and the finds from a on are all
  pub run_stopped : (b top : ℕ) (ss : List Step) → Rises P b top ss → (charge room a : ℕ) → stopped_at (run ss charge room).ending ≡ Some a →
      (b ≤ a) × (P a ≡ true) × ((run ss charge room).found ++ filter (not_before a) (found_of ss) ≡ found_of ss)
  run_stopped b top [] r charge room a e = let z : ◌≡◌ {A = ℕ} 0 1 = cc in absurd (omega arith)
  run_stopped b top (reads page c ∷ ss) r zero room a e =
      let q : c ≡ a = cc in
      (omega (arith, r.0), sym (ap P q) ∙ r.2, found_later a c top (omega arith) ss r.3)
  run_stopped b top (reads page c ∷ ss) r (suc charge) room a e =
      let h = run_stopped c top ss r.3 charge room a e in (omega (arith, r.0, h.0), h.1, h.2)
  run_stopped b top (finds g ∷ ss) r charge zero a e =
      let q : g.key ≡ a = cc in
      (omega (arith, r.0), sym (ap P q) ∙ r.2, found_later a g.key top (omega arith) (finds g ∷ ss) (omega arith, r.1, r.2, r.3))
  run_stopped b top (finds g ∷ ss) r charge (suc room) a e =
      let h = run_stopped (suc g.key) top ss r.3 charge room a e in
      let lt : g.key < a = omega (arith, h.0) in
      (omega (arith, r.0), h.1, rw (lt-leb a g.key lt) (ap (λ xs. g ∷ xs) h.2))
